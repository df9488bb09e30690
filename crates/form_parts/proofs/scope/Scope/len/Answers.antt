use Rattle.std.proofs.Common.{rules, arith}
use Rattle.std.proofs.lemmas.Grind.{common_steps}
use Rattle.form_parts.proofs.ScopeLemmas.{scope_length}
use Rattle.form_parts.proofs.scope.Scope.len.Goals as goal

pub returns : goal.returns
returns c =
    let e = scope_length c.self.inside.names c.self.inside.sorts.items c.args.self.now c.self.view_is c.self.invariant in
    first_of (search rules, grind (arith, common_steps))
