use Rattle.std.proofs.Common.{◌≡◌, take, rules, arith}
use Rattle.std.proofs.lemmas.Grind.{common_steps}
use Rattle.form_parts.proofs.ScopeLemmas.{scope_closed}
use Rattle.form_parts.proofs.scope.Scope.close.Goals as goal

pub returns : goal.returns
returns c =
    let called : c.close.new.self ≡ take c.args.start c.self.inside.names = first_of (search rules, grind (arith, common_steps)) in
    let items : c.truncate.new.self.items ≡ take c.args.start c.self.inside.sorts.items = first_of (search rules, grind (arith, common_steps)) in
    scope_closed c.self.inside.names c.self.inside.sorts.items c.args.self.now c.self.view_is c.self.invariant c.close.new.self c.truncate.new.self.items c.args.start called items
