use Rattle.std.proofs.Common.{◌≡◌, Some, None, refl, rules, arith}
use Rattle.std.proofs.lemmas.Grind.{common_steps}
use Rattle.scoped_names.specs.Names.{last_place}
use Rattle.form_parts.proofs.ScopeLemmas.{scope_names}
use Rattle.form_parts.proofs.scope.Scope.is_since.Goals as goal

pub returns-in-Some : goal.returns-in-Some
returns-in-Some c =
    let last : last_place c.self.inside.names c.args.name ≡ Some c.in-Some.variable = first_of (search rules, grind (arith, common_steps)) in
    rw (scope_names c.self.inside.names c.self.inside.sorts.items c.args.self.now c.self.view_is c.self.invariant, last) refl

pub returns-in-None : goal.returns-in-None
returns-in-None c =
    let last : last_place c.self.inside.names c.args.name ≡ None = first_of (search rules, grind (arith, common_steps)) in
    rw (scope_names c.self.inside.names c.self.inside.sorts.items c.args.self.now c.self.view_is c.self.invariant, last) refl
