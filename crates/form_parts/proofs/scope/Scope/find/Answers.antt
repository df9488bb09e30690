use Rattle.std.proofs.Common.{◌≡◌, Some, None, refl, rules, arith}
use Rattle.std.specs.Prelude.{slice_get}
use Rattle.std.proofs.lemmas.Grind.{common_steps}
use Rattle.scoped_names.specs.Names.{last_place}
use Rattle.form_parts.proofs.ScopeLemmas.{scope_meaning}
use Rattle.form_parts.proofs.scope.Scope.find.Goals as goal

pub returns-in_default : goal.returns-in_default
returns-in_default c =
    let last : last_place c.self.inside.names c.args.name ≡ None = first_of (search rules, grind (arith, common_steps)) in
    rw (scope_meaning c.self.inside.names c.self.inside.sorts.items c.args.self.now c.self.view_is c.self.invariant c.args.name, last) refl

pub returns-in-Some-sort_at : goal.returns-in-Some-sort_at
returns-in-Some-sort_at c =
    let last : last_place c.self.inside.names c.args.name ≡ Some c.in-Some.variable = first_of (search rules, grind (arith, common_steps)) in
    let held : slice_get c.self.inside.sorts.items c.in-Some.variable ≡ Some c.in-Some-sort_at.sort = first_of (search rules, grind (arith, common_steps)) in
    rw (scope_meaning c.self.inside.names c.self.inside.sorts.items c.args.self.now c.self.view_is c.self.invariant c.args.name, last, held) refl

pub returns-in-None : goal.returns-in-None
returns-in-None c =
    let last : last_place c.self.inside.names c.args.name ≡ Some c.in-Some.variable = first_of (search rules, grind (arith, common_steps)) in
    let held : slice_get c.self.inside.sorts.items c.in-Some.variable ≡ None = first_of (search rules, grind (arith, common_steps)) in
    rw (scope_meaning c.self.inside.names c.self.inside.sorts.items c.args.self.now c.self.view_is c.self.invariant c.args.name, last, held) refl
