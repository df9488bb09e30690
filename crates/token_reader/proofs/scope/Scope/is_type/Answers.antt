use Rattle.std.proofs.Common.{◌≡◌, Some, None, rules, arith}
use Rattle.std.proofs.lemmas.Grind.{common_steps}
use Rattle.scoped_names.specs.Names.{last_place}
use Rattle.token_reader.proofs.ScopeLemmas.{scope_is_type}
use Rattle.token_reader.proofs.scope.Scope.is_type.Goals as goal

pub returns-in-Some : goal.returns-in-Some
returns-in-Some c =
    let last : last_place c.self.inside.names c.args.name ≡ Some c.in-Some.place = first_of (search rules, grind (arith, common_steps)) in
    let e = scope_is_type c.self.inside.names c.self.inside.kinds.items c.args.self.now c.self.view_is c.self.invariant c.args.name in
    first_of (search rules, grind (arith, common_steps))

pub returns-in-None : goal.returns-in-None
returns-in-None c =
    let last : last_place c.self.inside.names c.args.name ≡ None = first_of (search rules, grind (arith, common_steps)) in
    let e = scope_is_type c.self.inside.names c.self.inside.kinds.items c.args.self.now c.self.view_is c.self.invariant c.args.name in
    first_of (search rules, grind (arith, common_steps))
