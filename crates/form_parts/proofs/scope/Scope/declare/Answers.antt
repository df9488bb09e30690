use Rattle.std.proofs.Common.{◌≡◌, ◌++◌, ◌∷◌, [], rules, arith}
use Rattle.std.proofs.lemmas.Grind.{common_steps}
use Rattle.form_parts.proofs.ScopeLemmas.{scope_declared}
use Rattle.form_parts.proofs.scope.Scope.declare.Goals as goal

pub returns-clause-ok : goal.returns-clause-ok
returns-clause-ok c =
    let called : c.declare.new.self ≡ c.self.inside.names ++ c.args.name ∷ [] = first_of (search rules, grind (arith, common_steps)) in
    let items : c.push-stored.new.self.items ≡ c.self.inside.sorts.items ++ c.args.sort ∷ [] = first_of (search rules, grind (arith, common_steps)) in
    scope_declared c.self.inside.names c.self.inside.sorts.items c.args.self.now c.self.view_is c.self.invariant c.declare.new.self c.push-stored.new.self.items c.args.name c.args.sort called items
