use Rattle.std.proofs.Common.{◌≡◌, ◌++◌, ◌∷◌, [], rules, arith}
use Rattle.std.proofs.lemmas.Grind.{common_steps}
use Rattle.c_types.specs.declared.kinds.Field.{Field}
use Rattle.declarator_rules.specs.Names.{HasNames}
use Rattle.declarator_rules.proofs.MemberLemmas.{names_push}
use Rattle.declarator_rules.proofs.fields.Fields.push.Goals as goal

pub invariant_of-self-2 : goal.invariant_of-self-2
invariant_of-self-2 c =
    let member : Field = record { name = c.args.spelling.now; kind = c.args.kind } in
    let items : c.push-stored.new.self.items ≡ c.self.inside.fields.items ++ member ∷ [] =
    first_of (search rules, grind (arith, common_steps)) in
    let key : c.in_ok-key.key.items ≡ c.args.spelling.now = c.in_ok-key.ensures.items in
    let named : HasNames c.insert.new.self (c.self.inside.fields.items ++ member ∷ []) =
    names_push c.self.inside.names c.insert.new.self c.in_ok-key.key c.self.inside.fields.items member c.self.invariant key
    c.in_ok-insert.ensures.updates in
    rw items named
