use Rattle.std.proofs.Common.{◌≡◌, ◌++◌, ◌∷◌, [], Some, length, sym, subst, ◌∙◌, rules, arith}
use Rattle.std.specs.Prelude.{slice_get}
use Rattle.std.proofs.lemmas.Grind.{common_steps}
use Rattle.token_texts.specs.Indexed.{IsIndexed, number_in}
use Rattle.token_texts.proofs.Lists.{get-push}
use Rattle.token_texts.proofs.Distinct.{with_one-there}
use Rattle.token_texts.proofs.MapLemmas.{indexed_more, changes, Changes}
use Rattle.token_texts.proofs.table.Table.number_of.Goals as goal

pub returns-in-Some-clause-table : goal.returns-in-Some-clause-table
returns-in-Some-clause-table c =
    let here : number_in c.self.inside.numbers c.args.bytes.now ≡ Some c.in-Some.number.now = first_of (search rules, grind (arith, common_steps)) in
    let stands : slice_get c.args.self.now c.in-Some.number.now ≡ Some c.args.bytes.now =
    subst (λ l. slice_get l c.in-Some.number.now ≡ Some c.args.bytes.now) c.self.view_is (c.self.invariant.found c.args.bytes.now c.in-Some.number.now here) in
    sym (with_one-there c.args.self.now c.in-Some.number.now c.args.bytes.now stands)

pub returns-in-Some-clause-number : goal.returns-in-Some-clause-number
returns-in-Some-clause-number c =
    let here : number_in c.self.inside.numbers c.args.bytes.now ≡ Some c.in-Some.number.now = first_of (search rules, grind (arith, common_steps)) in
    subst (λ l. slice_get l c.in-Some.number.now ≡ Some c.args.bytes.now) c.self.view_is (c.self.invariant.found c.args.bytes.now c.in-Some.number.now here)

pub invariant_of-self-2 : goal.invariant_of-self-2
invariant_of-self-2 c =
    let key : c.in_ok-from_slice.field-0.items ≡ c.args.bytes.now = c.in_ok-from_slice.ensures.items in
    let number : c.in-Ok.number ≡ length c.self.inside.list.items = first_of (search rules, grind (arith, common_steps)) in
    let items : c.push-stored.new.self.items ≡ c.self.inside.list.items ++ c.args.bytes.now ∷ [] = first_of (search rules, grind (arith, common_steps)) in
    let change : Changes c.self.inside.numbers c.insert.new.self c.in_ok-from_slice.field-0.items (Some c.in-Ok.number) =
    changes c.self.inside.numbers c.insert.new.self c.in_ok-from_slice.field-0.items (Some c.in-Ok.number) c.in_ok-insert.ensures.updates in
    rw items (indexed_more c.self.inside.numbers c.insert.new.self c.self.inside.list.items c.args.bytes.now c.self.invariant (rw (← key, ← number) change))

pub returns-clause-number : goal.returns-clause-number
returns-clause-number c =
    let number : c.in-Ok.number ≡ length c.self.inside.list.items = first_of (search rules, grind (arith, common_steps)) in
    let items : c.push-stored.new.self.items ≡ c.self.inside.list.items ++ c.args.bytes.now ∷ [] = first_of (search rules, grind (arith, common_steps)) in
    rw (items, number) (get-push c.self.inside.list.items c.args.bytes.now)
