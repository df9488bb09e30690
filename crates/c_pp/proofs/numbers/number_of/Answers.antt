use Rattle.std.proofs.Common.{◌≡◌, ◌+◌, Some, None, refl, inl, inr, rules, arith}
use Rattle.std.proofs.lemmas.Grind.{common_steps}
use Rattle.std.specs.BTreeMap.{btree_map_len}
use Rattle.c_pp.specs.Numbering.{number_in}
use Rattle.c_pp.proofs.NumberLemmas.{number_in-update}
use Rattle.c_pp.proofs.numbers.number_of.Goals as goal

pub returns-in-Some : goal.returns-in-Some
returns-in-Some c =
    let has : number_in c.args.known.now c.args.name.items ≡ Some c.in-Some.number = first_of (search rules, grind (arith, common_steps)) in
    inl (has, refl)

pub returns-in_ok-insert-in-None : goal.returns-in_ok-insert-in-None
returns-in_ok-insert-in-None c =
    let none : number_in c.args.known.now c.args.name.items ≡ None = first_of (search rules, grind (arith, common_steps)) in
    let more : btree_map_len c.insert.new.self ≡ btree_map_len c.args.known.now + 1 = first_of (search rules, grind (arith, common_steps)) in
    inr (none, c.len-number.ensures.len, more, number_in-update c.args.known.now c.insert.new.self c.args.name.items (Some c.len-number.result) c.in_ok-insert-in-None.ensures.updates)
