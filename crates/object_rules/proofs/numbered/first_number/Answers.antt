use Rattle.std.proofs.Common.{◌≡◌, ◌∙◌, sym, ap, Some, None, rules, arith}
use Rattle.std.specs.BTreeMap.{get, Updates}
use Rattle.std.specs.Ordering.{nat_cmp}
use Rattle.std.proofs.lemmas.Grind.{common_steps}
use Rattle.object_rules.proofs.NumberLemmas.{number_more, number_again}
use Rattle.object_rules.proofs.numbered.first_number.Goals as goal

pub returns-in-Some-clause-ok : goal.returns-in-Some-clause-ok
returns-in-Some-clause-ok c = λ names count numbered.
    let found : get nat_cmp c.args.numbers.now c.args.name ≡ Some c.in-Some.field-0.now =
    first_of (search rules, grind (arith, common_steps)) in
    number_again c.args.numbers.now names c.args.name c.in-Some.field-0.now numbered found

pub returns-in-Ok-clause-ok : goal.returns-in-Ok-clause-ok
returns-in-Ok-clause-ok c = λ names count numbered.
    let none : get nat_cmp c.args.numbers.now c.args.name ≡ None = first_of (search rules, grind (arith, common_steps)) in
    let updates : Updates nat_cmp c.args.numbers.now c.insert.new.self c.args.name (Some c.args.number) = c.in-Ok.ensures.updates in
    number_more c.args.numbers.now c.insert.new.self names c.args.name numbered none
    (rw count updates)
