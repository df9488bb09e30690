use Rattle.std.proofs.Common.{◌∙◌}
use Rattle.whole_numbers.specs.Operators.{applied, outcome}
use Rattle.operand_plans.proofs.Outcomes.{applied_told, outcome_kept, word_of_passed}
use Rattle.operand_plans.proofs.constants.outcome.Goals as goal

pub returns : goal.returns
returns c =
    let x = c.args in
    let left = word_of_passed x.kind x.a c.bits_of.result c.ranges.a c.bits_of.ensures.value in
    let right = word_of_passed x.kind x.b c.bits_of-2.result c.ranges.b c.bits_of-2.ensures.value in
    let told = applied_told c.law_conversion.ensures c.law_values.ensures x.operator x.kind x.a x.b in
    c.known_answer.ensures (outcome x.operator x.kind x.a x.b)
    (c.apply.ensures.value ∙ (λ i. applied x.operator x.kind (left i) (right i))
    ∙ told c.requires.left c.requires.right)
    (outcome_kept c.law_conversion.ensures x.kind x.operator x.a x.b)
