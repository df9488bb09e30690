use Rattle.std.proofs.Common.{ap, sym, ◌∙◌}
use Rattle.well_typed.specs.Constants.{number_operator}
use Rattle.static_rules.specs.Constants.{known_outcome}
use Rattle.whole_numbers.specs.declared.operators.BinaryOperator.TheVariants.{ShiftLeft, ShiftRight}
use Rattle.whole_numbers.specs.Operators.{outcome, shifted}
use Rattle.operand_plans.proofs.Outcomes.{other_shift, outcome_kept, shifted_told, word_of_passed}
use Rattle.operand_plans.proofs.constants.shifted.Goals as goal

pub returns-in-ShiftLeft : goal.returns-in-ShiftLeft
returns-in-ShiftLeft c =
    let x = c.args in
    let left = word_of_passed x.kind x.a c.bits_of-left.result c.ranges.a c.bits_of-left.ensures.value in
    let right = word_of_passed x.count_kind x.count c.bits_of-right.result c.ranges.count c.bits_of-right.ensures.value in
    let told = shifted_told c.law_conversion.ensures c.law_values.ensures ShiftLeft x.kind x.count_kind x.a x.count in
    c.known_answer.ensures (outcome ShiftLeft x.kind x.a x.count)
    (c.shift_left.ensures.value ∙ (λ i. shifted ShiftLeft x.kind (left i) x.count_kind (right i))
    ∙ told c.requires.left c.requires.count)
    (outcome_kept c.law_conversion.ensures x.kind ShiftLeft x.a x.count)
    ∙ ap (λ o. known_outcome (outcome (number_operator o) x.kind x.a x.count)) (sym c.in-ShiftLeft.is)

pub returns-in_default : goal.returns-in_default
returns-in_default c =
    let x = c.args in
    let left = word_of_passed x.kind x.a c.bits_of-left.result c.ranges.a c.bits_of-left.ensures.value in
    let right = word_of_passed x.count_kind x.count c.bits_of-right.result c.ranges.count c.bits_of-right.ensures.value in
    let told = shifted_told c.law_conversion.ensures c.law_values.ensures ShiftRight x.kind x.count_kind x.a x.count in
    let is = other_shift x.operator c.requires.shift c.in_default.not-ShiftLeft in
    c.known_answer-in_default.ensures (outcome ShiftRight x.kind x.a x.count)
    (c.shift_right.ensures.value ∙ (λ i. shifted ShiftRight x.kind (left i) x.count_kind (right i))
    ∙ told c.requires.left c.requires.count)
    (outcome_kept c.law_conversion.ensures x.kind ShiftRight x.a x.count)
    ∙ ap (λ o. known_outcome (outcome (number_operator o) x.kind x.a x.count)) (sym is)
