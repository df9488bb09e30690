use Rattle.std.proofs.Common.{◌≡◌, rules, ap, sym, ◌∙◌}
use Rattle.std.proofs.lemmas.Int.{to_z-of_z}
use Rattle.std.specs.Int.{w128}
use Rattle.static_rules.specs.declared.judged.Known.TheVariants as known
use Rattle.well_typed.specs.Constants.{single_operator}
use Rattle.static_rules.specs.Constants.{known_of_one, known_unary}
use Rattle.well_typed.specs.Kinds.{whole_type}
use Rattle.whole_numbers.specs.Operators.{unary_applied, unary_outcome}
use Rattle.whole_numbers.specs.Types.{number, word_of, wrapped}
use Rattle.operand_plans.proofs.Outcomes.{unary_told, word_of_passed}
use Rattle.operand_plans.proofs.constants.known_unary.Goals as goal

pub returns-in-Number : goal.returns-in-Number
unfolding known_unary
returns-in-Number c =
    let operator = single_operator c.args.operator in
    let n = c.in-Number.n in
    let kind = c.whole_type-kind.result in
    let word = word_of_passed kind n c.bits_of.result (search rules) c.bits_of.ensures.value in
    let bits : c.apply-bits.result ≡ unary_applied operator kind (word_of (wrapped kind n)) =
    c.apply-bits.ensures.value ∙ (λ i. unary_applied (c.single_operator.ensures i) kind (word i)) in
    ap known.Number
    (to_z-of_z w128 c.number_of.result (search rules) ∙ c.number_of.ensures ∙ ap (number kind) bits
    ∙ unary_told c.law_conversion.ensures c.law_values.ensures c.args.operator kind n
    ∙ ap (λ k. unary_outcome operator k n) c.whole_type-kind.ensures)
    ∙ ap (known_of_one (λ x. known.Number (unary_outcome operator (whole_type c.args.kind) x))) (sym c.in-Number.is)
