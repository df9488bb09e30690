use Rattle.std.proofs.Common.{rules, ap, sym, subst, ◌∙◌}
use Rattle.std.proofs.lemmas.Int.{to_z-of_z}
use Rattle.std.specs.Int.{w128}
use Rattle.well_typed.specs.Kinds.{whole_type, wrapped}
use Rattle.whole_numbers.specs.Types.{IsNumberOf, number, word_of}
use Rattle.whole_numbers.specs.Types as w
use Rattle.operand_plans.proofs.Outcomes.{kept_number, word_of_passed}
use Rattle.operand_plans.proofs.kinds.wrapped.Goals as goal

pub returns-clause-value : goal.returns-clause-value
unfolding wrapped
returns-clause-value c =
    let kind = c.whole_type-kind.result in
    let bits = word_of_passed kind c.args.value c.bits_of.result c.ranges.value c.bits_of.ensures.value in
    to_z-of_z w128 c.number_of.result (search rules) ∙ c.number_of.ensures ∙ ap (number kind) bits
    ∙ kept_number c.law_conversion.ensures c.law_values.ensures kind c.args.value
    ∙ ap (λ k. w.wrapped k c.args.value) c.whole_type-kind.ensures

pub returns-clause-kept : goal.returns-clause-kept
unfolding wrapped
returns-clause-kept c =
    subst (IsNumberOf (whole_type c.args.kind)) (sym (returns-clause-value c))
    (c.law_conversion.ensures (whole_type c.args.kind) c.args.value).within
