use Rattle.std.proofs.Common.{◌∙◌, IfOk, refl, subst}
use Rattle.whole_numbers.specs.Types.{IsValue}
use Rattle.whole_numbers.specs.Operators.{answer_type}
use Rattle.whole_numbers.specs.declared.operators.BinaryOperator.TheVariants.{ShiftLeft, ShiftRight}
use Rattle.whole_numbers.proofs.Tables.{shift_evaluated, other_evaluated, not_shift}
use Rattle.whole_numbers.proofs.operators.BinaryOperator.evaluate.Goals as goal

pub returns-in-ShiftLeft-clause-value : goal.returns-in-ShiftLeft-clause-value
returns-in-ShiftLeft-clause-value c =
    let a = c.args in
    c.shift_left.ensures.value
    ∙ shift_evaluated a.self ShiftLeft _ a.left_kind a.right_kind a.left a.right _ c.in-ShiftLeft.is refl
    c.working_type-kind.ensures c.converted-left.ensures.value

pub returns-in-ShiftRight-clause-value : goal.returns-in-ShiftRight-clause-value
returns-in-ShiftRight-clause-value c =
    let a = c.args in
    c.shift_right.ensures.value
    ∙ shift_evaluated a.self ShiftRight _ a.left_kind a.right_kind a.left a.right _ c.in-ShiftRight.is refl
    c.working_type-kind.ensures c.converted-left.ensures.value

pub returns-in_default : goal.returns-in_default
returns-in_default c =
    let a = c.args in
    let other = not_shift a.self c.in_default.not-ShiftLeft c.in_default.not-ShiftRight in
    record {
      value =
          c.apply.ensures.value
          ∙ other_evaluated a.self _ a.left_kind a.right_kind a.left a.right _ _ other c.working_type-kind.ensures
          c.converted-left.ensures.value c.converted-right.ensures.value;
      kept = subst (λ kind. IfOk c.apply.result (IsValue (answer_type a.self kind))) c.working_type-kind.ensures
          c.apply.ensures.kept;
    }
