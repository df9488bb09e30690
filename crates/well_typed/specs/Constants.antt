-- Constant expressions of whole numbers in a typed tree (C11 6.6p6), and null pointer constants (6.3.2.3p3).
use Rattle.std.specs.Prelude.{◌≡◌, ℕ, ℤ, pos, if◌then◌else◌, Option, Some, None, Result, Ok, Err}
use Rattle.std.specs.Ordering.{int_eq}
use Rattle.c_types.specs.Table.{Types}
use Rattle.whole_numbers.specs.declared.trap.Trap.{Trap}
use Rattle.whole_numbers.specs.declared.operators.BinaryOperator.{BinaryOperator}
use Rattle.whole_numbers.specs.declared.operators.BinaryOperator.TheVariants as on_numbers
use Rattle.whole_numbers.specs.declared.unary.UnaryOperator.{UnaryOperator as NumberOperator}
use Rattle.whole_numbers.specs.declared.unary.UnaryOperator.TheVariants as on_number
use Rattle.whole_numbers.specs.Operators.{outcome, unary_outcome}
use Rattle.c_tree.specs.declared.operators.Operator.{Operator}
use Rattle.c_tree.specs.declared.operators.Operator.TheVariants as operator
use Rattle.c_tree.specs.declared.operators.Comparison.{Comparison}
use Rattle.c_tree.specs.declared.operators.Comparison.TheVariants as comparison
use Rattle.c_tree.specs.declared.operators.LogicalOperator.{LogicalOperator}
use Rattle.c_tree.specs.declared.operators.LogicalOperator.TheVariants as logical
use Rattle.c_tree.specs.declared.operators.UnaryOperator.{UnaryOperator}
use Rattle.c_tree.specs.declared.operators.UnaryOperator.TheVariants as unary
use Rattle.c_tree.specs.declared.operators.Written.TheVariants as written
use Rattle.c_tree.specs.declared.values.At.{At}
use Rattle.c_tree.specs.declared.values.Place.{Place-F}
use Rattle.c_tree.specs.declared.values.Value.{Value, Value-F, fold-Value, out-Value}
use Rattle.well_typed.specs.Kinds.{whole_type, wrapped, target}

-- ---- operators of the tree as operators on whole numbers

abbrev pub number_operator : Operator → BinaryOperator
number_operator operator.Multiply = on_numbers.Multiply
number_operator operator.Divide = on_numbers.Divide
number_operator operator.Remainder = on_numbers.Remainder
number_operator operator.Add = on_numbers.Add
number_operator operator.Subtract = on_numbers.Subtract
number_operator operator.ShiftLeft = on_numbers.ShiftLeft
number_operator operator.ShiftRight = on_numbers.ShiftRight
number_operator operator.And = on_numbers.And
number_operator operator.ExclusiveOr = on_numbers.ExclusiveOr
number_operator operator.Or = on_numbers.Or

abbrev pub number_comparison : Comparison → BinaryOperator
number_comparison comparison.Equal = on_numbers.Equal
number_comparison comparison.NotEqual = on_numbers.NotEqual
number_comparison comparison.Less = on_numbers.Less
number_comparison comparison.Greater = on_numbers.Greater
number_comparison comparison.LessEqual = on_numbers.LessEqual
number_comparison comparison.GreaterEqual = on_numbers.GreaterEqual

abbrev pub single_operator : UnaryOperator → NumberOperator
single_operator unary.Plus = on_number.Plus
single_operator unary.Minus = on_number.Minus
single_operator unary.Complement = on_number.Complement

-- ---- constant expressions

-- Nothing for what is no constant expression; else its value, or the trap that it meets.
abbrev pub Constant : Type 0
Constant = Option (Result ℤ Trap)

abbrev pub number_from : Result ℤ Trap → (ℤ → Result ℤ Trap) → Result ℤ Trap
number_from (Ok n) next = next n
number_from (Err trap) next = Err trap

-- of one constant, and of two
abbrev pub from_one : Constant → (ℤ → Result ℤ Trap) → Constant
from_one (Some x) next = Some (number_from x next)
from_one None next = None

abbrev pub from_two : Constant → Constant → (ℤ → ℤ → Result ℤ Trap) → Constant
from_two (Some x) (Some y) next = Some (number_from x (λ a. number_from y (next a)))
from_two _ _ next = None

abbrev pub truth_of : ℤ → ℤ
truth_of n = if int_eq n (pos 0) then pos 0 else pos 1

-- The right operand is evaluated only where the left one does not decide (C11 6.5.13p4, 6.5.14p4).
abbrev pub decided : LogicalOperator → ℤ → Result ℤ Trap → Result ℤ Trap
decided logical.And a y = if int_eq a (pos 0) then Ok (pos 0) else number_from y (λ b. Ok (truth_of b))
decided logical.Or a y = if int_eq a (pos 0) then number_from y (λ b. Ok (truth_of b)) else Ok (pos 1)

abbrev pub logical_constant : LogicalOperator → Constant → Constant → Constant
logical_constant o (Some x) (Some y) = Some (number_from x (λ a. decided o a y))
logical_constant o _ _ = None

-- One of the last two operands is evaluated (C11 6.5.15p4).
abbrev pub chosen : ℤ → Result ℤ Trap → Result ℤ Trap → Result ℤ Trap
chosen test x y = if int_eq test (pos 0) then y else x

abbrev pub conditional_constant : Constant → Constant → Constant → Constant
conditional_constant (Some test) (Some x) (Some y) = Some (number_from test (λ n. chosen n x y))
conditional_constant _ _ _ = None

abbrev pub constant_step : Value-F (Unit {0}) Constant → Constant
constant_step (Value-F.Number at number) = Some (Ok number)
constant_step (Value-F.Convert at how value) = from_one value (λ n. Ok (wrapped at.kind n))
constant_step (Value-F.Unary at o value) =
    from_one value (λ n. Ok (unary_outcome (single_operator o) (whole_type at.kind) n))
constant_step (Value-F.Binary at o left right) = from_two left right (outcome (number_operator o) (whole_type at.kind))
constant_step (Value-F.Compare at c left right) =
    from_two left right (outcome (number_comparison c) (whole_type at.kind))
constant_step (Value-F.Not at value) = from_one value (λ n. Ok (unary_outcome on_number.Not (whole_type at.kind) n))
constant_step (Value-F.Logical at o left right) = logical_constant o left right
constant_step (Value-F.Conditional at test one other) = conditional_constant test one other
constant_step _ = None

abbrev pub no_constant : Place-F (Unit {0}) Constant → Unit {0}
no_constant place = tt

-- The value of a constant expression of whole numbers. A trap counts only where it is evaluated.
unfoldable pub constant : Value → Constant
constant = fold-Value (Unit {0}) Constant no_constant constant_step

-- ---- null pointer constants

-- A constant expression of value 0, such a one cast to `void *`, or `NULL`.
pub data IsNullConstant (types : Types) : Value → Type 0 where
  zero : {value : Value} → constant value ≡ Some (Ok (pos 0)) → IsNullConstant types value
  void_zero : {value operand : Value} {kind line : ℕ} →
      out-Value value ≡ Value-F.NullPointer (record { kind = kind; line = line }) written.Cast operand →
      target types kind ≡ Some 1 → constant operand ≡ Some (Ok (pos 0)) → IsNullConstant types value
  named : {value : Value} {at : At} → out-Value value ≡ Value-F.Null at → IsNullConstant types value
