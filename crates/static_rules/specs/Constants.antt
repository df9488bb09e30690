-- Constant expressions of whole numbers (C11 6.6): what is known of an operator's result, where it is of its operands. One
-- that is evaluated and has no value traps. They have no places, calls, assignments and commas.
use Rattle.std.specs.Prelude.{ℕ, ℤ, pos, Bool, true, false, ◌&&◌, not, Result, Ok, Err, if◌then◌else◌}
use Rattle.std.specs.Ordering.{int_eq}
use Rattle.c_tree.specs.declared.operators.Operator.{Operator}
use Rattle.c_tree.specs.declared.operators.Comparison.{Comparison}
use Rattle.c_tree.specs.declared.operators.LogicalOperator.{LogicalOperator}
use Rattle.c_tree.specs.declared.operators.LogicalOperator.TheVariants as logical
use Rattle.c_tree.specs.declared.operators.UnaryOperator.{UnaryOperator}
use Rattle.whole_numbers.specs.declared.trap.Trap.{Trap}
use Rattle.whole_numbers.specs.Operators.{outcome, unary_outcome, truth}
use Rattle.well_typed.specs.Constants.{number_operator, number_comparison, single_operator}
use Rattle.well_typed.specs.Kinds.{whole_type, wrapped}
use Rattle.static_rules.specs.declared.judged.Known.{Known}
use Rattle.static_rules.specs.declared.judged.Known.TheVariants as known

-- ---- what is known of a result

-- a constant expression of whole numbers, also one that traps where it is evaluated
abbrev pub is_constant : Known → Bool
is_constant (known.Number n) = true
is_constant known.Traps = true
is_constant known.Nothing = false
is_constant known.NullPointer = false

abbrev pub known_outcome : Result ℤ Trap → Known
known_outcome (Ok n) = known.Number n
known_outcome (Err trap) = known.Traps

-- a number as one of another type (C11 6.3.1.3)
abbrev pub known_as : ℕ → Known → Known
known_as kind (known.Number n) = known.Number (wrapped kind n)
known_as kind known.Traps = known.Traps
known_as kind known.Nothing = known.Nothing
known_as kind known.NullPointer = known.Nothing

abbrev pub known_of_one : (ℤ → Known) → Known → Known
known_of_one f (known.Number n) = f n
known_of_one f known.Traps = known.Traps
known_of_one f known.Nothing = known.Nothing
known_of_one f known.NullPointer = known.Nothing

abbrev pub trap_if : Bool → Known
trap_if true = known.Traps
trap_if false = known.Nothing

-- an operator that evaluates both operands: it traps where one of them does
abbrev pub known_of_both : (ℤ → ℤ → Known) → Known → Known → Known
known_of_both f (known.Number a) (known.Number b) = f a b
known_of_both f a b = trap_if (is_constant a && is_constant b)

-- operands of one type, or those of a shift (C11 6.5.5 to 6.5.7, 6.5.10 to 6.5.12)
unfoldable pub known_binary : Operator → ℕ → Known → Known → Known
known_binary operator kind a b = known_of_both (λ x y. known_outcome (outcome (number_operator operator) (whole_type kind) x y)) a b

-- C11 6.5.8, 6.5.9
unfoldable pub known_comparison : Comparison → ℕ → Known → Known → Known
known_comparison comparison kind a b =
    known_of_both (λ x y. known_outcome (outcome (number_comparison comparison) (whole_type kind) x y)) a b

-- C11 6.5.3.3
unfoldable pub known_unary : UnaryOperator → ℕ → Known → Known
known_unary operator kind a = known_of_one (λ x. known.Number (unary_outcome (single_operator operator) (whole_type kind) x)) a

abbrev pub is_true : ℤ → Bool
is_true n = not (int_eq n (pos 0))

unfoldable pub known_not : Known → Known
known_not a = known_of_one (λ x. known.Number (truth (not (is_true x)))) a

-- ---- what is evaluated only where another operand wants it

abbrev pub known_truth : Known → Known
known_truth a = known_of_one (λ x. known.Number (truth (is_true x))) a

-- the left operand decides (C11 6.5.13p4, 6.5.14p4)
abbrev pub decides : LogicalOperator → ℤ → Bool
decides logical.And n = not (is_true n)
decides logical.Or n = is_true n

abbrev pub known_right : LogicalOperator → ℤ → Known → Known
known_right operator n b = if decides operator n then known.Number (truth (is_true n)) else known_truth b

abbrev pub known_logical_by : LogicalOperator → Known → Known → Known
known_logical_by operator (known.Number n) b = known_right operator n b
known_logical_by operator a b = a

unfoldable pub known_logical : LogicalOperator → Known → Known → Known
known_logical operator a b = if is_constant a && is_constant b then known_logical_by operator a b else known.Nothing

abbrev pub known_chosen : Known → Known → Known → Known
known_chosen (known.Number n) a b = if is_true n then a else b
known_chosen test a b = test

-- one of the last two operands is evaluated (C11 6.5.15p4)
unfoldable pub known_conditional : Known → Known → Known → Known
known_conditional test a b =
    if is_constant test && (is_constant a && is_constant b) then known_chosen test a b else known.Nothing
