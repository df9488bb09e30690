-- The operators on whole numbers (C11 6.5.3.3 and 6.5.5 to 6.5.12): one table over numbers, with the type as its
-- parameter.
use Rattle.std.specs.Prelude.{ℕ, ◌^◌, ℤ, pos, negsuc, neg_ℤ, ◌+ℤ◌, ◌-ℤ◌, ◌*ℤ◌, Bool, true, false, ◌&&◌, not, nat_lt, if◌then◌else◌, bit_and, bit_or, bit_xor, int_lt, int_div, int_rem, Option, Some, None, Result, Ok, Err}
use Rattle.std.specs.Int.{int_shr}
use Rattle.std.specs.Ordering.{int_eq}
use Rattle.whole_numbers.specs.Types.{bits, modulus, least, residue, word_of, number, wrapped, int, promoted, common}
use Rattle.whole_numbers.specs.declared.types.WholeType.{WholeType}
use Rattle.whole_numbers.specs.declared.trap.Trap.{Trap}
use Rattle.whole_numbers.specs.declared.trap.Trap.TheVariants.{ZeroDivide, Overflow, ShiftCount}
use Rattle.whole_numbers.specs.declared.operators.BinaryOperator.{BinaryOperator}
use Rattle.whole_numbers.specs.declared.operators.BinaryOperator.TheVariants.{Multiply, Divide, Remainder, Add, Subtract, ShiftLeft, ShiftRight, Less, Greater, LessEqual, GreaterEqual, Equal, NotEqual, And, ExclusiveOr, Or}
use Rattle.whole_numbers.specs.declared.unary.UnaryOperator.{UnaryOperator}
use Rattle.whole_numbers.specs.declared.unary.UnaryOperator.TheVariants.{Plus, Minus, Complement, Not}

-- ---- rules

-- a comparison answers 0 or 1 (6.5.8p6, 6.5.9p3)
abbrev pub truth : Bool → ℤ
truth b = if b then pos 1 else pos 0

-- 6.5.5p5 and p6: nothing is divided by 0, nor the least number of a type by -1, whose quotient the type lacks
abbrev pub dividing_trap : WholeType → ℤ → ℤ → Option Trap
dividing_trap kind a b =
    if int_eq b (pos 0) then Some ZeroDivide
    else if int_eq a (least kind) && int_eq b (negsuc 0) then Some Overflow
    else None

abbrev pub unless : Option Trap → ℤ → Result ℤ Trap
unless None z = Ok z
unless (Some trap) z = Err trap

abbrev pub quotient_rule : WholeType → ℤ → ℤ → ℤ → Result ℤ Trap
quotient_rule kind a b value = unless (dividing_trap kind a b) (wrapped kind value)

-- 6.5.7p3: a count is from 0 to one less than the bits of the left operand's type
abbrev pub shift_rule : WholeType → (ℕ → ℤ) → ℤ → Result ℤ Trap
shift_rule kind value (pos count) = if nat_lt count (bits kind) then Ok (wrapped kind (value count)) else Err ShiftCount
shift_rule kind value (negsuc count) = Err ShiftCount

-- 6.5.10 to 6.5.12: bit by bit, over the bits of the type
abbrev pub bitwise : (ℕ → ℕ → ℕ) → WholeType → ℤ → ℤ → ℤ
bitwise f kind a b = wrapped kind (pos (f (residue (modulus kind) a) (residue (modulus kind) b)))

-- ---- the tables

-- What an operator makes of two numbers of a type. The right one of a shift may be of another.
unfoldable pub outcome : BinaryOperator → WholeType → ℤ → ℤ → Result ℤ Trap
outcome Multiply kind a b = Ok (wrapped kind (a *ℤ b))
outcome Divide kind a b = quotient_rule kind a b (int_div a b)
outcome Remainder kind a b = quotient_rule kind a b (int_rem a b)
outcome Add kind a b = Ok (wrapped kind (a +ℤ b))
outcome Subtract kind a b = Ok (wrapped kind (a -ℤ b))
outcome ShiftLeft kind a b = shift_rule kind (λ count. a *ℤ pos (2 ^ count)) b
outcome ShiftRight kind a b = shift_rule kind (λ count. int_shr a count) b
outcome Less kind a b = Ok (truth (int_lt a b))
outcome Greater kind a b = Ok (truth (int_lt b a))
outcome LessEqual kind a b = Ok (truth (not (int_lt b a)))
outcome GreaterEqual kind a b = Ok (truth (not (int_lt a b)))
outcome Equal kind a b = Ok (truth (int_eq a b))
outcome NotEqual kind a b = Ok (truth (not (int_eq a b)))
outcome And kind a b = Ok (bitwise bit_and kind a b)
outcome ExclusiveOr kind a b = Ok (bitwise bit_xor kind a b)
outcome Or kind a b = Ok (bitwise bit_or kind a b)

-- ~ turns each bit: in two's complement this is -1 - a
unfoldable pub unary_outcome : UnaryOperator → WholeType → ℤ → ℤ
unary_outcome Plus kind a = wrapped kind a
unary_outcome Minus kind a = wrapped kind (neg_ℤ a)
unary_outcome Complement kind a = wrapped kind (negsuc 0 -ℤ a)
unary_outcome Not kind a = truth (int_eq a (pos 0))

-- ---- the types of operands and of answers

abbrev pub is_shift : BinaryOperator → Bool
is_shift ShiftLeft = true
is_shift ShiftRight = true
is_shift _ = false

abbrev pub compares : BinaryOperator → Bool
compares Less = true
compares Greater = true
compares LessEqual = true
compares GreaterEqual = true
compares Equal = true
compares NotEqual = true
compares _ = false

-- the type in which an operator works: a shift in its promoted left operand's (6.5.7p3), others in the common one
abbrev pub working_type : BinaryOperator → WholeType → WholeType → WholeType
working_type operator left right = if is_shift operator then promoted left else common left right

-- the type of its answer where it works in a type
abbrev pub answer_type : BinaryOperator → WholeType → WholeType
answer_type operator kind = if compares operator then int else kind

abbrev pub result_type : BinaryOperator → WholeType → WholeType → WholeType
result_type operator left right = answer_type operator (working_type operator left right)

abbrev pub unary_answer_type : UnaryOperator → WholeType → WholeType
unary_answer_type Not kind = int
unary_answer_type _ kind = kind

abbrev pub unary_result_type : UnaryOperator → WholeType → WholeType
unary_result_type operator kind = unary_answer_type operator (promoted kind)

-- ---- over bits

-- the bits of an answer
abbrev pub in_bits : Result ℤ Trap → Result ℕ Trap
in_bits (Ok z) = Ok (word_of z)
in_bits (Err trap) = Err trap

-- an operator on operands of one type
unfoldable pub applied : BinaryOperator → WholeType → ℕ → ℕ → Result ℕ Trap
applied operator kind left right = in_bits (outcome operator kind (number kind left) (number kind right))

-- a shift by a count of any type
unfoldable pub shifted : BinaryOperator → WholeType → ℕ → WholeType → ℕ → Result ℕ Trap
shifted operator kind left count_kind count =
    in_bits (outcome operator kind (number kind left) (number count_kind count))

-- The right operand of an operator: a shift takes its number as it is, since promotion keeps it.
abbrev pub right_number : BinaryOperator → WholeType → WholeType → ℕ → ℤ
right_number operator kind right_kind right =
    if is_shift operator then number right_kind right else wrapped kind (number right_kind right)

-- an operator on operands of their own types, which are converted first
unfoldable pub evaluated : BinaryOperator → WholeType → ℕ → WholeType → ℕ → Result ℕ Trap
evaluated operator left_kind left right_kind right =
    let kind = working_type operator left_kind right_kind in
    in_bits (outcome operator kind (wrapped kind (number left_kind left)) (right_number operator kind right_kind right))

unfoldable pub unary_applied : UnaryOperator → WholeType → ℕ → ℕ
unary_applied operator kind word = word_of (unary_outcome operator kind (number kind word))

unfoldable pub unary_evaluated : UnaryOperator → WholeType → ℕ → ℕ
unary_evaluated operator kind word =
    word_of (unary_outcome operator (promoted kind) (wrapped (promoted kind) (number kind word)))
