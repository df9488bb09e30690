-- Values, variables and operators (C11 6.5.5, 6.5.6, 6.5.8, 6.5.9). Products, sums and differences wrap.
use Rattle.std.specs.Prelude.{ℕ, ◌%◌, ◌^◌, ℤ, pos, negsuc, List, Bool, true, false, not, ◌==◌, int_lt, int_le, slice_index_or}
use Rattle.std.specs.Int.{Width, w8, w32, w64, cast_signed, cast_unsigned, int_wrapping_add, int_wrapping_sub, int_wrapping_mul}
use Rattle.std.specs.Ordering.{int_eq}
use mir.Val.{bits}
use Rattle.heap_model.specs.declared.calls.AccessKind.{AccessKind}
use Rattle.heap_model.specs.declared.calls.AccessKind.TheVariants.{I8, I32}
use Rattle.plain_meaning.specs.declared.tree.Operator.{Operator}
use Rattle.plain_meaning.specs.declared.tree.Operator.TheVariants.{Multiply, Add, Subtract, Less, LessEqual, Equal}
use Rattle.plain_meaning.specs.declared.tree.Target.{Target}
use Rattle.plain_meaning.specs.declared.tree.Target.TheVariants.{Int, Char}
use Rattle.plain_meaning.specs.declared.scalar.Scalar.{Scalar}
use Rattle.plain_meaning.specs.declared.scalar.Scalar.TheVariants.{Number}
use Rattle.plain_meaning.specs.Points.{number_of}

-- the values of the variables in scope, the outermost first
abbrev pub Variables : Type 0 → Type 0
Variables P = List (Scalar P)

abbrev pub zero_of : {P : Type 0} → Scalar P
zero_of = Number (pos 0)

abbrev pub value_of : {P : Type 0} → Variables P → ℕ → ℤ
value_of variables x = number_of (slice_index_or variables x zero_of)

-- a comparison gives 1 where it holds, and else 0 (C11 6.5.8p6, 6.5.9p3)
abbrev pub truth : Bool → ℤ
truth true = pos 1
truth false = pos 0

-- whether an `if` takes its first branch, and a loop goes on (C11 6.8.4.1p2, 6.8.5p4)
abbrev pub is_true : ℤ → Bool
is_true (pos n) = not (n == 0)
is_true (negsuc n) = true

-- the operators on signed numbers of a width
abbrev pub operate : Width → Operator → ℤ → ℤ → ℤ
operate w Multiply a b = int_wrapping_mul w a b
operate w Add a b = int_wrapping_add w a b
operate w Subtract a b = int_wrapping_sub w a b
operate w Less a b = truth (int_lt a b)
operate w LessEqual a b = truth (int_le a b)
operate w Equal a b = truth (int_eq a b)

-- a number as one of a signed type of a width, of which the low bits are kept (C11 6.3.1.3)
abbrev pub conversion : Width → ℤ → ℤ
conversion w n = cast_signed w (cast_unsigned w64 n % 2 ^ bits w)

-- ---- the types that are pointed to. A plain char is signed.

abbrev pub type_of : Target → ℕ
type_of Int = 6
type_of Char = 2

abbrev pub size_of : Target → ℕ
size_of Int = 4
size_of Char = 1

abbrev pub width_of : Target → Width
width_of Int = w32
width_of Char = w8

abbrev pub kind_of : Target → AccessKind
kind_of Int = I32
kind_of Char = I8
