-- What number parts print (C11 7.21.6.1).
use Rattle.std.specs.Prelude.{ℕ, ◌-◌, ◌%◌, ◌^◌, ℤ, pos, negsuc, unsigned_abs, Bool, false, if◌then◌else◌, min, List, [], ◌∷◌, ◌++◌, length, replicate, decimal, codes}
use Rattle.std.specs.Fmt.{digits}
use Rattle.std.specs.Int.{w32, w64, cast_signed}
use Rattle.c_print.specs.declared.parts.Flag.{Flag}
use Rattle.c_print.specs.declared.parts.Flag.TheVariants.{Bare, Minus, Zero}
use Rattle.c_print.specs.declared.parts.Letter.{Letter}
use Rattle.c_print.specs.declared.parts.Letter.TheVariants.{D, I, U, X, C}
use Rattle.c_print.specs.declared.parts.Part.{Part}
use Rattle.c_print.specs.declared.parts.Part.TheVariants.{Number}

-- ---- before filling

-- a sign, and what stands after it
pub record Unfilled : Type 0 where
  pub sign : List ℕ
  pub rest : List ℕ

abbrev pub bare : List ℕ → Unfilled
bare bytes = record { sign = []; rest = bytes }

-- the bits that count: all 64, or the lowest 32
abbrev pub unsigned_of : Bool → ℕ → ℕ
unsigned_of long bits = if long then bits else bits % 2 ^ 32

-- the same bits as a signed number, in two's complement (C11 6.2.6.2)
abbrev pub signed_of : Bool → ℕ → ℤ
signed_of long bits = if long then cast_signed w64 bits else cast_signed w32 (bits % 2 ^ 32)

abbrev pub sign_of : ℤ → List ℕ
sign_of (pos _) = []
sign_of (negsuc _) = codes "-"

abbrev pub signed : ℤ → Unfilled
signed n = record { sign = sign_of n; rest = decimal (unsigned_abs n) }

-- what a letter prints of the bits
abbrev pub unfilled : Letter → Bool → ℕ → Unfilled
unfilled D long bits = signed (signed_of long bits)
unfilled I long bits = signed (signed_of long bits)
unfilled U long bits = bare (decimal (unsigned_of long bits))
unfilled X long bits = bare (digits 16 false (unsigned_of long bits))
unfilled C long bits = bare ((bits % 256) ∷ [])

-- ---- widths

-- A width that no format has counts as the largest.
abbrev pub width_of : ℕ → ℕ
width_of width = min width 99

-- how many bytes a text of this length lacks
abbrev pub lack : ℕ → ℕ → ℕ
lack width bytes = width_of width - bytes

-- a shorter text filled to the width: with spaces at the left or, under `-`, at the right, or with zeros after a sign
abbrev pub filled : Flag → ℕ → Unfilled → List ℕ
filled Bare width n = replicate (lack width (length (n.sign ++ n.rest))) 32 ++ (n.sign ++ n.rest)
filled Minus width n = n.sign ++ n.rest ++ replicate (lack width (length (n.sign ++ n.rest))) 32
filled Zero width n = n.sign ++ replicate (lack width (length (n.sign ++ n.rest))) 48 ++ n.rest

-- ---- parts

abbrev pub IsNumber : Part → Type 0
IsNumber (Number letter flag width long) = Unit {0}
IsNumber _ = ⊥

-- the bytes that a number part prints of an argument's bits
abbrev pub printed : Part → ℕ → List ℕ
printed (Number letter flag width long) bits = filled flag width (unfilled letter long bits)
printed _ bits = []
