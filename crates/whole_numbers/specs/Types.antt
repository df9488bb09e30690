-- The types of whole numbers (C11 6.2.5): char, short, int and long, each signed or not, of 1, 2, 4 and 8 bytes. The
-- numbers that they have, the 64 bits that stand for a number, and the conversions (C11 6.3.1).
use Rattle.std.specs.Prelude.{ℕ, ◌/◌, ◌^◌, ◌<◌, ℤ, pos, neg_ℤ, ◌-ℤ◌, ◌≤ℤ◌, ◌<ℤ◌, Bool, ◌&&◌, true, false, nat_lt, nat_le, int_le, if◌then◌else◌, unsigned_abs}
use Rattle.std.specs.Int.{w64, cast_signed, int_rem_euclid}
use Rattle.whole_numbers.specs.declared.types.Width.{Width}
use Rattle.whole_numbers.specs.declared.types.Width.TheVariants.{One, Two, Four, Eight}
use Rattle.whole_numbers.specs.declared.types.WholeType.{WholeType}

-- ---- types and their numbers

abbrev pub width_bits : Width → ℕ
width_bits One = 8
width_bits Two = 16
width_bits Four = 32
width_bits Eight = 64

abbrev pub bits : WholeType → ℕ
bits kind = width_bits kind.width

-- how many numbers a type has
abbrev pub modulus : WholeType → ℕ
modulus kind = 2 ^ bits kind

-- the least number of a type, and the first that is too great for it (6.2.6.2, in two's complement)
abbrev pub least : WholeType → ℤ
least kind = if kind.signed then neg_ℤ (pos (modulus kind / 2)) else pos 0

abbrev pub limit : WholeType → ℤ
limit kind = if kind.signed then pos (modulus kind / 2) else pos (modulus kind)

pub record IsNumberOf (kind : WholeType) (z : ℤ) : Type 0 where
  pub from : least kind ≤ℤ z
  pub below : z <ℤ limit kind

-- ---- the 64 bits of a value

-- what is left of z modulo m: the one of the numbers from 0 to m - 1 that differs from z by a multiple of m
abbrev pub residue : ℕ → ℤ → ℕ
residue m z = unsigned_abs (int_rem_euclid z (pos m))

-- the bits of a number, the same in each type: a negative one has its sign in all upper bits
unfoldable pub word_of : ℤ → ℕ
word_of z = residue (2 ^ 64) z

-- the number that bits stand for: read in two's complement where the type is signed
unfoldable pub number : WholeType → ℕ → ℤ
number kind word = if kind.signed then cast_signed w64 word else pos word

-- bits that stand for a number of the type
pub record IsValue (kind : WholeType) (word : ℕ) : Type 0 where
  pub fits : word < 2 ^ 64
  pub within : IsNumberOf kind (number kind word)

-- ---- conversions

-- 6.3.1.3: the number of the type that differs from z by a multiple of how many numbers the type has. Where a signed
-- type lacks z, C11 lets the implementation choose, and this is what gcc does.
unfoldable pub wrapped : WholeType → ℤ → ℤ
wrapped kind z =
    let rest = residue (modulus kind) z in
    if kind.signed && nat_le (modulus kind / 2) rest then pos rest -ℤ pos (modulus kind) else pos rest

abbrev pub int : WholeType
int = record { width = Four; signed = true }

-- a type has all numbers of another
abbrev pub has_all : WholeType → WholeType → Bool
has_all kind other = int_le (least kind) (least other) && int_le (limit other) (limit kind)

-- 6.3.1.1p2: a type of which int has all numbers becomes int; the others stay
abbrev pub promoted : WholeType → WholeType
promoted kind = if has_all int kind then int else kind

-- 6.3.1.8, of promoted types: of two signed or two unsigned ones, that of greater rank
abbrev pub greater_rank : WholeType → WholeType → WholeType
greater_rank left right = if nat_lt (bits left) (bits right) then right else left

-- of one each, the unsigned one where its rank is not less; else the signed one where it has all numbers of that; else
-- the unsigned type of its width
abbrev pub of_both_signs : WholeType → WholeType → WholeType
of_both_signs unsigned signed =
    if nat_le (bits signed) (bits unsigned) then unsigned
    else if has_all signed unsigned then signed
    else record { width = signed.width; signed = false }

abbrev pub usual : WholeType → WholeType → WholeType
usual left right =
    if left.signed
    then (if right.signed then greater_rank left right else of_both_signs right left)
    else (if right.signed then of_both_signs left right else greater_rank left right)

-- the type in which an operator works on two operands
unfoldable pub common : WholeType → WholeType → WholeType
common left right = usual (promoted left) (promoted right)

-- a value of one type converted to another
unfoldable pub converted : WholeType → WholeType → ℕ → ℕ
converted to from word = word_of (wrapped to (number from word))
