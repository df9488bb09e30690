-- Numbers, the bits that stand for them, and what a type keeps of them.
use Rattle.std.proofs.Common.{◌≡◌, ℕ, suc, ◌+◌, ◌-◌, ◌*◌, ◌/◌, ◌%◌, ◌^◌, ◌<◌, ◌≤◌, ℤ, pos, negsuc, ◌-ℤ◌, Bool, true, false, ◌&&◌, nat_le, refl, ap, sym, subst, ◌∙◌, arith, inl, inr, if◌then◌else◌}
use Rattle.std.proofs.lemmas.Int.{ints, to_z-of_z, to_z_pos}
use Rattle.std.proofs.lemmas.Bool.{cases_lt}
use Rattle.std.proofs.lemmas.Nat.{and_mask}
use Rattle.std.specs.Int.{w64, cast_signed}
use Rattle.std.specs.Prelude.{bit_and}
use Rattle.whole_numbers.specs.Types.{width_bits, modulus, residue, word_of, number, wrapped, IsNumberOf, IsValue}
use Rattle.whole_numbers.specs.declared.types.Width.{Width}
use Rattle.whole_numbers.specs.declared.types.Width.TheVariants.{One, Two, Four, Eight}
use Rattle.whole_numbers.specs.declared.types.WholeType.{WholeType}

-- the type of a width and a sign
abbrev pub type_of : Width → Bool → WholeType
type_of w s = record { width = w; signed = s }

-- the number of a type that has these lowest bits
abbrev pub from_rest : WholeType → ℕ → ℤ
from_rest kind rest = if kind.signed && nat_le (modulus kind / 2) rest then pos rest -ℤ pos (modulus kind) else pos rest

-- what is left of a number at a width is what is left of its bits
pub residue_of_word : (w : Width) (z : ℤ) → residue (2 ^ width_bits w) z ≡ word_of z % 2 ^ width_bits w
unfolding word_of
residue_of_word One (pos n) = omega arith
residue_of_word One (negsuc n) = omega arith
residue_of_word Two (pos n) = omega arith
residue_of_word Two (negsuc n) = omega arith
residue_of_word Four (pos n) = omega arith
residue_of_word Four (negsuc n) = omega arith
residue_of_word Eight (pos n) = omega arith
residue_of_word Eight (negsuc n) = omega arith

-- a type keeps of a number what it keeps of its bits
pub wrapped_word : (kind : WholeType) (z : ℤ) → wrapped kind z ≡ wrapped kind (pos (word_of z))
unfolding wrapped
wrapped_word kind z = ap (from_rest kind) (residue_of_word kind.width z)

-- the same, as bits that are known to stand for the number
pub wrapped_as : (kind : WholeType) (z : ℤ) (word : ℕ) → word_of z ≡ word
    → word_of (wrapped kind (pos word)) ≡ word_of (wrapped kind z)
wrapped_as kind z word e = ap (λ n. word_of (wrapped kind (pos n))) (sym e) ∙ sym (ap word_of (wrapped_word kind z))

pub wrapped_of_rest : (kind : WholeType) (m n : ℕ) → m % modulus kind ≡ n % modulus kind
    → wrapped kind (pos m) ≡ wrapped kind (pos n)
unfolding wrapped
wrapped_of_rest kind m n e = ap (from_rest kind) e

pub word_below : (z : ℤ) → word_of z < 2 ^ 64
unfolding word_of
word_below (pos n) = omega arith
word_below (negsuc n) = omega arith

-- what is known of how many numbers a width has
pub record Sized (m : ℕ) : Type 0 where
  pub halves : m / 2 * 2 ≡ m
  pub some : 2 ≤ m
  pub most : m ≤ 2 ^ 64

pub sized : (w : Width) → Sized (2 ^ width_bits w)
sized One = record { halves = refl; some = omega arith; most = omega arith }
sized Two = record { halves = refl; some = omega arith; most = omega arith }
sized Four = record { halves = refl; some = omega arith; most = omega arith }
sized Eight = record { halves = refl; some = omega arith; most = omega arith }

-- 64 bits as a signed number
pub signed_high : (word : ℕ) → 2 ^ 63 ≤ word → word < 2 ^ 64 → cast_signed w64 word ≡ negsuc (2 ^ 64 - 1 - word)
signed_high word high h =
    let e : 2 ^ 64 - suc (2 ^ 64 - 1 - word) ≡ word = omega arith in
    rw e at (to_z-of_z w64 (negsuc (2 ^ 64 - 1 - word)) (record { sfits = omega arith }))

read_signed : (word : ℕ) → word < 2 ^ 64 → word_of (cast_signed w64 word) ≡ word
unfolding word_of
read_signed word h =
    elim (cases_lt word (2 ^ 63)) [
      | inl low ↦ rw (to_z_pos w64 word low) (omega arith)
      | inr high ↦ rw (signed_high word high h) (omega arith)
    ]

-- bits have their number in each type
pub word_number : (kind : WholeType) (word : ℕ) → word < 2 ^ 64 → word_of (number kind word) ≡ word
unfolding word_of number
word_number kind word h = by_sign kind.signed
  where
    by_sign : (s : Bool) → word_of (number (type_of kind.width s) word) ≡ word
    by_sign true = read_signed word h
    by_sign false = omega arith

-- the number of rest less the modulus
below_zero : (m rest : ℕ) → rest < m → pos rest -ℤ pos m ≡ negsuc (m - 1 - rest)
below_zero m rest h = omega (arith, ints)

-- the number of a signed type with small or with large lowest bits
pub rest_low : (w : Width) (rest : ℕ) → rest < 2 ^ width_bits w / 2 → from_rest (type_of w true) rest ≡ pos rest
rest_low w rest h = grind arith

pub rest_high : (w : Width) (rest : ℕ) → 2 ^ width_bits w / 2 ≤ rest → rest < 2 ^ width_bits w
    → from_rest (type_of w true) rest ≡ negsuc (2 ^ width_bits w - 1 - rest)
rest_high w rest h k = let e = below_zero (2 ^ width_bits w) rest k in grind (arith, e)

from_rest_within : (w : Width) (s : Bool) (rest : ℕ) → rest < 2 ^ width_bits w
    → IsNumberOf (type_of w s) (from_rest (type_of w s) rest)
from_rest_within w true rest h =
    let z = sized w in
    elim (cases_lt rest (2 ^ width_bits w / 2)) [
      | inl low ↦ rw (rest_low w rest low) (record { from = omega (arith, ints); below = omega (arith, ints) })
      | inr high ↦ rw (rest_high w rest high h) (record { from = omega (arith, ints); below = omega (arith, ints) })
    ]
from_rest_within w false rest h = record { from = omega (arith, ints); below = omega (arith, ints) }

pub wrapped_within : (kind : WholeType) (z : ℤ) → IsNumberOf kind (wrapped kind z)
unfolding wrapped
wrapped_within kind z =
    let s = sized kind.width in
    from_rest_within kind.width kind.signed _
    (subst (λ n. n < 2 ^ width_bits kind.width) (sym (residue_of_word kind.width z)) (omega arith))

pub number_word : (w : Width) (s : Bool) (z : ℤ) → IsNumberOf (type_of w s) z → number (type_of w s) (word_of z) ≡ z
unfolding number word_of
number_word w true (pos n) h =
    let s = sized w in
    let b : n < 2 ^ width_bits w / 2 = omega (arith, ints) in
    let e : n % 2 ^ 64 ≡ n = omega arith in
    rw e (to_z_pos w64 n (omega arith))
number_word w true (negsuc n) h =
    let s = sized w in
    let b : n < 2 ^ width_bits w / 2 = omega (arith, ints) in
    let e : 2 ^ 64 - 1 - n % 2 ^ 64 ≡ 2 ^ 64 - suc n = omega arith in
    rw e (to_z-of_z w64 (negsuc n) (record { sfits = omega arith }))
number_word w false (pos n) h = let s = sized w in ap pos (omega (arith, ints))
number_word w false (negsuc n) h = absurd h.from.le

-- what a type keeps is a number of it, and its bits stand for it
pub wrapped_value : (kind : WholeType) (z : ℤ) → number kind (word_of (wrapped kind z)) ≡ wrapped kind z
wrapped_value kind z = number_word kind.width kind.signed (wrapped kind z) (wrapped_within kind z)

pub wrapped_kept : (kind : WholeType) (z : ℤ) → IsValue kind (word_of (wrapped kind z))
wrapped_kept kind z = record {
  fits = word_below (wrapped kind z);
  within = subst (IsNumberOf kind) (sym (wrapped_value kind z)) (wrapped_within kind z);
}

-- ---- extension

-- the lowest bits of a word are what a mask leaves
masked : (w : Width) (word mask : ℕ) → mask + 1 ≡ 2 ^ width_bits w → bit_and word mask ≡ word % 2 ^ width_bits w
masked w word mask e = let m : mask ≡ 2 ^ width_bits w - 1 = omega arith in rw m (and_mask word (width_bits w))

pub extended_high : (w : Width) (s : Bool) (word mask : ℕ) → s ≡ true → mask + 1 ≡ 2 ^ width_bits w
    → mask / 2 < bit_and word mask
    → bit_and word mask + (2 ^ 64 - 1 - mask) ≡ word_of (wrapped (type_of w s) (pos word))
unfolding word_of wrapped
extended_high w true word mask is e high =
    let z = sized w in
    let m = 2 ^ width_bits w in
    let rest = word % m in
    let low : bit_and word mask ≡ rest = masked w word mask e in
    let small : rest < m = omega arith in
    let upper : m / 2 ≤ rest = omega arith in
    let whole : bit_and word mask + (2 ^ 64 - 1 - mask) ≡ word_of (negsuc (m - 1 - rest)) = omega arith in
    whole ∙ sym (ap word_of (rest_high w rest upper small))
extended_high w false word mask is e high = cc

pub extended_low : (w : Width) (s : Bool) (word mask : ℕ) → mask + 1 ≡ 2 ^ width_bits w
    → (s ≡ true → bit_and word mask ≤ mask / 2)
    → bit_and word mask ≡ word_of (wrapped (type_of w s) (pos word))
unfolding word_of wrapped
extended_low w true word mask e low =
    let z = sized w in
    let m = 2 ^ width_bits w in
    let rest = word % m in
    let is : bit_and word mask ≡ rest = masked w word mask e in
    let little : bit_and word mask ≤ mask / 2 = low refl in
    let lower : rest < m / 2 = omega arith in
    let whole : bit_and word mask ≡ word_of (pos rest) = omega arith in
    whole ∙ sym (ap word_of (rest_low w rest lower))
extended_low w false word mask e low =
    let z = sized w in
    let is : bit_and word mask ≡ word % 2 ^ width_bits w = masked w word mask e in
    omega arith
