-- Sums, differences, products, bits and shifts of numbers, by their words.
use Rattle.std.proofs.Common.{◌≡◌, ℕ, zero, suc, ◌+◌, ◌-◌, ◌*◌, ◌/◌, ◌%◌, ◌^◌, ◌<◌, ◌≤◌, ℤ, pos, negsuc, neg_ℤ, ◌+ℤ◌, ◌-ℤ◌, ◌*ℤ◌, Bool, true, false, refl, ap, sym, subst, ◌∙◌, arith, inl, inr, unsigned_abs}
use Rattle.std.proofs.lemmas.Int.{ints, to_z-of_z, of_z-to_z, to_z_pos, int_wrap_fits, int_wrap-add_left, int_wrap-add_right, int_wrap-sub_right, int_wrap-mul_left, int_wrap-mul_right, wrapping_add-bits, wrapping_sub-bits, wrapping_mul-bits}
use Rattle.std.proofs.lemmas.Bool.{cases_lt}
use Rattle.std.proofs.lemmas.Nat.{and_mod, or_mod, xor_mod, mod_below, shr_le}
use Rattle.std.proofs.Math.Nat.{mod-mod, mod-le, mod-eq_of_lt, div-le_self}
use Rattle.std.proofs.lemmas.Bool.Decides.{Decides-int_eq}
use Rattle.std.specs.Ordering.{int_eq}
use lib.Signed.{mag_rem, mag_shr}
use Rattle.std.specs.Int.{w64, cast_signed, cast_unsigned, int_wrap, int_shr, int_wrapping_div}
use Rattle.std.specs.Prelude.{FitsSigned, bit_and, bit_or, bit_xor, int_div, int_rem}
use Rattle.whole_numbers.specs.Types.{width_bits, residue, word_of, number, wrapped}
use Rattle.whole_numbers.specs.Operators.{bitwise}
use Rattle.whole_numbers.specs.declared.types.WholeType.{WholeType}
use Rattle.whole_numbers.proofs.Words.{wrapped_of_rest, type_of, signed_high, word_below, word_number, residue_of_word}

-- ---- the words of numbers, modulo 2 ^ 64

read_fits : (word : ℕ) → word < 2 ^ 64 → FitsSigned w64 (cast_signed w64 word)
read_fits word h =
    elim (cases_lt word (2 ^ 63)) [
      | inl low ↦ rw (to_z_pos w64 word low) (record { sfits = low })
      | inr high ↦ rw (signed_high word high h) (record { sfits = omega arith })
    ]

wrap_number : (kind : WholeType) (word : ℕ) → word < 2 ^ 64 → int_wrap w64 (number kind word) ≡ cast_signed w64 word
unfolding number int_wrap
wrap_number kind word h = by_sign kind.signed
  where
    by_sign : (s : Bool) → int_wrap w64 (number (type_of kind.width s) word) ≡ cast_signed w64 word
    by_sign true = int_wrap_fits w64 (cast_signed w64 word) (read_fits word h)
    by_sign false = ap (cast_signed w64) (let e : word % 2 ^ 64 ≡ word = omega arith in e)

-- a number has the word that it wraps to
word_from : (z : ℤ) (word : ℕ) → word < 2 ^ 64 → int_wrap w64 z ≡ cast_signed w64 word → word_of z ≡ word
unfolding word_of int_wrap
word_from z word h e = sym (of_z-to_z w64 (word_of z) (word_below z)) ∙ ap (cast_unsigned w64) e ∙ of_z-to_z w64 word h

module _ (kind : WholeType) (m n : ℕ) (p : m < 2 ^ 64) (q : n < 2 ^ 64) where
  pub word_of_sum : word_of (number kind m +ℤ number kind n) ≡ (m + n) % 2 ^ 64
  word_of_sum =
      let x = number kind m in
      let y = number kind n in
      word_from (x +ℤ y) ((m + n) % 2 ^ 64) (omega arith)
      (sym (int_wrap-add_left w64 x y) ∙ sym (int_wrap-add_right w64 (int_wrap w64 x) y)
      ∙ (λ i. int_wrap w64 (wrap_number kind m p i +ℤ wrap_number kind n q i)) ∙ sym (wrapping_add-bits w64 m n p q))

  pub word_of_difference : word_of (number kind m -ℤ number kind n) ≡ (m + (2 ^ 64 - n)) % 2 ^ 64
  word_of_difference =
      let x = number kind m in
      let y = number kind n in
      word_from (x -ℤ y) ((m + (2 ^ 64 - n)) % 2 ^ 64) (omega arith)
      (sym (int_wrap-add_left w64 x (neg_ℤ y)) ∙ sym (int_wrap-sub_right w64 (int_wrap w64 x) y)
      ∙ (λ i. int_wrap w64 (wrap_number kind m p i -ℤ wrap_number kind n q i)) ∙ sym (wrapping_sub-bits w64 m n p q))

  pub word_of_product : word_of (number kind m *ℤ number kind n) ≡ (m * n) % 2 ^ 64
  word_of_product =
      let x = number kind m in
      let y = number kind n in
      word_from (x *ℤ y) ((m * n) % 2 ^ 64) (mod_below (m * n) (2 ^ 64) (omega arith))
      (sym (int_wrap-mul_left w64 x y) ∙ sym (int_wrap-mul_right w64 (int_wrap w64 x) y)
      ∙ (λ i. int_wrap w64 (wrap_number kind m p i *ℤ wrap_number kind n q i)) ∙ sym (wrapping_mul-bits w64 m n p q))

-- ---- one operand

less_than_zero : (z : ℤ) → pos 0 -ℤ z ≡ neg_ℤ z
less_than_zero (pos zero) = refl
less_than_zero (pos (suc n)) = omega (arith, ints)
less_than_zero (negsuc n) = omega (arith, ints)

pub word_of_negative : (kind : WholeType) (m : ℕ) → m < 2 ^ 64
    → word_of (neg_ℤ (number kind m)) ≡ (0 + (2 ^ 64 - m)) % 2 ^ 64
word_of_negative kind m p =
    let x = number kind m in
    word_from (neg_ℤ x) ((0 + (2 ^ 64 - m)) % 2 ^ 64) (omega arith)
    (ap (int_wrap w64) (sym (less_than_zero x)) ∙ sym (int_wrap-sub_right w64 (pos 0) x)
    ∙ ap (λ z. int_wrap w64 (pos 0 -ℤ z)) (wrap_number kind m p)
    ∙ sym (wrapping_sub-bits w64 0 m (omega arith) p))

pub word_of_complement : (kind : WholeType) (m : ℕ) → m < 2 ^ 64 → word_of (negsuc 0 -ℤ number kind m) ≡ 2 ^ 64 - 1 - m
word_of_complement kind m p =
    let x = number kind m in
    let e : (2 ^ 64 - 1 + (2 ^ 64 - m)) % 2 ^ 64 ≡ 2 ^ 64 - 1 - m = omega arith in
    word_from (negsuc 0 -ℤ x) (2 ^ 64 - 1 - m) (omega arith)
    (sym (int_wrap-sub_right w64 (negsuc 0) x) ∙ ap (λ z. int_wrap w64 (negsuc 0 -ℤ z)) (wrap_number kind m p)
    ∙ sym (wrapping_sub-bits w64 (2 ^ 64 - 1) m (omega arith) p) ∙ ap (cast_signed w64) e)

-- ---- shifts

-- a number by one that is not negative
pub word_of_multiple : (kind : WholeType) (m n : ℕ) → m < 2 ^ 64 → word_of (number kind m *ℤ pos n) ≡ (m * n) % 2 ^ 64
unfolding int_wrap
word_of_multiple kind m n p =
    let x = number kind m in
    let same : int_wrap w64 x
    ≡ int_wrap w64 (pos m) = wrap_number kind m p
    ∙ ap (cast_signed w64) (let e : m ≡ m % 2 ^ 64 = omega arith in e) in
    word_from (x *ℤ pos n) ((m * n) % 2 ^ 64) (mod_below (m * n) (2 ^ 64) (omega arith))
    (sym (int_wrap-mul_left w64 x (pos n)) ∙ ap (λ z. int_wrap w64 (z *ℤ pos n)) same
    ∙ int_wrap-mul_left w64 (pos m) (pos n))

-- a number of 64 bits with a sign has its word
pub word_of_signed : (z : ℤ) → FitsSigned w64 z → word_of z ≡ cast_unsigned w64 z
unfolding word_of
word_of_signed (pos n) h = let s = h.sfits in omega arith
word_of_signed (negsuc n) h = let s = h.sfits in omega arith

-- ---- bits

-- of f, the lowest bits are made of the lowest bits
module _ (f : ℕ → ℕ → ℕ) (cut : (a b k : ℕ) → f a b % 2 ^ k ≡ f (a % 2 ^ k) (b % 2 ^ k)) (kind : WholeType) (m n : ℕ)
    (p : m < 2 ^ 64) (q : n < 2 ^ 64) where
  pub word_of_bits : word_of (wrapped kind (pos (f m n))) ≡ word_of (bitwise f kind (number kind m) (number kind n))
  word_of_bits =
      let k = width_bits kind.width in
      let left : m % 2 ^ k ≡ residue (2 ^ k) (number kind m) =
      sym (residue_of_word kind.width (number kind m) ∙ ap (λ v. v % 2 ^ k) (word_number kind m p))
      in
      let right : n % 2 ^ k ≡ residue (2 ^ k) (number kind n) =
      sym (residue_of_word kind.width (number kind n) ∙ ap (λ v. v % 2 ^ k) (word_number kind n q))
      in
      let low : f m n % 2 ^ k ≡ f (m % 2 ^ k) (n % 2 ^ k) = cut m n k in
      let again : f m n % 2 ^ k
      ≡ f (m % 2 ^ k) (n % 2 ^ k) % 2 ^ k = sym (mod-mod (f m n) (2 ^ k)) ∙ ap (λ v. v % 2 ^ k) low in
      ap word_of (wrapped_of_rest kind (f m n) _ (again ∙ (λ i. f (left i) (right i) % 2 ^ k)))

pub word_of_both : (kind : WholeType) (m n : ℕ) → m < 2 ^ 64 → n < 2 ^ 64
    → word_of (wrapped kind (pos (bit_and m n))) ≡ word_of (bitwise bit_and kind (number kind m) (number kind n))
word_of_both kind m n p q = word_of_bits bit_and and_mod kind m n p q

pub word_of_one : (kind : WholeType) (m n : ℕ) → m < 2 ^ 64 → n < 2 ^ 64
    → word_of (wrapped kind (pos (bit_xor m n))) ≡ word_of (bitwise bit_xor kind (number kind m) (number kind n))
word_of_one kind m n p q = word_of_bits bit_xor xor_mod kind m n p q

pub word_of_either : (kind : WholeType) (m n : ℕ) → m < 2 ^ 64 → n < 2 ^ 64
    → word_of (wrapped kind (pos (bit_or m n))) ≡ word_of (bitwise bit_or kind (number kind m) (number kind n))
word_of_either kind m n p q = word_of_bits bit_or or_mod kind m n p q

-- ---- a number by the sign of its type

pub number_signed : (kind : WholeType) (m : ℕ) → kind.signed ≡ true → number kind m ≡ cast_signed w64 m
unfolding number
number_signed kind m e = rw e refl

pub number_unsigned : (kind : WholeType) (m : ℕ) → kind.signed ≡ false → number kind m ≡ pos m
unfolding number
number_unsigned kind m e = rw e refl

-- ---- shifts to the right

pub word_of_down : (m count : ℕ) → m < 2 ^ 64 → word_of (int_shr (pos m) count) ≡ m / 2 ^ count
unfolding word_of
word_of_down m count p = let l = shr_le m count in omega arith

down_fits : (m count : ℕ) → m < 2 ^ 64 → FitsSigned w64 (int_shr (cast_signed w64 m) count)
down_fits m count p =
    let s = (read_fits m p).sfits in
    record { sfits = omega (arith, mag_shr (cast_signed w64 m) (2 ^ count), s) }

pub word_of_signed_down : (m count : ℕ) → m < 2 ^ 64
    → word_of (int_shr (cast_signed w64 m) count) ≡ cast_unsigned w64 (int_shr (cast_signed w64 m) count)
word_of_signed_down m count p = word_of_signed (int_shr (cast_signed w64 m) count) (down_fits m count p)

-- a signed value of the code, and a shifted one, are read back as they are
pub read_back : (m : ℕ) (z : ℤ) → m < 2 ^ 64 → z ≡ cast_signed w64 m
    → cast_signed w64 (cast_unsigned w64 z) ≡ cast_signed w64 m
read_back m z p e = ap (λ y. cast_signed w64 (cast_unsigned w64 y)) e
    ∙ to_z-of_z w64 (cast_signed w64 m) (read_fits m p)

pub down_back : (m count : ℕ) → m < 2 ^ 64
    → cast_signed w64 (cast_unsigned w64 (int_shr (cast_signed w64 m) count)) ≡ int_shr (cast_signed w64 m) count
down_back m count p = to_z-of_z w64 _ (down_fits m count p)

-- ---- quotients

abs_of_negative : (n : ℕ) → unsigned_abs (neg_ℤ (pos n)) ≡ n
abs_of_negative zero = refl
abs_of_negative (suc n) = refl

-- a quotient is no larger than the operand
quotient_size : (a d : ℤ) → FitsSigned w64 a → unsigned_abs (int_div a d) ≤ 2 ^ 63
quotient_size (pos n) (pos d) h = let s = h.sfits in omega (arith, div-le_self n d)
quotient_size (pos n) (negsuc d) h = let s =
    h.sfits in omega (arith, abs_of_negative (n / suc d), div-le_self n (suc d))
quotient_size (negsuc n) (pos d) h = let s =
    h.sfits in omega (arith, abs_of_negative (suc n / d), div-le_self (suc n) d)
quotient_size (negsuc n) (negsuc d) h = let s = h.sfits in omega (arith, div-le_self (suc n) (suc d))

word_of_size : (z : ℤ) → unsigned_abs z ≤ 2 ^ 63 → word_of z ≡ cast_unsigned w64 z
unfolding word_of
word_of_size (pos n) h = omega arith
word_of_size (negsuc n) h = omega arith

-- the quotient and the remainder of the code, whose signed values are passed as words
pub quotient_is : (m n r : ℕ) (x y v : ℤ) → m < 2 ^ 64 → n < 2 ^ 64 → x ≡ cast_signed w64 m → y ≡ cast_signed w64 n
    → v ≡ int_wrapping_div w64 (cast_signed w64 (cast_unsigned w64 x)) (cast_signed w64 (cast_unsigned w64 y))
    → r ≡ cast_unsigned w64 (cast_signed w64 (cast_unsigned w64 v))
    → r ≡ word_of (int_div (cast_signed w64 m) (cast_signed w64 n))
quotient_is m n r x y v p q is_m is_n is_v is_r =
    let a = cast_signed w64 m in
    let d = cast_signed w64 n in
    let z = int_div a d in
    let size = word_of_size z (quotient_size a d (read_fits m p)) in
    let word = cast_unsigned w64 z in
    let fits : word < 2 ^ 64 = subst (λ k. k < 2 ^ 64) size (word_below z) in
    let whole : v ≡ cast_signed w64 word =
    is_v ∙ (λ i. int_wrapping_div w64 (read_back m x p is_m i) (read_back n y q is_n i))
    in
    is_r ∙ ap (λ k. cast_unsigned w64 (cast_signed w64 (cast_unsigned w64 k))) whole
    ∙ ap (λ k. cast_unsigned w64 (cast_signed w64 k)) (of_z-to_z w64 word fits) ∙ of_z-to_z w64 word fits ∙ sym size

pub remainder_is : (m n r : ℕ) (x y v : ℤ) → m < 2 ^ 64 → n < 2 ^ 64 → x ≡ cast_signed w64 m → y ≡ cast_signed w64 n
    → v ≡ int_rem (cast_signed w64 (cast_unsigned w64 x)) (cast_signed w64 (cast_unsigned w64 y))
    → r ≡ cast_unsigned w64 (cast_signed w64 (cast_unsigned w64 v))
    → r ≡ word_of (int_rem (cast_signed w64 m) (cast_signed w64 n))
remainder_is m n r x y v p q is_m is_n is_v is_r =
    let a = cast_signed w64 m in
    let d = cast_signed w64 n in
    let s = (read_fits m p).sfits in
    let fits : FitsSigned w64 (int_rem a d) = record { sfits = omega (arith, mag_rem a d, s) } in
    let whole : v ≡ int_rem a d = is_v ∙ (λ i. int_rem (read_back m x p is_m i) (read_back n y q is_n i)) in
    is_r ∙ ap (λ k. cast_unsigned w64 (cast_signed w64 (cast_unsigned w64 k))) whole
    ∙ ap (cast_unsigned w64) (to_z-of_z w64 (int_rem a d) fits) ∙ sym (word_of_signed (int_rem a d) fits)

-- and those of words without a sign
pub plain_quotient_is : (m n : ℕ) → m < 2 ^ 64 → m / n ≡ word_of (int_div (pos m) (pos n))
unfolding word_of
plain_quotient_is m n p =
    let l = div-le_self m n in let e : m / n % 2 ^ 64 ≡ m / n = mod-eq_of_lt (omega arith) in sym e

pub plain_remainder_is : (m n : ℕ) → m < 2 ^ 64 → m % n ≡ word_of (int_rem (pos m) (pos n))
unfolding word_of
plain_remainder_is m n p = let l = mod-le m n in let e : m % n % 2 ^ 64 ≡ m % n = mod-eq_of_lt (omega arith) in sym e

-- ---- equal numbers

pub int_equal_words : (kind : WholeType) (m n : ℕ) → m < 2 ^ 64 → n < 2 ^ 64 → m ≡ n
    → int_eq (number kind m) (number kind n) ≡ true
int_equal_words kind m n p q e = (Decides-int_eq (number kind m) (number kind n)).1 (ap (number kind) e)

pub int_other_words : (kind : WholeType) (m n : ℕ) → m < 2 ^ 64 → n < 2 ^ 64 → (m ≡ n → ⊥)
    → int_eq (number kind m) (number kind n) ≡ false
int_other_words kind m n p q h =
    by_test (int_eq (number kind m) (number kind n)) refl
  where
    by_test : (b : Bool) → int_eq (number kind m) (number kind n) ≡ b → b ≡ false
    by_test true e =
        absurd (h (sym (word_number kind m p) ∙ ap word_of ((Decides-int_eq (number kind m) (number kind n)).0 e) ∙
        word_number kind n q))
    by_test false e = refl
