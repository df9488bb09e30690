-- Numbers that are read digit by digit.
use Rattle.std.proofs.Common.{◌≡◌, ℕ, ◌+◌, ◌*◌, ◌<◌, ◌≤◌, ◌^◌, ◌&&◌, true, false, [], ◌∷◌, length, Some, None, refl, sym, arith, lit<, add-one}
use Rattle.std.specs.Prelude.{nat_le, if◌then◌else◌}
use Rattle.std.specs.Char.{is_ascii_digit}
use Rattle.std.specs.List.{list_all}
use Rattle.std.proofs.lemmas.Bool.{le-leb, lt-leb}
use Rattle.effs_words.specs.Numbers.{Word, number_in, value_from}
use Rattle.std.proofs.Math.Nat.{pow-suc, pow-le-pow_right}

-- a number of so few digits is small
pub small : (n k : ℕ) → n < 10 ^ k → k < 10 → n * 10 + 9 < 2 ^ 64
small n k fits few =
    let within : k ≤ 9 = omega (arith, few) in
    omega (arith, pow-le-pow_right {n = 10} (lit< tt) within)

pub one_more : (n d k : ℕ) → n < 10 ^ k → d ≤ 9 → n * 10 + d < 10 ^ (k + 1)
one_more n d k fits digit =
    let more : 10 ^ (k + 1) ≡ 10 ^ k * 10 = rw add-one (pow-suc 10 k) in
    omega (arith, more)

-- ---- the number that a word is

pub too_short : (low high : ℕ) (word : Word) → length word ≡ 0 → None ≡ number_in low high word
unfolding number_in
too_short low high [] empty = refl
too_short low high (b ∷ bs) empty = absurd (omega arith)

pub too_long : (low high : ℕ) (word : Word) → 10 < length word → None ≡ number_in low high word
unfolding number_in
too_long low high word long =
    let some : nat_le 1 (length word) ≡ true = le-leb _ _ (omega arith) in
    let many : nat_le (length word) 10 ≡ false = lt-leb _ _ long in
    rw (some, many) refl

-- a byte is no digit
pub other_byte : (low high : ℕ) (word : Word) → 1 ≤ length word → length word ≤ 10 → list_all is_ascii_digit word ≡ false
    → None ≡ number_in low high word
unfolding number_in
other_byte low high word some few bad =
    let some' : nat_le 1 (length word) ≡ true = le-leb _ _ some in
    let few' : nat_le (length word) 10 ≡ true = le-leb _ _ few in
    rw (some', few', bad) refl

-- digits alone
pub digits_alone : (low high n : ℕ) (word : Word) → 1 ≤ length word → length word ≤ 10 → list_all is_ascii_digit word ≡ true
    → value_from 0 word ≡ n → (if nat_le low n && nat_le n high then Some n else None) ≡ number_in low high word
unfolding number_in
digits_alone low high n word some few good is =
    let some' : nat_le 1 (length word) ≡ true = le-leb _ _ some in
    let few' : nat_le (length word) 10 ≡ true = le-leb _ _ few in
    rw (some', few', good, is) refl

pub in_range : (low high n : ℕ) (word : Word) → 1 ≤ length word → length word ≤ 10 → list_all is_ascii_digit word ≡ true
    → value_from 0 word ≡ n → low ≤ n → n ≤ high → Some n ≡ number_in low high word
in_range low high n word some few good is above below =
    let above' : nat_le low n ≡ true = le-leb _ _ above in
    let below' : nat_le n high ≡ true = le-leb _ _ below in
    rw (sym (digits_alone low high n word some few good is), above', below') refl

pub below_range : (low high n : ℕ) (word : Word) → 1 ≤ length word → length word ≤ 10 → list_all is_ascii_digit word ≡ true
    → value_from 0 word ≡ n → n < low → None ≡ number_in low high word
below_range low high n word some few good is under =
    let under' : nat_le low n ≡ false = lt-leb _ _ under in
    rw (sym (digits_alone low high n word some few good is), under') refl

pub above_range : (low high n : ℕ) (word : Word) → 1 ≤ length word → length word ≤ 10 → list_all is_ascii_digit word ≡ true
    → value_from 0 word ≡ n → low ≤ n → high < n → None ≡ number_in low high word
above_range low high n word some few good is above over =
    let above' : nat_le low n ≡ true = le-leb _ _ above in
    let over' : nat_le n high ≡ false = lt-leb _ _ over in
    rw (sym (digits_alone low high n word some few good is), above', over') refl
