-- Where an operation has no value, by the words of its operands.
use Rattle.std.proofs.Common.{◌≡◌, ℕ, suc, ◌+◌, ◌-◌, ◌*◌, ◌/◌, ◌%◌, ◌^◌, ◌<◌, ◌≤◌, nat_lt, ◌==◌, ◌*ℤ◌, int_div, int_rem, ℤ, pos, negsuc, neg_ℤ, Bool, true, false, ◌&&◌, if◌then◌else◌, Option, Some, None, Ok, Err, refl, ap, sym, ◌∙◌, arith, inl, inr}
use Rattle.std.proofs.lemmas.Bool.{cases_lt, cases_eq}
use Rattle.std.proofs.lemmas.Int.{to_z_pos}
use Rattle.std.proofs.lemmas.Bool.Decides.{nat_tests}
use Rattle.std.specs.Int.{w64, int_shr}
use Rattle.whole_numbers.specs.declared.operators.BinaryOperator.TheVariants.{Divide, Remainder, ShiftLeft, ShiftRight}
use Rattle.std.specs.Ordering.{int_eq}
use Rattle.whole_numbers.specs.Types.{width_bits, bits, least, number, wrapped, word_of}
use Rattle.whole_numbers.specs.Operators.{dividing_trap, unless, shift_rule, shifted, applied, outcome, in_bits}
use Rattle.whole_numbers.specs.declared.types.Width.{Width}
use Rattle.whole_numbers.specs.declared.types.Width.TheVariants.{One, Two, Four, Eight}
use Rattle.whole_numbers.specs.declared.types.WholeType.{WholeType}
use Rattle.whole_numbers.specs.declared.trap.Trap.{Trap}
use Rattle.whole_numbers.specs.declared.trap.Trap.TheVariants.{ZeroDivide, Overflow, ShiftCount}
use Rattle.whole_numbers.proofs.Words.{type_of, sized, signed_high, wrapped_as}
use Rattle.whole_numbers.proofs.WordArithmetic.{int_equal_words, int_other_words, word_of_multiple}

below_is : (a b : ℕ) → a < b → nat_lt a b ≡ true
below_is a b h = grind (arith, nat_tests)

not_below_is : (a b : ℕ) → b ≤ a → nat_lt a b ≡ false
not_below_is a b h = grind (arith, nat_tests)

-- ---- the words of 0, of -1 and of the least number

number_low : (kind : WholeType) (word : ℕ) → word < 2 ^ 63 → number kind word ≡ pos word
unfolding number
number_low kind word h = by_sign kind.signed
  where
    by_sign : (s : Bool) → number (type_of kind.width s) word ≡ pos word
    by_sign true = to_z_pos w64 word h
    by_sign false = refl

number_minus_one : (w : Width) → number (type_of w true) (2 ^ 64 - 1) ≡ negsuc 0
unfolding number
number_minus_one w = refl

number_least : (w : Width) (mask : ℕ) → mask + 1 ≡ 2 ^ width_bits w
    → number (type_of w true) (2 ^ 64 - 1 - mask / 2) ≡ least (type_of w true)
unfolding number
number_least w mask e =
    let z = sized w in
    let half : 2 ^ width_bits w / 2 ≡ suc (mask / 2) = omega arith in
    let back : 2 ^ 64 - 1 - (2 ^ 64 - 1 - mask / 2) ≡ mask / 2 = omega arith in
    signed_high (2 ^ 64 - 1 - mask / 2) (omega arith) (omega arith) ∙ ap negsuc back
    ∙ sym (ap (λ n. neg_ℤ (pos n)) half)

-- ---- division

-- a test against the number of a word
same_as : (kind : WholeType) (m n : ℕ) (z : ℤ) → number kind n ≡ z → m < 2 ^ 64 → n < 2 ^ 64 → m ≡ n
    → int_eq (number kind m) z ≡ true
same_as kind m n z is p q e = ap (int_eq (number kind m)) (sym is) ∙ int_equal_words kind m n p q e

other_than : (kind : WholeType) (m n : ℕ) (z : ℤ) → number kind n ≡ z → m < 2 ^ 64 → n < 2 ^ 64 → (m ≡ n → ⊥)
    → int_eq (number kind m) z ≡ false
other_than kind m n z is p q h = ap (int_eq (number kind m)) (sym is) ∙ int_other_words kind m n p q h

-- the code's tests of words
pub equal_is : (kind : WholeType) (m n : ℕ) → m < 2 ^ 64 → n < 2 ^ 64
    → (m == n) ≡ int_eq (number kind m) (number kind n)
equal_is kind m n p q =
    elim (cases_eq m n) [
      | inl e ↦ grind (arith, nat_tests, int_equal_words kind m n p q e)
      | inr h ↦ grind (arith, nat_tests, int_other_words kind m n p q h)
    ]

pub zero_is : (kind : WholeType) (m : ℕ) → m < 2 ^ 64 → (m == 0) ≡ int_eq (number kind m) (pos 0)
zero_is kind m p = equal_is kind m 0 p (omega arith) ∙ ap (int_eq (number kind m)) (number_low kind 0 (omega arith))

pub by_zero : (kind : WholeType) (l r : ℕ) → r < 2 ^ 64 → r ≡ 0
    → dividing_trap kind (number kind l) (number kind r) ≡ Some ZeroDivide
by_zero kind l r q e = rw (same_as kind r 0 (pos 0) (number_low kind 0 (omega arith)) q (omega arith) e) refl

not_zero : (kind : WholeType) (r : ℕ) → r < 2 ^ 64 → (r ≡ 0 → ⊥) → int_eq (number kind r) (pos 0) ≡ false
not_zero kind r q h = other_than kind r 0 (pos 0) (number_low kind 0 (omega arith)) q (omega arith) h

-- the trap by three tests: that of 0, that of the least number and that of -1
abbrev pub trap_by : Bool → Bool → Bool → Option Trap
trap_by nought lowest minus_one =
    if nought then Some ZeroDivide else if lowest && minus_one then Some Overflow else None

pub trap_by_none : (lowest : Bool) → trap_by false lowest false ≡ None
trap_by_none true = refl
trap_by_none false = refl

pub least_by_minus_one : (w : Width) (s : Bool) (l r mask : ℕ) → r < 2 ^ 64 → l < 2 ^ 64 → mask + 1 ≡ 2 ^ width_bits w
    → s ≡ true → (r ≡ 0 → ⊥)
    → l ≡ 2 ^ 64 - 1 - mask / 2 → r ≡ 2 ^ 64 - 1
    → dividing_trap (type_of w s) (number (type_of w s) l) (number (type_of w s) r) ≡ Some Overflow
least_by_minus_one w true l r mask q p m is h e f =
    let k = type_of w true in
    let some = not_zero k r q h in
    let lowest = same_as k l (2 ^ 64 - 1 - mask / 2) (least k) (number_least w mask m) p (omega arith) e in
    let minus_one = same_as k r (2 ^ 64 - 1) (negsuc 0) (number_minus_one w) q (omega arith) f in
    (λ i. trap_by (some i) (lowest i) (minus_one i))
least_by_minus_one w false l r mask q p m is h e f = cc

pub not_least : (w : Width) (s : Bool) (l r mask : ℕ) → r < 2 ^ 64 → l < 2 ^ 64 → mask + 1 ≡ 2 ^ width_bits w
    → s ≡ true → (r ≡ 0 → ⊥)
    → (l ≡ 2 ^ 64 - 1 - mask / 2 → ⊥)
    → dividing_trap (type_of w s) (number (type_of w s) l) (number (type_of w s) r) ≡ None
not_least w true l r mask q p m is h e =
    let k = type_of w true in
    let some = not_zero k r q h in
    let lowest = other_than k l (2 ^ 64 - 1 - mask / 2) (least k) (number_least w mask m) p (omega arith) e in
    (λ i. trap_by (some i) (lowest i) (int_eq (number k r) (negsuc 0)))
not_least w false l r mask q p m is h e = cc

pub not_minus_one : (w : Width) (s : Bool) (l r : ℕ) → r < 2 ^ 64 → s ≡ true → (r ≡ 0 → ⊥)
    → (r ≡ 2 ^ 64 - 1 → ⊥) → dividing_trap (type_of w s) (number (type_of w s) l) (number (type_of w s) r) ≡ None
not_minus_one w true l r q is h e =
    let k = type_of w true in
    let some = not_zero k r q h in
    let minus_one = other_than k r (2 ^ 64 - 1) (negsuc 0) (number_minus_one w) q (omega arith) e in
    (λ i. trap_by (some i) (int_eq (number k l) (least k)) (minus_one i)) ∙ trap_by_none (int_eq (number k l) (least k))
not_minus_one w false l r q is h e = cc

pub not_signed : (w : Width) (s : Bool) (l r : ℕ) → r < 2 ^ 64 → s ≡ false → (r ≡ 0 → ⊥)
    → dividing_trap (type_of w s) (number (type_of w s) l) (number (type_of w s) r) ≡ None
unfolding number
not_signed w true l r q is h = cc
not_signed w false l r q is h =
    let k = type_of w false in
    let some = not_zero k r q h in
    (λ i. trap_by (some i) (int_eq (pos l) (least k)) false) ∙ trap_by_none (int_eq (pos l) (least k))

-- a quotient or a remainder where there is none, and where there is one
pub divide_refuses : (kind : WholeType) (l r : ℕ) (trap : Trap)
    → Some trap ≡ dividing_trap kind (number kind l) (number kind r)
    → (Err trap ≡ applied Divide kind l r) × (Err trap ≡ applied Remainder kind l r)
unfolding applied outcome
divide_refuses kind l r trap e = (
  ap (λ t. in_bits (unless t (wrapped kind (int_div (number kind l) (number kind r))))) e,
  ap
      (λ t. in_bits (unless t (wrapped kind (int_rem (number kind l) (number kind r))))) e,
)

pub divide_answers : (kind : WholeType) (l r n v : ℕ) → None ≡ dividing_trap kind (number kind l) (number kind r)
    → n ≡ word_of (int_div (number kind l) (number kind r)) → v ≡ word_of (wrapped kind (pos n))
    → Ok v ≡ applied Divide kind l r
unfolding applied outcome
divide_answers kind l r n v e is value =
    let q = int_div (number kind l) (number kind r) in
    ap Ok (value ∙ wrapped_as kind q n (sym is)) ∙ ap (λ t. in_bits (unless t (wrapped kind q))) e

pub remainder_answers : (kind : WholeType) (l r n v : ℕ) → None ≡ dividing_trap kind (number kind l) (number kind r)
    → n ≡ word_of (int_rem (number kind l) (number kind r)) → v ≡ word_of (wrapped kind (pos n))
    → Ok v ≡ applied Remainder kind l r
unfolding applied outcome
remainder_answers kind l r n v e is value =
    let q = int_rem (number kind l) (number kind r) in
    ap Ok (value ∙ wrapped_as kind q n (sym is)) ∙ ap (λ t. in_bits (unless t (wrapped kind q))) e

-- ---- shifts

bits_most : (w : Width) → width_bits w ≤ 64
bits_most One = omega arith
bits_most Two = omega arith
bits_most Four = omega arith
bits_most Eight = omega arith

pub shift_answers : (kind count_kind : WholeType) (value : ℕ → ℤ) (count : ℕ) → count < bits kind
    → shift_rule kind value (number count_kind count) ≡ Ok (wrapped kind (value count))
shift_answers kind count_kind value count h =
    let m = bits_most kind.width in
    rw (number_low count_kind count (omega arith)) (rw (below_is count (bits kind) h) refl)

shift_of_many : (kind : WholeType) (value : ℕ → ℤ) (count : ℕ) → bits kind ≤ count
    → shift_rule kind value (pos count) ≡ Err ShiftCount
shift_of_many kind value count h = rw (not_below_is count (bits kind) h) refl

pub shift_refuses : (kind count_kind : WholeType) (value : ℕ → ℤ) (count : ℕ) → bits kind ≤ count → count < 2 ^ 64
    → shift_rule kind value (number count_kind count) ≡ Err ShiftCount
unfolding number
shift_refuses kind count_kind value count h k = by_sign count_kind.signed
  where
    by_sign : (s : Bool) → shift_rule kind value (number (type_of count_kind.width s) count) ≡ Err ShiftCount
    by_sign true =
        elim (cases_lt count (2 ^ 63)) [
          | inl low ↦ rw (to_z_pos w64 count low) (shift_of_many kind value count h)
          | inr high ↦ rw (signed_high count high k) refl
        ]
    by_sign false = shift_of_many kind value count h

pub left_answers : (kind count_kind : WholeType) (m count r : ℕ) → m < 2 ^ 64 → count < bits kind
    → r ≡ word_of (wrapped kind (pos ((m * 2 ^ count) % 2 ^ 64))) → Ok r ≡ shifted ShiftLeft kind m count_kind count
unfolding shifted outcome
left_answers kind count_kind m count r p h e =
    ap Ok (e ∙ wrapped_as kind (number kind m *ℤ pos (2 ^ count)) _ (word_of_multiple kind m (2 ^ count) p))
    ∙ sym (ap in_bits (shift_answers kind count_kind (λ n. number kind m *ℤ pos (2 ^ n)) count h))

pub left_refuses : (kind count_kind : WholeType) (m count : ℕ) → bits kind ≤ count → count < 2 ^ 64
    → Err ShiftCount ≡ shifted ShiftLeft kind m count_kind count
unfolding shifted outcome
left_refuses kind count_kind m count h k =
    sym (ap in_bits (shift_refuses kind count_kind (λ n. number kind m *ℤ pos (2 ^ n)) count h k))

pub right_answers : (kind count_kind : WholeType) (m count n r : ℕ) → count < bits kind
    → n ≡ word_of (int_shr (number kind m) count)
    → r ≡ word_of (wrapped kind (pos n)) → Ok r ≡ shifted ShiftRight kind m count_kind count
unfolding shifted outcome
right_answers kind count_kind m count n r h is e =
    ap Ok (e ∙ wrapped_as kind (int_shr (number kind m) count) n (sym is))
    ∙ sym (ap in_bits (shift_answers kind count_kind (λ k. int_shr (number kind m) k) count h))

pub right_refuses : (kind count_kind : WholeType) (m count : ℕ) → bits kind ≤ count → count < 2 ^ 64
    → Err ShiftCount ≡ shifted ShiftRight kind m count_kind count
unfolding shifted outcome
right_refuses kind count_kind m count h k =
    sym (ap in_bits (shift_refuses kind count_kind (λ n. int_shr (number kind m) n) count h k))
