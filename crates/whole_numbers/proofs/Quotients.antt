-- Quotients and remainders as C11 has them: which a type has.
use Rattle.std.proofs.Common.{◌≡◌, ◌≢◌, ◌⊎◌, zero, suc, ◌*◌, ◌/◌, ◌^◌, ◌≤◌, ℤ, pos, negsuc, neg_ℤ, Bool, true, false, Option, Some, None, Ok, refl, ap, sym, ◌∙◌, arith, inl, inr, int_div, int_rem, unsigned_abs}
use Rattle.std.proofs.lemmas.Int.{ints, quot-rem}
use Rattle.std.proofs.lemmas.Bool.Decides.{Decides-int_eq}
use Rattle.std.proofs.Math.Nat.{div-le_self, mul-div-le, mod-le, mul-le-mul_right}
use Rattle.std.specs.Ordering.{int_eq}
use Rattle.whole_numbers.specs.Types.{width_bits, least, wrapped, IsNumberOf}
use Rattle.whole_numbers.specs.Operators.{outcome, dividing_trap, unless}
use Rattle.whole_numbers.specs.Laws.{BothAnswer, Divides}
use Rattle.whole_numbers.specs.declared.types.Width.{Width}
use Rattle.whole_numbers.specs.declared.types.WholeType.{WholeType}
use Rattle.whole_numbers.specs.declared.trap.Trap.{Trap}
use Rattle.whole_numbers.specs.declared.trap.Trap.TheVariants.{ZeroDivide, Overflow}
use Rattle.whole_numbers.proofs.Words.{type_of, sized}
use Rattle.whole_numbers.proofs.TypeLaws.{wrapped_same}
use Rattle.whole_numbers.proofs.Traps.{trap_by}

-- ---- which quotients and remainders a type has

remainder_within : (w : Width) (s : Bool) (a b : ℤ) → IsNumberOf (type_of w s) a
    → IsNumberOf (type_of w s) (int_rem a b)
remainder_within w true (pos m) d h =
    let z = sized w in
    let l = mod-le m (unsigned_abs d) in
    record { from = omega (arith, ints, l); below = omega (arith, ints, l) }
remainder_within w true (negsuc m) d h =
    let z = sized w in
    let l = mod-le (suc m) (unsigned_abs d) in
    record { from = omega (arith, ints, l); below = omega (arith, ints, l) }
remainder_within w false (pos m) d h =
    let l = mod-le m (unsigned_abs d) in
    record { from = omega (arith, ints, l); below = omega (arith, ints, l) }
remainder_within w false (negsuc m) d h = absurd h.from.le

quotient_within : (w : Width) (s : Bool) (a b : ℤ) → IsNumberOf (type_of w s) a → IsNumberOf (type_of w s) b
    → (a ≡ least (type_of w s) → b ≡ negsuc 0 → ⊥) → IsNumberOf (type_of w s) (int_div a b)
quotient_within w false (pos m) (pos n) h k other =
    let l = div-le_self m n in
    record { from = omega (arith, ints, l); below = omega (arith, ints, l) }
quotient_within w false (pos m) (negsuc n) h k other = absurd k.from.le
quotient_within w false (negsuc m) b h k other = absurd h.from.le
quotient_within w true (pos m) (pos n) h k other =
    let z = sized w in
    let l = div-le_self m n in
    record { from = omega (arith, ints, l); below = omega (arith, ints, l) }
quotient_within w true (pos m) (negsuc n) h k other =
    let z = sized w in
    let l = div-le_self m (suc n) in
    record { from = omega (arith, ints, l); below = omega (arith, ints, l) }
quotient_within w true (negsuc m) (pos n) h k other =
    let z = sized w in
    let l = div-le_self (suc m) n in
    record { from = omega (arith, ints, l); below = omega (arith, ints, l) }
quotient_within w true (negsuc m) (negsuc zero) h k other =
    let z = sized w in
    let less : suc m ≢ 2 ^ width_bits w / 2 = (λ e. other (ap (λ n. neg_ℤ (pos n)) e) refl) in
    record { from = omega (arith, ints); below = omega (arith, ints, less) }
quotient_within w true (negsuc m) (negsuc (suc n)) h k other =
    let z = sized w in
    let q = suc m / suc (suc n) in
    let twice : 2 * q ≤ suc (suc n) * q = mul-le-mul_right q (omega arith) in
    let back = mul-div-le (suc m) (suc (suc n)) in
    record { from = omega (arith, ints); below = omega (arith, ints, twice, back) }

-- the least number by -1
least_lacks : (w : Width) (s : Bool) (a b : ℤ) → IsNumberOf (type_of w s) b → a ≡ least (type_of w s) → b ≡ negsuc 0
    → IsNumberOf (type_of w s) (int_div a b) → ⊥
least_lacks w false a (pos n) k e f has = cc
least_lacks w false a (negsuc n) k e f has = absurd k.from.le
least_lacks w true a (pos n) k e f has = cc
least_lacks w true (pos m) (negsuc n) k e f has = let z = sized w in omega (arith, ints, e)
least_lacks w true (negsuc m) (negsuc zero) k e f has = let z = sized w in omega (arith, ints, e)
least_lacks w true (negsuc m) (negsuc (suc n)) k e f has = omega (arith, ints, f)

-- ---- traps

test_true : (a b : ℤ) → a ≡ b → int_eq a b ≡ true
test_true a b e = (Decides-int_eq a b).1 e

by_test : (a b : ℤ) (t : Bool) → int_eq a b ≡ t → (int_eq a b ≡ true) × (a ≡ b) ⊎ (int_eq a b ≡ false) × (a ≡ b → ⊥)
by_test a b true e = inl (e, (Decides-int_eq a b).0 e)
by_test a b false e = inr (e, λ same. absurd (clash (sym e ∙ test_true a b same)))
  where
    clash : false ≡ true → ⊥
    clash c = cc

tested : (a b : ℤ) → (int_eq a b ≡ true) × (a ≡ b) ⊎ (int_eq a b ≡ false) × (a ≡ b → ⊥)
tested a b = by_test a b (int_eq a b) refl

test_false : (a b : ℤ) → (a ≡ b → ⊥) → int_eq a b ≡ false
test_false a b h = elim (tested a b) [ inl t ↦ absurd (h t.1) | inr t ↦ t.0 ]

-- whether it is the least number by -1
is_least_by : (kind : WholeType) (a b : ℤ) → (a ≡ least kind) × (b ≡ negsuc 0) ⊎ (a ≡ least kind → b ≡ negsuc 0 → ⊥)
is_least_by kind a b =
    elim (tested a (least kind)) [
      | inl t ↦ elim (tested b (negsuc 0)) [ inl u ↦ inl (t.1, u.1) | inr u ↦ inr (λ e f. u.1 f) ]
      | inr t ↦ inr (λ e f. t.1 e)
    ]

trap_least : (kind : WholeType) (a b : ℤ) → b ≢ pos 0 → a ≡ least kind → b ≡ negsuc 0
    → dividing_trap kind a b ≡ Some Overflow
trap_least kind a b some e f =
    (λ i. trap_by (test_false b (pos 0) some i) (test_true a (least kind) e i) (test_true b (negsuc 0) f i))

trap_none : (kind : WholeType) (a b : ℤ) → b ≢ pos 0 → (a ≡ least kind → b ≡ negsuc 0 → ⊥)
    → dividing_trap kind a b ≡ None
trap_none kind a b some other =
    let divisor = test_false b (pos 0) some in
    elim (tested a (least kind)) [
      | inl t ↦ (λ i. trap_by (divisor i) (t.0 i) (test_false b (negsuc 0) (other t.1) i))
      | inr t ↦ (λ i. trap_by (divisor i) (t.0 i) (int_eq b (negsuc 0)))
    ]

both_answer : (kind : WholeType) (a b : ℤ) (trap : Option Trap) → dividing_trap kind a b ≡ trap
    → BothAnswer kind a b (unless trap (wrapped kind (int_div a b))) (unless trap (wrapped kind (int_rem a b)))
unfolding outcome
both_answer kind a b trap e =
    (ap (λ t. unless t (wrapped kind (int_div a b))) e, ap (λ t. unless t (wrapped kind (int_rem a b))) e)

pub divides : (kind : WholeType) (a b : ℤ) → IsNumberOf kind a → IsNumberOf kind b → Divides kind a b
divides kind a b h k =
    let w = kind.width in
    let s = kind.signed in
    record {
      zero = λ e. both_answer kind a b (Some ZeroDivide)
          (λ i. trap_by (test_true b (pos 0) e i) (int_eq a (least kind)) (int_eq b (negsuc 0)));
      lacking = λ some lacks. elim (is_least_by kind a b) [
        | inl t ↦ both_answer kind a b (Some Overflow) (trap_least kind a b some t.0 t.1)
        | inr other ↦ absurd (lacks (quotient_within w s a b h k other))
      ];
      had = λ some has. elim (is_least_by kind a b) [
        | inl t ↦ absurd (least_lacks w s a b k t.0 t.1 has)
        | inr other ↦
            let both = both_answer kind a b None (trap_none kind a b some other) in (
              both.0 ∙ ap Ok (wrapped_same w s (int_div a b) has),
              both.1
                  ∙ ap Ok (wrapped_same w s (int_rem a b) (remainder_within w s a b h)),
            )
      ];
      whole = quot-rem a b;
    }
