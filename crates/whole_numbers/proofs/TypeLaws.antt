-- Promotion, the common type, and what conversion keeps.
use Rattle.std.proofs.Common.{◌≡◌, ℕ, suc, ◌+◌, ◌-◌, ◌*◌, ◌/◌, ◌%◌, ◌^◌, ◌<◌, ℤ, pos, negsuc, ◌+ℤ◌, Bool, true, false, refl, ap, sym, subst, ◌∙◌, arith, inl, inr}
use Rattle.std.proofs.lemmas.Int.{ints, int_rem_euclid_is}
use Rattle.std.proofs.lemmas.Bool.{cases_lt}
use Rattle.std.proofs.lemmas.Nat.{div-add-mod', mod_below}
use Rattle.std.proofs.Math.Nat.{mod-eq_of_lt, add-mul-mod_self_right, le-mul_of_pos_right}
use Rattle.std.specs.Prelude.{unsigned_abs}
use Rattle.whole_numbers.specs.Types.{width_bits, modulus, residue, wrapped, promoted, common, usual, greater_rank, IsNumberOf}
use Rattle.whole_numbers.specs.Laws.{DifferByMultiple, Converts, TypesAgree}
use Rattle.whole_numbers.specs.declared.types.Width.{Width}
use Rattle.whole_numbers.specs.declared.types.Width.TheVariants.{One, Two, Four, Eight}
use Rattle.whole_numbers.specs.declared.types.WholeType.{WholeType}
use Rattle.whole_numbers.proofs.Words.{type_of, sized, from_rest, rest_low, rest_high, wrapped_within}

-- ---- types

promotion_keeps : (w : Width) (s : Bool) (z : ℤ) → IsNumberOf (type_of w s) z → IsNumberOf (promoted (type_of w s)) z
promotion_keeps One true z h = record { from = omega (arith, ints); below = omega (arith, ints) }
promotion_keeps One false z h = record { from = omega (arith, ints); below = omega (arith, ints) }
promotion_keeps Two true z h = record { from = omega (arith, ints); below = omega (arith, ints) }
promotion_keeps Two false z h = record { from = omega (arith, ints); below = omega (arith, ints) }
promotion_keeps Four true z h = h
promotion_keeps Four false z h = h
promotion_keeps Eight true z h = h
promotion_keeps Eight false z h = h

promoted_again : (w : Width) (s : Bool) → promoted (promoted (type_of w s)) ≡ promoted (type_of w s)
promoted_again One true = refl
promoted_again One false = refl
promoted_again Two true = refl
promoted_again Two false = refl
promoted_again Four true = refl
promoted_again Four false = refl
promoted_again Eight true = refl
promoted_again Eight false = refl

greater_turned : (w v : Width) (s : Bool)
    → greater_rank (type_of w s) (type_of v s) ≡ greater_rank (type_of v s) (type_of w s)
greater_turned One One s = refl
greater_turned One Two s = refl
greater_turned One Four s = refl
greater_turned One Eight s = refl
greater_turned Two One s = refl
greater_turned Two Two s = refl
greater_turned Two Four s = refl
greater_turned Two Eight s = refl
greater_turned Four One s = refl
greater_turned Four Two s = refl
greater_turned Four Four s = refl
greater_turned Four Eight s = refl
greater_turned Eight One s = refl
greater_turned Eight Two s = refl
greater_turned Eight Four s = refl
greater_turned Eight Eight s = refl

usual_turned : (w v : Width) (s u : Bool) → usual (type_of w s) (type_of v u) ≡ usual (type_of v u) (type_of w s)
usual_turned w v true true = greater_turned w v true
usual_turned w v true false = refl
usual_turned w v false true = refl
usual_turned w v false false = greater_turned w v false

pub types_agree : (left right : WholeType) → TypesAgree left right
unfolding common
types_agree left right = record {
  numbers = promotion_keeps left.width left.signed;
  again = promoted_again left.width left.signed;
  symmetric =
      let l = promoted left in
      let r = promoted right in
      usual_turned l.width r.width l.signed r.signed;
}

-- ---- conversion

pub wrapped_same : (w : Width) (s : Bool) (z : ℤ) → IsNumberOf (type_of w s) z → wrapped (type_of w s) z ≡ z
unfolding wrapped
wrapped_same w true (pos n) h =
    let z = sized w in
    let m = 2 ^ width_bits w in
    let b : n < m / 2 = omega (arith, ints) in
    let c : n < m = omega arith in
    let e : n % m ≡ n = mod-eq_of_lt c in
    rest_low w (n % m) (omega arith) ∙ ap pos e
wrapped_same w true (negsuc n) h =
    let z = sized w in
    let m = 2 ^ width_bits w in
    let b : n < m / 2 = omega (arith, ints) in
    let c : n < m = omega arith in
    let e : n % m ≡ n = mod-eq_of_lt c in
    rest_high w (m - 1 - n % m) (omega arith) (omega arith) ∙ ap negsuc (omega arith)
wrapped_same w false (pos n) h =
    let b : n < 2 ^ width_bits w = omega (arith, ints) in
    let e : n % 2 ^ width_bits w ≡ n = mod-eq_of_lt b in
    ap pos e
wrapped_same w false (negsuc n) h = absurd h.from.le

-- the rest of a number, or that less m
residue_multiple : (m : ℕ) (z : ℤ) → 0 < m → DifferByMultiple m z (pos (residue m z))
residue_multiple m (pos n) p = (0, n / m, omega (arith, ints, div-add-mod' n m))
residue_multiple m (negsuc n) p =
    let small : n % m < m = mod_below n m p in
    (n / m + 1, 0, omega (arith, ints, div-add-mod' n m))

residue_below : (m : ℕ) (z : ℤ) → 0 < m → residue m z < m
residue_below m (pos n) p = mod_below n m p
residue_below m (negsuc n) p = omega arith

wrapped_multiple : (w : Width) (s : Bool) (z : ℤ) → DifferByMultiple (2 ^ width_bits w) z (wrapped (type_of w s) z)
unfolding wrapped
wrapped_multiple w false z = let i = sized w in residue_multiple (2 ^ width_bits w) z (omega arith)
wrapped_multiple w true z =
    let i = sized w in
    let m = 2 ^ width_bits w in
    let r = residue_multiple m z (omega arith) in
    let below : residue m z < m = residue_below m z (omega arith) in
    elim (cases_lt (residue m z) (m / 2)) [
      | inl low ↦ subst (DifferByMultiple m z) (sym (rest_low w (residue m z) low)) r
      | inr high ↦
          let P = DifferByMultiple m z in
          let e = r.2 in
          subst P (sym (rest_high w (residue m z) high below)) (r.0, r.1 + 1, omega (arith, ints, e))
    ]

-- a number that multiples of m bring to a natural one
natural_of : (m : ℕ) (z : ℤ) → 0 < m → (k : ℕ) × (n : ℕ) × (z +ℤ pos (k * m) ≡ pos n)
natural_of m (pos n) p = (0, n, omega (arith, ints))
natural_of m (negsuc n) p = let more =
    le-mul_of_pos_right (suc n) p in (suc n, suc n * m - suc n, omega (arith, ints, more))

same_residue : (m : ℕ) (y z : ℤ) → 0 < m → DifferByMultiple m z y → residue m z ≡ residue m y
same_residue m y z p d =
    let j = d.0 in
    let k = d.1 in
    let e = d.2 in
    let f = natural_of m z p in
    let g = f.2 in
    let both : y +ℤ pos ((k + f.0) * m) ≡ pos (f.1 + j * m) = omega (arith, ints, e, g) in
    ap unsigned_abs
    (int_rem_euclid_is z (pos m) m f.0 f.1 p refl g ∙ ap pos (sym (add-mul-mod_self_right f.1 j m))
    ∙ sym (int_rem_euclid_is y (pos m) m (k + f.0) (f.1 + j * m) p refl both))

pub converts : (kind : WholeType) (z : ℤ) → Converts kind z
unfolding wrapped
converts kind z =
    let size = sized kind.width in
    record {
      within = wrapped_within kind z;
      same = wrapped_same kind.width kind.signed z;
      multiple = wrapped_multiple kind.width kind.signed z;
      only = λ y h d. ap (from_rest kind) (same_residue (modulus kind) y z (omega arith) d)
          ∙ wrapped_same kind.width kind.signed y h;
    }
