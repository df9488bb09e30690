-- A part of a sorted list is what passes a test.
use Rattle.std.proofs.Common.{◌≡◌, ℕ, zero, suc, ◌+◌, ◌-◌, ◌<◌, ◌≤◌, List, [], ◌∷◌, length, take, drop, get_or, Bool, true, false, sym, ap, ◌∙◌, refl, arith, subst}
use Rattle.std.specs.Prelude.{nat_le, nat_lt, ◌&&◌, filter}
use Rattle.std.proofs.lemmas.Bool.Decides.{nat_tests}
use Rattle.layout_table.specs.declared.stored.StoredRow.{StoredRow}
use Rattle.layout_table.specs.Stored.{keyed, from_of, reach_of, may_hold, may_end}

pub nat_le_true : (a b : ℕ) → nat_le a b ≡ true → a ≤ b
nat_le_true a b h = grind (arith, nat_tests)

pub nat_le_false : (a b : ℕ) → nat_le a b ≡ false → b < a
nat_le_false a b h = grind (arith, nat_tests)

pub nat_lt_true : (a b : ℕ) → nat_lt a b ≡ true → a < b
nat_lt_true a b h = grind (arith, nat_tests)

pub nat_lt_false : (a b : ℕ) → nat_lt a b ≡ false → b ≤ a
nat_lt_false a b h = grind (arith, nat_tests)

module _ (test : StoredRow → Bool) where
  kept : (row : StoredRow) (rows : List StoredRow) (b : Bool) → test row ≡ b → b ≡ true →
      filter test (row ∷ rows) ≡ row ∷ filter test rows
  kept row rows true e f = rw e refl
  kept row rows false e f = cc

  dropped : (row : StoredRow) (rows : List StoredRow) (b : Bool) → test row ≡ b → b ≡ false →
      filter test (row ∷ rows) ≡ filter test rows
  dropped row rows false e f = rw e refl
  dropped row rows true e f = cc

  none_left : (rows : List StoredRow) → ((i : ℕ) (d : StoredRow) → i < length rows →
      test (get_or rows i d) ≡ false) → filter test rows ≡ []
  none_left [] h = refl
  none_left (row ∷ rows) h =
      dropped row rows (test row) refl (h 0 row (omega arith)) ∙ none_left rows (λ i d l. h (suc i) d (omega (
        arith,
        l,
      )))

  firsts : (rows : List StoredRow) (count : ℕ) → ((i : ℕ) (d : StoredRow) → i < count → i < length rows →
      test (get_or rows i d) ≡ true) →
      ((i : ℕ) (d : StoredRow) → count ≤ i → i < length rows → test (get_or rows i d) ≡ false) →
      filter test rows ≡ take count rows
  firsts [] zero h i = refl
  firsts [] (suc n) h i = refl
  firsts (row ∷ rows) zero h i = none_left (row ∷ rows) (λ j d l. i j d (omega arith) l)
  firsts (row ∷ rows) (suc n) h i =
      kept row rows (test row) refl (h 0 row (omega arith) (omega arith)) ∙
      ap (λ rs. row ∷ rs) (firsts rows n (λ j d l m. h (suc j) d (omega (arith, l)) (omega (arith, m))) (λ j d l m. i
      (suc j) d (omega (arith, l)) (omega (arith, m))))

  pub middle : (rows : List StoredRow) (start count : ℕ) → ((i : ℕ) (d : StoredRow) → i < start →
      i < length rows → test (get_or rows i d) ≡ false) →
      ((i : ℕ) (d : StoredRow) → start ≤ i → i < start + count → i < length rows → test (get_or rows i d) ≡ true) →
      ((i : ℕ) (d : StoredRow) → start + count ≤ i → i < length rows → test (get_or rows i d) ≡ false) →
      take count (drop start rows) ≡ filter test rows
  middle [] zero zero f g h = refl
  middle [] zero (suc n) f g h = refl
  middle [] (suc s) zero f g h = refl
  middle [] (suc s) (suc n) f g h = refl
  middle (row ∷ rows) zero count f g h =
      sym (firsts (row ∷ rows) count (λ i d l m. g i d (omega arith) (omega (arith, l)) m) (λ i d l m. h i d (omega
      (arith, l)) m))
  middle (row ∷ rows) (suc s) count f g h =
      middle rows s count (λ i d l m. f (suc i) d (omega (arith, l)) (omega (arith, m)))
      (λ i d l m k. g (suc i) d (omega (arith, l)) (omega (arith, m)) (omega (arith, k))) (λ i d l m. h (suc i) d
      (omega (arith, l)) (omega (arith, m))) ∙
      sym (dropped row rows (test row) refl (f 0 row (omega arith) (omega arith)))

module _ (rows : List StoredRow) (at start end : ℕ)
    (ordered : (i : ℕ) (d : StoredRow) → i < length rows → from_of (get_or rows i d) ≤ reach_of (get_or rows i d))
    (start_bound : start ≤ length rows) (end_bound : end ≤ length rows) where
  -- where they are in order
  module _ (reach_below : (i : ℕ) (d : StoredRow) → i < start → reach_of (get_or rows i d) ≤ at)
      (from_above : (i : ℕ) (d : StoredRow) → end ≤ i → i < length rows → at < from_of (get_or rows i d)) where
    module _ (key place : ℕ) (is : at ≡ keyed key place) (reach_above : (i : ℕ) (d : StoredRow) → start ≤ i →
        i < length rows → at < reach_of (get_or rows i d))
        (from_below : (i : ℕ) (d : StoredRow) → i < end → from_of (get_or rows i d) ≤ at) (inorder : start ≤ end) where
      pub held : take (end - start) (drop start rows) ≡ filter (may_hold key place) rows
      held =
          middle (may_hold key place) rows start (end - start)
          (λ i d l m. let a = reach_below i d l in not_left (keyed key place) (reach_of (get_or rows i d)) (nat_le
          (from_of (get_or rows i d)) (keyed key place)) (subst (λ (n : ℕ). reach_of (get_or rows i d) ≤ n) is a))
          (λ i d l m k. both (keyed key place) (reach_of (get_or rows i d)) (from_of (get_or rows i d))
          (subst (λ (n : ℕ). n < reach_of (get_or rows i d)) is (reach_above i d l k)) (subst (λ (n : ℕ). from_of
          (get_or rows i d) ≤ n) is (from_below i d (omega (arith, m, inorder)))))
          (λ i d l m. not_right (nat_lt (keyed key place) (reach_of (get_or rows i d))) (keyed key place) (from_of
          (get_or rows i d))
          (subst (λ (n : ℕ). n < from_of (get_or rows i d)) is (from_above i d (omega (arith, l, inorder)) m)))
        where
          not_left : (a r : ℕ) (b : Bool) → r ≤ a → (nat_lt a r && b) ≡ false
          not_left a r b h = grind (arith, nat_tests)

          not_right : (b : Bool) (a f : ℕ) → a < f → (b && nat_le f a) ≡ false
          not_right b a f h = grind (arith, nat_tests)

          both : (a r f : ℕ) → a < r → f ≤ a → (nat_lt a r && nat_le f a) ≡ true
          both a r f h i = grind (arith, nat_tests)

  module _ (reach_below : (i : ℕ) (d : StoredRow) → i < start → reach_of (get_or rows i d) < at)
      (from_above : (i : ℕ) (d : StoredRow) → end ≤ i → i < length rows → at ≤ from_of (get_or rows i d)) where
    module _ (key place : ℕ) (is : at ≡ keyed key place) (reach_above : (i : ℕ) (d : StoredRow) → start ≤ i →
        i < length rows → at ≤ reach_of (get_or rows i d))
        (from_below : (i : ℕ) (d : StoredRow) → i < end → from_of (get_or rows i d) < at) (inorder : start ≤ end) where
      pub ended : take (end - start) (drop start rows) ≡ filter (may_end key place) rows
      ended =
          middle (may_end key place) rows start (end - start)
          (λ i d l m. let a = reach_below i d l in not_left (keyed key place) (reach_of (get_or rows i d)) (nat_lt
          (from_of (get_or rows i d)) (keyed key place)) (subst (λ (n : ℕ). reach_of (get_or rows i d) < n) is a))
          (λ i d l m k. both (keyed key place) (reach_of (get_or rows i d)) (from_of (get_or rows i d))
          (subst (λ (n : ℕ). n ≤ reach_of (get_or rows i d)) is (reach_above i d l k)) (subst (λ (n : ℕ). from_of
          (get_or rows i d) < n) is (from_below i d (omega (arith, m, inorder)))))
          (λ i d l m. not_right (nat_le (keyed key place) (reach_of (get_or rows i d))) (keyed key place) (from_of
          (get_or rows i d))
          (subst (λ (n : ℕ). n ≤ from_of (get_or rows i d)) is (from_above i d (omega (arith, l, inorder)) m)))
        where
          not_left : (a r : ℕ) (b : Bool) → r < a → (nat_le a r && b) ≡ false
          not_left a r b h = grind (arith, nat_tests)

          not_right : (b : Bool) (a f : ℕ) → a ≤ f → (b && nat_lt f a) ≡ false
          not_right b a f h = grind (arith, nat_tests)

          both : (a r f : ℕ) → a ≤ r → f < a → (nat_le a r && nat_lt f a) ≡ true
          both a r f h i = grind (arith, nat_tests)

below_or_not : (a b : ℕ) → (b < a → ⊥) → a ≤ b
below_or_not a b h = grind arith

pub in_order : (rows : List StoredRow) (at start end : ℕ) →
    ((i : ℕ) (d : StoredRow) → i < length rows → from_of (get_or rows i d) ≤ reach_of (get_or rows i d)) →
    start ≤ length rows →
    ((i : ℕ) (d : StoredRow) → i < start → reach_of (get_or rows i d) ≤ at) →
    ((i : ℕ) (d : StoredRow) → end ≤ i → i < length rows → at < from_of (get_or rows i d)) → start ≤ end
in_order rows at start end ordered bound below above = below_or_not start end (λ h.
    let d : StoredRow = record { key = 0; reach = 0; kind = 0; lo = 0; count = 0; size = 0; levels = 0 } in
    let a = below end d h in
    let b = above end d (omega arith) (omega (arith, h, bound)) in
    let c = ordered end d (omega (arith, h, bound)) in
    omega (arith, a, b, c))

pub end_in_order : (rows : List StoredRow) (at start end : ℕ) →
    ((i : ℕ) (d : StoredRow) → i < length rows → from_of (get_or rows i d) ≤ reach_of (get_or rows i d)) →
    start ≤ length rows →
    ((i : ℕ) (d : StoredRow) → i < start → reach_of (get_or rows i d) < at) →
    ((i : ℕ) (d : StoredRow) → end ≤ i → i < length rows → at ≤ from_of (get_or rows i d)) → start ≤ end
end_in_order rows at start end ordered bound below above = below_or_not start end (λ h.
    let d : StoredRow = record { key = 0; reach = 0; kind = 0; lo = 0; count = 0; size = 0; levels = 0 } in
    let a = below end d h in
    let b = above end d (omega arith) (omega (arith, h, bound)) in
    let c = ordered end d (omega (arith, h, bound)) in
    omega (arith, a, b, c))
