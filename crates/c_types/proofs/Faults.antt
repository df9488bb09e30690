-- What follows where nothing is refused.
use Rattle.std.proofs.Common.{◌≡◌, ◌≢◌, ℕ, zero, suc, ◌+◌, ◌*◌, ◌≤◌, ◌==◌, List, [], ◌∷◌, Some, None, sym, ap, refl, arith, IsTrue, IsFalse, true, false, not, ◌&&◌, ◌||◌, Bool, Option, true≢false, nat_lt}
use Rattle.std.proofs.lemmas.Bool.{ltb-false}
use Rattle.c_types.specs.declared.kinds.TypeError.{TypeError}
use Rattle.c_types.specs.declared.kinds.TypeError.TheVariants as e
use Rattle.c_types.specs.declared.kinds.Field.{Field}
use Rattle.c_types.specs.Shapes.{Shape, Members, is_complete, is_flexible, is_open, size}
use Rattle.c_types.specs.Table.{members_of_fields}
use Rattle.c_types.specs.Adding.{first_of, array_fault, open_fault, members_fault, has_two_of_a_name, is_empty, misplaced, shapes, any, is_unsized, whole_of, largest}

-- ---- Booleans

pub or_left : (a b : Bool) → a || b ≡ false → a ≡ false
or_left true b e = e
or_left false b e = refl

pub or_right : (a b : Bool) → a || b ≡ false → b ≡ false
or_right true b e = absurd (true≢false e)
or_right false b e = e

pub not_false : (b : Bool) → not b ≡ false → b ≡ true
not_false true e = refl
not_false false e = absurd (true≢false e)

pub not_true : (b : Bool) → not b ≡ true → b ≡ false
not_true true e = absurd (true≢false (sym e))
not_true false e = refl

-- ---- tests in their order

first_none : (test : Bool) (why : TypeError) (rest : List (Bool × TypeError)) → first_of ((test, why) ∷ rest) ≡ None →
    (test ≡ false) × (first_of rest ≡ None)
first_none true why rest none = cc
first_none false why rest none = (refl, none)

positive : (count : ℕ) → (count == 0) ≡ false → 1 ≤ count
positive zero e = absurd (true≢false e)
positive (suc count) e = omega arith

pub record OfArray (of : Shape) (count : ℕ) : Type 0 where
  pub some : 1 ≤ count
  pub fixed : IsFalse (is_flexible of)
  pub complete : IsTrue (is_complete of)
  pub small : count * size of ≤ largest

pub array_fits : (of : Shape) (count : ℕ) → array_fault of count ≡ None → OfArray of count
array_fits of count none =
    let a : ((count == 0) ≡ false) × _ = first_none _ _ _ none in
    let b : (is_flexible of ≡ false) × _ = first_none _ _ _ a.1 in
    let d : (not (is_complete of) ≡ false) × _ = first_none _ _ _ b.1 in
    let f : (nat_lt largest (count * size of) ≡ false) × _ = first_none _ _ _ d.1 in
    record { some = positive count a.0; fixed = b.0; complete = not_false _ d.0; small = ltb-false _ _ f.0 }

pub open_fits : (of : Shape) → open_fault of ≡ None → IsFalse (is_flexible of) × IsTrue (is_complete of)
open_fits of none =
    let b : (is_flexible of ≡ false) × _ = first_none _ _ _ none in
    let d : (not (is_complete of) ≡ false) × _ = first_none _ _ _ b.1 in
    (b.0, not_false _ d.0)

pub record OfMembers (shape : ℕ → Shape) (union_tag : Bool) (n : ℕ) (fields : List Field) : Type 0 where
  pub names : has_two_of_a_name fields ≡ false
  pub some : is_empty (shapes shape fields) ≡ false
  pub placed : misplaced union_tag (shapes shape fields) ≡ false
  pub fixed : any is_flexible (shapes shape fields) ≡ false
  pub sized : any is_unsized (shapes shape fields) ≡ false
  pub small : size (whole_of union_tag n (members_of_fields shape fields)) ≤ largest

pub members_fit : (shape : ℕ → Shape) (union_tag : Bool) (n : ℕ) (fields : List Field) → members_fault shape union_tag n fields ≡ None →
    OfMembers shape union_tag n fields
members_fit shape union_tag n fields none =
    let a : (has_two_of_a_name fields ≡ false) × _ = first_none _ _ _ none in
    let b : (is_empty (shapes shape fields) ≡ false) × _ = first_none _ _ _ a.1 in
    let d : ((misplaced union_tag (shapes shape fields) || any is_flexible (shapes shape fields)) ≡ false) × _ = first_none _ _ _ b.1 in
    let f : (any is_unsized (shapes shape fields) ≡ false) × _ = first_none _ _ _ d.1 in
    let g : (nat_lt largest (size (whole_of union_tag n (members_of_fields shape fields))) ≡ false) × _ = first_none _ _ _ f.1 in
    record { names = a.0; some = b.0; placed = or_left _ _ d.0; fixed = or_right _ _ d.0; sized = f.0; small = ltb-false _ _ g.0 }
