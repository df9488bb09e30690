-- The rows of a type lie inside its values.
use Rattle.std.proofs.Common.{◌≡◌, ℕ, zero, suc, ◌+◌, ◌-◌, ◌*◌, ◌<◌, ◌≤◌, ◌∷◌, map, sym, ap, arith, ⊎_elim, subst}
use Rattle.std.proofs.Math.Nat.{suc-mul}
use Rattle.std.proofs.lemmas.Nat.{mul-le}
use Rattle.std.specs.Prelude.{max}
use Rattle.c_types.specs.Shapes.{Shape, Members, Void, Whole, Pointer, Array, Open, Struct, Union, Incomplete, None_left, Member, Flexible, size, next_offset, end_of_struct, end_of_union, greatest_alignment}
use Rattle.type_layout.specs.Listed.{In}
use Rattle.type_layout.proofs.Least.{in_append}
use Rattle.type_layout.proofs.Within.{round_up_above, struct_grows}
use Rattle.layout_table.specs.Strides.{Row, width, single, moved, repeated, rows_in, rows_in_struct, rows_in_union, IsSound, AreSound}
use Rattle.layout_table.specs.Stored.{extent}
use Rattle.layout_table.proofs.Levels.{Nested}
use Rattle.layout_table.proofs.Strided.{map_in}

pub record Fits (bytes : ℕ) (row : Row) : Type 0 where
  pub within : row.lo + extent row.levels (width row) ≤ bytes
  pub nested : Nested row.levels (width row)
  pub filled : 0 < width row

fits_moved : (by bytes top : ℕ) (row : Row) → by + bytes ≤ top → Fits bytes row → Fits top (moved by row)
fits_moved by bytes top row h f = record { within = omega (arith, f.within); nested = f.nested; filled = f.filled }

fits_repeated : (stride count : ℕ) (row : Row) → 0 < count → Fits stride row →
    Fits (count * stride) (repeated (record { stride = stride; count = count }) row)
fits_repeated stride zero row h f = absurd (omega arith)
fits_repeated stride (suc n) row h f = record {
  within = omega (arith, f.within, suc-mul n stride, less);
  nested = (omega (arith, f.within), f.nested);
  filled = f.filled;
}
  where
    less : (suc n - 1) * stride ≡ n * stride
    less = ap (λ (i : ℕ). i * stride) (omega arith)

fits_single : (kind : Shape) (count : ℕ) → 0 < count → 0 < size kind → Fits (count * size kind) (single kind count)
fits_single kind count c s = record {
  within = omega arith;
  nested = tt;
  filled = omega (arith, mul-le 1 1 count (size kind) (omega arith) (omega arith));
}

fits_one : (kind : Shape) → 0 < size kind → Fits (size kind) (single kind 1)
fits_one kind s = record { within = omega arith; nested = tt; filled = omega arith }

fits_more : (bytes top : ℕ) (row : Row) → bytes ≤ top → Fits bytes row → Fits top row
fits_more bytes top row h f = record { within = omega (arith, f.within); nested = f.nested; filled = f.filled }

-- the rows of a member
member_fits : (kind : Shape) (off top : ℕ) (row : Row) → off + size kind ≤ top → 0 < size kind →
    ((r : Row) → In r (rows_in kind) → Fits (size kind) r) → In row (map (moved off) (single kind 1 ∷ rows_in kind))
    → Fits top row
member_fits kind off top row h s all i =
    let r = map_in (moved off) row (single kind 1 ∷ rows_in kind) i in
    subst (λ x. Fits top x) (sym r.2)
    (fits_moved off (size kind) top r.0 h (⊎_elim (λ e. subst (λ x. Fits (size kind) x) (sym e) (fits_one kind s))
    (all r.0) r.1))

max_left : (a b : ℕ) → a ≤ max a b
max_left a b = omega arith

max_right : (a b : ℕ) → b ≤ max a b
max_right a b = omega arith

mutual
  pub rows_fit : (kind : Shape) → IsSound kind → (row : Row) → In row (rows_in kind) → Fits (size kind) row
  rows_fit (Void n) s row i = absurd i
  rows_fit (Whole n width signed) s row i = absurd i
  rows_fit (Pointer n to) s row i = absurd i
  rows_fit (Array n of count) s row i =
      ⊎_elim (λ e. subst (λ x. Fits (count * size of) x) (sym e) (fits_single of count s.0 s.1))
      (λ j. let r = map_in (repeated (record { stride = size of; count = count })) row (rows_in of) j in
      subst (λ x. Fits (count * size of) x) (sym r.2) (fits_repeated (size of) count r.0 s.0 (rows_fit of s.2 r.0
      r.1))) i
  rows_fit (Open n of) s row i = absurd i
  rows_fit (Struct n members) s row i =
      fits_more (end_of_struct members 0) (size (Struct n members)) row (round_up_above (greatest_alignment members)
      (end_of_struct members 0))
      (struct_fits members 0 s row i)
  rows_fit (Union n members) s row i =
      fits_more (end_of_union members) (size (Union n members)) row (round_up_above (greatest_alignment members)
      (end_of_union members))
      (union_fits members s row i)
  rows_fit (Incomplete n) s row i = absurd i

  struct_fits : (members : Members) (end : ℕ) → AreSound members → (row : Row) →
      In row (rows_in_struct members end) → Fits (end_of_struct members end) row
  struct_fits None_left end s row i = absurd i
  struct_fits (Member first rest) end s row i =
      ⊎_elim
      (λ j. member_fits first (next_offset first end) (end_of_struct rest (next_offset first end + size first)) row
      (struct_grows rest (next_offset first end + size first)) s.0 (λ r k. rows_fit first s.1 r k) j)
      (struct_fits rest (next_offset first end + size first) s.2 row)
      (in_append row (map (moved (next_offset first end)) (single first 1 ∷ rows_in first)) (rows_in_struct rest
      (next_offset first end + size first)) i)
  struct_fits (Flexible n of) end s row i = absurd i

  union_fits : (members : Members) → AreSound members → (row : Row) → In row (rows_in_union members) →
      Fits (end_of_union members) row
  union_fits None_left s row i = absurd i
  union_fits (Member first rest) s row i =
      ⊎_elim
      (λ j. member_fits first 0 (max (size first) (end_of_union rest)) row (omega (
        arith,
        max_left (size first)
            (end_of_union rest),
      )) s.0
      (λ r k. rows_fit first s.1 r k) j)
      (λ j. fits_more (end_of_union rest) (max (size first) (end_of_union rest)) row (max_right (size first)
      (end_of_union rest)) (union_fits rest s.2 row j))
      (in_append row (map (moved 0) (single first 1 ∷ rows_in first)) (rows_in_union rest) i)
  union_fits (Flexible n of) s row i = absurd i
