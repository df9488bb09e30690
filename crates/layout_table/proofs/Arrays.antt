-- The rows of an array say what is inside it.
use Rattle.std.proofs.Common.{◌≡◌, ℕ, ◌+◌, ◌-◌, ◌*◌, ◌<◌, ◌≤◌, List, [], ◌∷◌, ◌++◌, length, map, sym, ap, ◌∙◌, refl, arith, subst, inl, inr, ⊎_elim}
use Rattle.std.proofs.Math.Nat.{suc-mul}
use Rattle.c_types.specs.Shapes.{Array, size}
use Rattle.c_types.specs.Table.{Types, HasSize, shape_of}
use Rattle.type_layout.specs.Listed.{In}
use Rattle.layout_table.specs.declared.stored.StoredLevel.{StoredLevel}
use Rattle.layout_table.specs.declared.stored.StoredRow.{StoredRow}
use Rattle.layout_table.specs.declared.stored.StoredEntry.{StoredEntry}
use Rattle.layout_table.specs.Strides.{Level, single, repeated, rows_in}
use Rattle.layout_table.specs.Stored.{AreLevels, AreRows, decoded}
use Rattle.layout_table.specs.Tables.{IsEntry, rows_at}
use Rattle.layout_table.specs.Ordering.{AreShort}
use Rattle.layout_table.specs.Growing.{level_around, rows_within}
use Rattle.layout_table.specs.Making.{AreOwn, row_for}
use Rattle.layout_table.proofs.Growth.{AllRows, AreRoomy, all_within_array, all_levels, by_place, from_places, row_kept, within_ok}
use Rattle.layout_table.proofs.Made.{headed, part_ok}
use Rattle.layout_table.proofs.Members.{SameSet, same_map, same_refl, same_trans, same_cons, head_ok}

module _ (types : Types) (rows : List StoredRow) (levels : List StoredLevel) (rows_ok : AreRows types levels rows)
    (levels_ok : AreLevels levels) (of count : ℕ) (entry : StoredEntry)
    (has : HasSize types of) (e : IsEntry types rows levels of entry) (filled : 0 < count) (fits : count * entry.size
    ≤ 1048559) where
  abbrev level : Level
  level = record { stride = size (shape_of types of); count = count }

  abbrev more : List StoredLevel
  more = map (level_around entry.size count) (rows_at rows entry)

  abbrev own : List StoredRow
  own = row_for types of entry.size count ∷ rows_within entry.size count (length levels) (rows_at rows entry)

  decode : map (decoded types (levels ++ more)) own ≡ single (shape_of types of) count ∷ map (repeated level) (map
      (decoded types levels) (rows_at rows entry))
  decode =
      ap (λ rs. single (shape_of types of) count ∷ rs)
      (all_within_array types entry.size count e.filled (rows_at rows entry) levels levels_ok (headed types levels
      (rows_at rows entry) (part_ok types levels rows entry rows_ok)) ∙
      ap (λ (n : ℕ). map (repeated (record { stride = n; count = count })) (map (decoded types levels) (rows_at rows
      entry))) e.sized)

  array_same : (t : ℕ) → SameSet (map (decoded types (levels ++ more)) own) (rows_in (Array t (shape_of types of)
      count))
  array_same t =
      same_trans (map (decoded types (levels ++ more)) own) (single (shape_of types of) count ∷ map (repeated level)
      (map (decoded types levels) (rows_at rows entry)))
      (rows_in (Array t (shape_of types of) count)) (same_refl _ _ decode)
      (same_cons (single (shape_of types of) count) (map (repeated level) (map (decoded types levels) (rows_at rows
      entry))) (map (repeated level) (rows_in (shape_of types of)))
      (same_map (repeated level) (map (decoded types levels) (rows_at rows entry)) (rows_in (shape_of types of)) (λ
      row. (e.no_more row, e.all row))))

  one_less : (n bytes : ℕ) → 0 < n → (n - 1) * bytes + bytes ≡ n * bytes
  one_less n bytes h = sym (suc-mul (n - 1) bytes) ∙ ap (λ (m : ℕ). m * bytes) (omega (arith, h))

  roomy : (part : List StoredRow) → ((row : StoredRow) → In row part → row.reach ≤ entry.size) →
      AreRoomy ((count - 1) * entry.size) part
  roomy [] h = tt
  roomy (row ∷ part) h = (
    omega (arith, h row (inl refl), one_less count entry.size filled, fits),
    roomy part (λ r i.
        h r (inr i)),
  )

  all_ok : AllRows types (levels ++ more) own
  all_ok = (
    row_kept types levels more (row_for types of entry.size count) levels_ok (head_ok types entries_none rows levels
        rows_ok of entry.size count has e.sized e.filled fits),
    within_ok types entry.size count e.filled (rows_at rows entry) levels levels_ok (from_places types levels
        (rows_at rows entry) (part_ok types levels rows entry rows_ok))
        (roomy (rows_at rows entry) e.short),
  )
    where
      entries_none : List StoredEntry
      entries_none = []

  within_short : (part : List StoredRow) (n : ℕ) → ((row : StoredRow) → In row part → row.reach ≤ entry.size) →
      AreShort (count * entry.size) (rows_within entry.size count n part)
  within_short [] n h = λ row i. absurd i
  within_short (x ∷ part) n h = λ row i.
      ⊎_elim (λ d. subst (λ (r : StoredRow). r.reach ≤ count * entry.size) (sym d) (omega (
        arith,
        h x (inl refl),
        one_less count entry.size filled,
      )))
      (λ j. within_short part (n + 1) (λ r k. h r (inr k)) row j) i

  pub array_own : (t : ℕ) → shape_of types t ≡ Array t (shape_of types of) count → (new : List StoredLevel) →
      new ≡ levels ++ more → (got : List StoredRow) → got ≡ own →
      AreOwn types levels new t got
  array_own t shape new n got g =
      subst (λ ls. AreOwn types levels ls t got) (sym n) (subst (AreOwn types levels (levels ++ more) t) (sym g)
      (record {
        more = more;
        longer = refl;
        levels_ok = all_levels entry.size count e.filled (rows_at rows entry) levels levels_ok (headed types levels
            (rows_at rows entry) (part_ok types levels rows entry rows_ok));
        rows_ok = by_place types (levels ++ more) own all_ok;
        all = λ row i. (array_same t row).1 (subst (λ sh. In row (rows_in sh)) shape i);
        no_more = λ row i. subst (λ sh. In row (rows_in sh)) (sym shape) ((array_same t row).0 i);
        short = λ row i. subst (λ sh. row.reach ≤ size sh) (sym shape) (subst (λ (m : ℕ). row.reach ≤ count * m) e.sized
            (⊎_elim (λ d. subst (λ (r : StoredRow). r.reach ≤ count * entry.size) (sym d) (omega arith))
            (within_short (rows_at rows entry) (length levels) e.short row) i));
      }))
