-- The runs that are looked at hold each candidate.
use Rattle.std.proofs.Common.{◌≡◌, ◌⊎◌, ℕ, ◌+◌, ◌-◌, ◌*◌, ◌<◌, ◌≤◌, List, ◌∷◌, ◌++◌, Some, ap, arith, inl, inr, ⊎_elim, subst}
use Rattle.c_types.specs.Shapes.{Shape, size}
use Rattle.type_layout.specs.Runs.{ShapeRun, end_of, runs_of}
use Rattle.type_layout.specs.Listed.{In}
use Rattle.type_layout.proofs.Least.{in_append, in_append_left, in_append_right}
use Rattle.layout_table.specs.Strides.{Row, width, rows_in, IsSound, around, before, value_at, value_before, in_value}
use Rattle.layout_table.specs.Stored.{extent}
use Rattle.layout_table.proofs.Levels.{start_ends}
use Rattle.layout_table.proofs.Strided.{IsInstance, runs_rows, rows_runs}
use Rattle.layout_table.proofs.Fits.{Fits, rows_fit}
use Rattle.layout_table.proofs.Located.{located_is, around_there, before_there, before_is, value_is, value_there, value_before_is, value_before_there, in_value_in, in_in_value}

-- The runs of so many values of a type that are looked at: the whole run, those with the offset inside, those that
-- end there.
abbrev pub looked_at : Shape → ℕ → ℕ → ℕ → List Row → List Row → List ShapeRun
looked_at kind base count k inner ends =
    record { kind = kind; lo = base; count = count } ∷
    (in_value (λ at. around at k) inner (value_at (size kind) base count k) ++ in_value (λ at. before at k) ends
    (value_before (size kind) base count k))

module _ (kind : Shape) (base count k : ℕ) (inner ends : List Row) where
  module _ (inner_rows : (row : Row) → In row inner → In row (rows_in kind)) (end_rows : (row : Row) →
      In row ends → In row (rows_in kind)) where
    of_value : (at : ℕ) (row : Row) (run : ShapeRun) → (i : ℕ) × (i < count) × (at ≡ base + i * size kind) →
        In row (rows_in kind) → IsInstance row at run →
        In run (runs_of kind base count)
    of_value at row run v i s =
        rows_runs kind base count v.0 run v.1 (row, i, subst (λ a. IsInstance row a run) v.2 s)

    pub looked_at_is : (run : ShapeRun) → In run (looked_at kind base count k inner ends) →
        In run (runs_of kind base count)
    looked_at_is run h =
        ⊎_elim inl
        (λ g. ⊎_elim
        (λ i. let f = in_value_in (λ at. around at k) run inner (value_at (size kind) base count k) i in
        of_value f.0 f.2.0 run (value_is (size kind) base count k f.0 f.1) (inner_rows f.2.0 f.2.1) (located_is f.2.0
        f.0 (k - f.0) run f.2.2))
        (λ i. let f = in_value_in (λ at. before at k) run ends (value_before (size kind) base count k) i in
        of_value f.0 f.2.0 run (value_before_is (size kind) base count k f.0 f.1) (end_rows f.2.0 f.2.1) (before_is
        f.2.0 f.0 k run f.2.2))
        (in_append run (in_value (λ at. around at k) inner (value_at (size kind) base count k)) (in_value (λ at.
        before at k) ends (value_before (size kind) base count k)) g)) h

  -- Rows that may be left out have no run there of the type that is wanted.
  module _ (Wanted : Shape → Type 0) (sound : IsSound kind)
      (inner_all : (at : ℕ) (row : Row) (run : ShapeRun) → value_at (size kind) base count k ≡ Some at →
      In row (rows_in kind) → Wanted row.kind →
      IsInstance row at run → run.lo ≤ k → k < run.lo + width row → In row inner)
      (ends_all : (at : ℕ) (row : Row) (run : ShapeRun) → value_before (size kind) base count k ≡ Some at →
      In row (rows_in kind) → Wanted row.kind →
      IsInstance row at run → k ≡ run.lo + width row → In row ends) where
    module _ (run : ShapeRun) (wanted : Wanted run.kind) (i : ℕ) (l : i < count) (row : Row) (known : In row (rows_in
        kind))
        (is : IsInstance row (base + i * size kind) run) (from : run.lo ≤ k) where
      fits : Fits (size kind) row
      fits = rows_fit kind sound row known

      lo : run.lo ≡ base + i * size kind + row.lo + is.0
      lo = ap (λ r. r.lo) is.2

      row_wanted : Wanted row.kind
      row_wanted = subst Wanted (ap (λ r. r.kind) is.2) wanted

      ends_by : is.0 + width row ≤ extent row.levels (width row)
      ends_by = start_ends row.levels (width row) is.0 is.1

      is_around : k < run.lo + width row → In run (in_value (λ at. around at k) inner (value_at (size kind) base
          count k))
      is_around to =
          let v = value_there (size kind) base count k i (row.lo + is.0 + (k - run.lo)) l (omega (
            arith,
            to,
            from,
            ends_by,
            fits.within,
          )) (omega (arith, lo, from)) in
          in_in_value (λ at. around at k) run row inner (value_at (size kind) base count k) (base + i * size kind) v
          (inner_all (base + i * size kind) row run v known row_wanted is from to) (around_there row (base + i * size
          kind) k run fits.nested is from to)

      is_before : k ≡ run.lo + width row → In run (in_value (λ at. before at k) ends (value_before (size kind) base
          count k))
      is_before e =
          let v = value_before_there (size kind) base count k i (row.lo + is.0 + width row) l (omega (
            arith,
            fits.filled,
          )) (omega (arith, ends_by, fits.within)) (omega (arith, lo, e)) in
          in_in_value (λ at. before at k) run row ends (value_before (size kind) base count k) (base + i * size kind) v
          (ends_all (base + i * size kind) row run v known row_wanted is e) (before_there row (base + i * size kind)
          k run fits.nested fits.filled is e)

      one_of_two : k ≤ run.lo + width row →
          In run (in_value (λ at. around at k) inner (value_at (size kind) base count k) ++ in_value (λ at. before at
          k) ends (value_before (size kind) base count k))
      one_of_two to =
          ⊎_elim
          (λ h. in_append_left run (in_value (λ at. around at k) inner (value_at (size kind) base count k)) (in_value
          (λ at. before at k) ends (value_before (size kind) base count k)) (is_around h))
          (λ h. in_append_right run (in_value (λ at. around at k) inner (value_at (size kind) base count k))
          (in_value (λ at. before at k) ends (value_before (size kind) base count k)) (is_before h))
          (less_or_same k (run.lo + width row) to)
        where
          less_or_same : (a b : ℕ) → a ≤ b → (a < b) ⊎ (a ≡ b)
          less_or_same a b h = grind arith

    same_end : (row : Row) (at : ℕ) (run : ShapeRun) → IsInstance row at run → end_of run ≡ run.lo + width row
    same_end row at run is =
        ap (λ (r : ShapeRun). run.lo + r.count * size r.kind) is.2

    pub is_looked_at : (run : ShapeRun) → Wanted run.kind → In run (runs_of kind base count) → run.lo ≤ k →
        k ≤ end_of run → In run (looked_at kind base count k inner ends)
    is_looked_at run wanted h from to =
        ⊎_elim inl
        (λ r. inr (one_of_two run wanted r.0 r.1 r.2.0 r.2.1 r.2.2 from (subst (λ n. k ≤ n) (same_end r.2.0 (base +
        r.0 * size kind) run r.2.2) to)))
        (runs_rows kind base count run h)
