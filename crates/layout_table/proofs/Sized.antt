-- Which types a table has an entry with a size of.
use Rattle.std.proofs.Common.{◌≡◌, ℕ, zero, suc, ◌-◌, ◌<◌, List, length, Bool, true, false, Some, None, refl, arith, subst}
use Rattle.std.specs.Prelude.{Option, slice_get, Contains, not, ◌==◌, ◌↔◌}
use Rattle.std.proofs.lemmas.Bool.Decides.{nat_tests}
use Rattle.c_types.specs.Shapes.{is_complete, is_unknown}
use Rattle.c_types.specs.Table.{Types, IsNumber, HasSize, shape_of}
use Rattle.c_types.specs.Holds.{IsTable}
use Rattle.layout_table.specs.declared.stored.StoredLevel.{StoredLevel}
use Rattle.layout_table.specs.declared.stored.StoredRow.{StoredRow}
use Rattle.layout_table.specs.declared.stored.StoredEntry.{StoredEntry}
use Rattle.layout_table.specs.Tables.{IsTableOf, size_by, size_in}
use Rattle.layout_table.specs.Making.{IsSoFar}
use Rattle.layout_table.proofs.Counted.{complete_in}
use Rattle.layout_table.proofs.Growth.{slice_get_within}
use Rattle.layout_table.proofs.Lookups.{has_place}

some_size : (n : ℕ) → 0 < n → not (n == 0) ≡ true
some_size n h = grind (arith, nat_tests)

no_size : (n : ℕ) → n ≡ 0 → not (n == 0) ≡ false
no_size n h = grind (arith, nat_tests)

lies : (b : Bool) → b ≡ true → b ≡ false → ⊥
lies true e f = cc
lies false e f = cc

none_there : (entries : List StoredEntry) (p : ℕ) → slice_get entries p ≡ None → p < length entries → ⊥
none_there entries p e h = let x = has_place entries p h in differ x.0 (slice_get entries p) e x.1
  where
    differ : (x : StoredEntry) (o : Option StoredEntry) → o ≡ None → o ≡ Some x → ⊥
    differ x o e f = cc

by_complete : (types : Types) (entries : List StoredEntry) (rows : List StoredRow) (levels : List StoredLevel) →
    IsTableOf types entries rows levels → (p : ℕ) (e : StoredEntry) →
    slice_get entries p ≡ Some e → (b : Bool) → is_complete (shape_of types (suc p)) ≡ b →
    (not (e.size == 0) ≡ true) ↔ HasSize types (suc p)
by_complete types entries rows levels table p e at true c =
    let known : IsNumber types (suc p) = (omega arith, omega (arith, slice_get_within entries p e at, table.count)) in
    let ok = table.entry (suc p) e (known, c) (subst (λ (n : ℕ). slice_get entries n ≡ Some e) (less p) at) in
    (λ t. (known, c), λ h. some_size e.size ok.filled)
  where
    less : (p : ℕ) → p ≡ suc p - 1
    less p = omega arith
by_complete types entries rows levels table p e at false c =
    let known : IsNumber types (suc p) = (omega arith, omega (arith, slice_get_within entries p e at, table.count)) in
    let z = table.none (suc p) e known c (subst (λ (n : ℕ). slice_get entries n ≡ Some e) (less p) at) in (
      λ t. absurd (lies (not (e.size == 0)) t (no_size e.size z)),
      λ h. absurd (lies (is_complete (shape_of types (suc
          p))) h.1 c),
    )
  where
    less : (p : ℕ) → p ≡ suc p - 1
    less p = omega arith

by_entry : (types : Types) (entries : List StoredEntry) (rows : List StoredRow) (levels : List StoredLevel) →
    IsTableOf types entries rows levels → (p : ℕ) (o : Option StoredEntry) →
    slice_get entries p ≡ o → (not (size_by o == 0) ≡ true) ↔ HasSize types (suc p)
by_entry types entries rows levels table p None at =
    (λ t. absurd (false_true t), λ h. absurd (none_there entries p at (omega (arith, h.0.1, table.count))))
  where
    false_true : false ≡ true → ⊥
    false_true e = cc
by_entry types entries rows levels table p (Some e) at = by_complete types entries rows levels table p e at
    (is_complete (shape_of types (suc p))) refl

pub has_is : (types : Types) (entries : List StoredEntry) (rows : List StoredRow) (levels : List StoredLevel) →
    IsTableOf types entries rows levels → (t : ℕ) →
    (not (size_in entries t == 0) ≡ true) ↔ HasSize types t
has_is types entries rows levels table zero = (λ t. absurd (false_true t), λ h. absurd (omega (arith, h.0.0)))
  where
    false_true : false ≡ true → ⊥
    false_true e = cc
has_is types entries rows levels table (suc p) = by_entry types entries rows levels table p (slice_get entries p) refl

-- ---- all types are added

pub all_added : (types : Types) (table : IsTable types) (order : List ℕ) → ((n : ℕ) → IsNumber types n →
    is_unknown (shape_of types n) ≡ false → Contains order n) →
    (entries : List StoredEntry) (rows : List StoredRow) (levels : List StoredLevel) →
    IsSoFar types order entries rows levels → IsTableOf types entries rows levels
all_added types table order all entries rows levels so_far = record {
  count = so_far.count;
  entry = λ t e h at. so_far.entry t e (complete_in types table order all t h.1) h at;
  none = so_far.none;
  rows_ok = so_far.rows_ok;
  levels_ok = so_far.levels_ok;
}
