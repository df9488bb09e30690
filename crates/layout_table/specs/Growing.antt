-- The rows that are added for a type, of those of the types that it is made of.
use Rattle.std.specs.Prelude.{ℕ, ◌+◌, ◌-◌, ◌*◌, List, [], ◌∷◌}
use Rattle.layout_table.specs.declared.stored.StoredLevel.{StoredLevel}
use Rattle.layout_table.specs.declared.stored.StoredRow.{StoredRow}

-- the level around a row in an array
abbrev pub level_around : ℕ → ℕ → StoredRow → StoredLevel
level_around stride count row = record { stride = stride; count = count; inside = row.levels }

-- a row in an array, with the number of its new level
abbrev pub row_within : ℕ → ℕ → ℕ → StoredRow → StoredRow
row_within stride count level row =
    record {
      key = row.key;
      reach = row.reach + (count - 1) * stride;
      kind = row.kind;
      lo = row.lo;
      count = row.count;
      size = row.size;
      levels = level;
    }

-- rows in an array, where there are so many levels before
abbrev pub rows_within : ℕ → ℕ → ℕ → List StoredRow → List StoredRow
rows_within stride count levels [] = []
rows_within stride count levels (row ∷ rows) = row_within stride count (levels + 1) row ∷ rows_within stride count
    (levels + 1) rows

-- a row in a member
abbrev pub row_moved : ℕ → StoredRow → StoredRow
row_moved by row = record {
  key = row.key;
  reach = by + row.reach;
  kind = row.kind;
  lo = by + row.lo;
  count = row.count;
  size = row.size;
  levels = row.levels;
}
