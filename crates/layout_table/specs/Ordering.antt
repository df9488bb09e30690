-- Rows that reach further.
use Rattle.std.specs.Prelude.{◌≡◌, ℕ, ◌<◌, ◌≤◌, List, length, ◌==◌, ◌&&◌, nat_lt, slice_index_or, if◌then◌else◌}
use Rattle.type_layout.specs.Listed.{In}
use Rattle.layout_table.specs.declared.stored.StoredRow.{StoredRow}

abbrev pub reaching : StoredRow → ℕ → StoredRow
reaching row reach = record {
  key = row.key;
  reach = reach;
  kind = row.kind;
  lo = row.lo;
  count = row.count;
  size = row.size;
  levels = row.levels;
}

abbrev pub raised : StoredRow → StoredRow → StoredRow
raised before row = if (before.key == row.key) && nat_lt row.reach before.reach then reaching row before.reach else row

-- the same row but for its reach, which is no shorter
pub record IsRaised (old new : StoredRow) : Type 0 where
  pub same : new ≡ reaching old new.reach
  pub further : old.reach ≤ new.reach

pub record AreRaised (old new : List StoredRow) : Type 0 where
  pub count : length new ≡ length old
  pub each : (i : ℕ) (d : StoredRow) → i < length old → IsRaised (slice_index_or old i d) (slice_index_or new i d)

-- the same rows in any order, but for their reaches, which are no shorter
pub record AreSameRows (old new : List StoredRow) : Type 0 where
  pub kept : (row : StoredRow) → In row old → (other : StoredRow) × In other new × IsRaised row other
  pub known : (row : StoredRow) → In row new → (other : StoredRow) × In other old × IsRaised other row
  pub size : length new ≡ length old

-- rows that reach to a place at most
abbrev pub AreShort : ℕ → List StoredRow → Type 0
AreShort top rows = (row : StoredRow) → In row rows → row.reach ≤ top

-- rows that reach no further than others at most do
pub record StaysWithin (old new : List StoredRow) : Type 0 where
  pub each : (top : ℕ) → AreShort top old → AreShort top new
