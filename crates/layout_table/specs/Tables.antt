-- What holds of a table: each type that has a size has its rows there.
use Rattle.std.specs.Prelude.{false, ◌≡◌, ℕ, zero, suc, ◌+◌, ◌-◌, ◌*◌, ◌<◌, ◌≤◌, ◌≢◌, ◌==◌, List, [], ◌∷◌, map, take, drop, length, Option, Some, None, slice_get, if◌then◌else◌}
use Rattle.c_types.specs.Shapes.{Shape, size, number_of, is_complete}
use Rattle.c_types.specs.Table.{Types, IsNumber, HasSize, shape_of}
use Rattle.type_layout.specs.Runs.{flexible_of}
use Rattle.type_layout.specs.Listed.{In}
use Rattle.layout_table.specs.declared.stored.StoredLevel.{StoredLevel}
use Rattle.layout_table.specs.declared.stored.StoredRow.{StoredRow}
use Rattle.layout_table.specs.declared.stored.StoredEntry.{StoredEntry}
use Rattle.layout_table.specs.Strides.{Row, Part, rows_in, rows_of, IsSound, value_at, value_before}
use Rattle.std.specs.Option.{option_to_list}
use Rattle.layout_table.specs.declared.stored.StoredPart.{StoredPart}
use Rattle.layout_table.specs.Stored.{AreLevels, AreOrdered, AreRows, decoded, near, near_end, part_in}

abbrev pub rows_at : List StoredRow → StoredEntry → List StoredRow
rows_at rows entry = take (entry.end - entry.start) (drop entry.start rows)

abbrev pub tail_of : Types → StoredEntry → Option (ℕ × Shape)
tail_of types entry = if entry.tail == 0 then None else Some (entry.tail_at, shape_of types entry.tail)

-- the entry of a type
pub record IsEntry (types : Types) (rows : List StoredRow) (levels : List StoredLevel) (t : ℕ) (entry : StoredEntry)
    : Type 0 where
  pub sized : entry.size ≡ size (shape_of types t)
  pub filled : 0 < entry.size
  pub sound : IsSound (shape_of types t)
  pub ordered : entry.start ≤ entry.end
  pub ended : entry.end ≤ length rows
  pub sorted : AreOrdered (rows_at rows entry)
  pub all : (row : Row) → In row (rows_in (shape_of types t)) → In row (map (decoded types levels) (rows_at rows entry))
  pub no_more : (row : Row) → In row (map (decoded types levels) (rows_at rows entry)) →
      In row (rows_in (shape_of types t))
  pub tail : flexible_of (shape_of types t) ≡ tail_of types entry
  pub tail_known : entry.tail ≢ 0 → HasSize types entry.tail
  pub short : (row : StoredRow) → In row (rows_at rows entry) → row.reach ≤ entry.size

pub record IsTableOf (types : Types) (entries : List StoredEntry) (rows : List StoredRow) (levels : List StoredLevel)
    : Type 0 where
  pub count : length entries ≡ length types.kinds
  pub entry : (t : ℕ) (entry : StoredEntry) → HasSize types t → slice_get entries (t - 1) ≡ Some entry →
      IsEntry types rows levels t entry
  pub none : (t : ℕ) (entry : StoredEntry) → IsNumber types t → is_complete (shape_of types t) ≡ false →
      slice_get entries (t - 1) ≡ Some entry → entry.size ≡ 0
  pub rows_ok : AreRows types levels rows
  pub levels_ok : AreLevels levels

-- the rows of a part that are looked at: those that may have the offset inside, and those that may end there
abbrev pub looked_rows : Types → List StoredLevel → List StoredRow → (List StoredRow → List StoredRow) →
    Option StoredEntry → List Row
looked_rows types levels rows choose None = []
looked_rows types levels rows choose (Some entry) = map (decoded types levels) (choose (rows_at rows entry))

abbrev pub rows_inside : Types → List StoredEntry → List StoredRow → List StoredLevel → ℕ → ℕ → Part → List Row
rows_inside types entries rows levels key k part =
    looked_rows types levels rows (near key k (value_at (size part.kind) part.base part.count k)) (slice_get entries
    (number_of part.kind - 1))

abbrev pub rows_ending : Types → List StoredEntry → List StoredRow → List StoredLevel → ℕ → ℕ → Part → List Row
rows_ending types entries rows levels key k part =
    looked_rows types levels rows (near_end key k (value_before (size part.kind) part.base part.count k)) (slice_get
    entries (number_of part.kind - 1))

-- a part of a type of the table, which lies in so many bytes
pub record IsPart (types : Types) (top : ℕ) (part : StoredPart) : Type 0 where
  pub known : HasSize types part.kind
  pub within : part.base + part.count * size (shape_of types part.kind) ≤ top

abbrev pub both_parts : Types → StoredPart → Option StoredPart → List Part
both_parts types own tail = part_in types own ∷ map (part_in types) (option_to_list tail)

-- ---- how many rows count

abbrev pub counted : Types → ℕ → ℕ
counted types t = if is_complete (shape_of types t) then rows_of (shape_of types t) else 0

-- of the types up to a number
abbrev pub rows_up_to : Types → ℕ → ℕ
rows_up_to types zero = 0
rows_up_to types (suc t) = rows_up_to types t + counted types (suc t)

abbrev pub rows_total : Types → ℕ
rows_total types = rows_up_to types (length types.kinds)

-- ---- which types have a size

abbrev pub size_by : Option StoredEntry → ℕ
size_by None = 0
size_by (Some entry) = entry.size

-- the size of a type by its entry, 0 where it has none
abbrev pub size_in : List StoredEntry → ℕ → ℕ
size_in entries zero = 0
size_in entries (suc place) = size_by (slice_get entries place)
