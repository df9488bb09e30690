-- What the table keeps: its rows, over the numbers of types, and the arrays around them as chains.
use Rattle.std.specs.Prelude.{◌≡◌, ℕ, zero, suc, ◌+◌, ◌-◌, ◌*◌, ◌/◌, ◌==◌, ◌<◌, ◌≤◌, List, [], ◌∷◌, length, Option, Some, None, slice_get, nat_le, nat_lt, ◌&&◌, ◌^◌, Bool, filter, slice_index_or, if◌then◌else◌}
use Rattle.std.specs.Option.{option_map}
use Rattle.std.specs.List.Sorted.{IsNonDecreasingBy}
use Rattle.c_types.specs.Shapes.{Shape, Void, Whole, Pointer, Array, Open, Struct, Union, Incomplete, size}
use Rattle.c_types.specs.Table.{Types, HasSize, shape_of}
use Rattle.type_layout.specs.Runs.{ShapeRun}
use Rattle.layout_table.specs.declared.stored.StoredLevel.{StoredLevel}
use Rattle.layout_table.specs.declared.stored.StoredRow.{StoredRow}
use Rattle.layout_table.specs.declared.stored.StoredPart.{StoredPart}
use Rattle.layout_table.specs.Strides.{Level, Row, Part, descend}

-- ---- chains of arrays

abbrev pub chain_of : (ℕ → List Level) → Option StoredLevel → List Level
chain_of inside None = []
chain_of inside (Some level) = record { stride = level.stride; count = level.count } ∷ inside level.inside

abbrev pub chain_within : ℕ → List StoredLevel → ℕ → List Level
chain_within fuel levels zero = []
chain_within zero levels (suc place) = []
chain_within (suc fuel) levels (suc place) = chain_of (chain_within fuel levels) (slice_get levels place)

-- the arrays of a chain, which begins at a number; 0 is none
abbrev pub chain : List StoredLevel → ℕ → List Level
chain levels head = chain_within head levels head

-- Each level's inside stands before it.
abbrev pub AreLevels : List StoredLevel → Type 0
AreLevels levels = (place : ℕ) (level : StoredLevel) → slice_get levels place ≡ Some level → (0 < level.stride) ×
    (level.inside ≤ place)

-- ---- rows

abbrev pub decoded : Types → List StoredLevel → StoredRow → Row
decoded types levels row = record {
  kind = shape_of types row.kind;
  lo = row.lo;
  count = row.count;
  levels = chain levels row.levels;
}

-- Types that match have one key: whole numbers their width, pointers 9, and any other type its number, which is
-- above 9.
abbrev pub key_of : Shape → ℕ
key_of (Void n) = n
key_of (Whole n width signed) = width
key_of (Pointer n to) = 9
key_of (Array n of count) = n
key_of (Open n of) = n
key_of (Struct n members) = n
key_of (Union n members) = n
key_of (Incomplete n) = n

-- the order of rows: by the key, and then by the offset, and also by how far they reach
abbrev pub keyed : ℕ → ℕ → ℕ
keyed key place = key * 2 ^ 32 + place

abbrev pub from_of : StoredRow → ℕ
from_of row = keyed row.key row.lo

abbrev pub reach_of : StoredRow → ℕ
reach_of row = keyed row.key row.reach

-- what lies between the start of the first element and the end of the last, each having so many bytes
abbrev pub extent : List Level → ℕ → ℕ
extent [] bytes = bytes
extent (level ∷ levels) bytes = (level.count - 1) * level.stride + extent levels bytes

-- rows of a key that may have a place of a value inside, and that may end at one
abbrev pub may_hold : ℕ → ℕ → StoredRow → Bool
may_hold key place row = nat_lt (keyed key place) (reach_of row) && nat_le (from_of row) (keyed key place)

abbrev pub may_end : ℕ → ℕ → StoredRow → Bool
may_end key place row = nat_le (keyed key place) (reach_of row) && nat_lt (from_of row) (keyed key place)

abbrev pub rows_by : (ℕ → StoredRow → Bool) → ℕ → Option ℕ → List StoredRow → List StoredRow
rows_by test k None rows = []
rows_by test k (Some at) rows = filter (test (k - at)) rows

abbrev pub near : ℕ → ℕ → Option ℕ → List StoredRow → List StoredRow
near key = rows_by (may_hold key)

abbrev pub near_end : ℕ → ℕ → Option ℕ → List StoredRow → List StoredRow
near_end key = rows_by (may_end key)

pub record IsRow (types : Types) (levels : List StoredLevel) (row : StoredRow) : Type 0 where
  pub known : HasSize types row.kind
  pub sized : row.size ≡ size (shape_of types row.kind)
  pub filled : 0 < row.size
  pub headed : row.levels ≤ length levels
  pub keyed_by : row.key ≡ key_of (shape_of types row.kind)
  pub reached : row.lo + extent (chain levels row.levels) (row.count * row.size) ≤ row.reach
  pub short : row.reach < 2 ^ 32

abbrev pub AreRows : Types → List StoredLevel → List StoredRow → Type 0
AreRows types levels rows = (place : ℕ) (row : StoredRow) → slice_get rows place ≡ Some row → IsRow types levels row

-- rows in both orders
pub record AreOrdered (rows : List StoredRow) : Type 0 where
  pub rising : IsNonDecreasingBy from_of rows
  pub reaching : IsNonDecreasingBy reach_of rows
  pub each : (i : ℕ) (d : StoredRow) → i < length rows → from_of (slice_index_or rows i d) ≤ reach_of (slice_index_or
      rows i d)

-- where the run of a row starts in a value at an offset, at or before a place
abbrev pub start_of : List Level → StoredRow → ℕ → ℕ → Option ℕ
start_of levels row at place =
    if nat_le row.lo place then option_map (λ past. at + (place - past)) (descend levels (place - row.lo)) else None

-- the run that starts there
abbrev pub run_from : Types → StoredRow → ℕ → ShapeRun
run_from types row lo = record { kind = shape_of types row.kind; lo = lo; count = row.count }

-- where the run of a row starts that ends at the offset k
abbrev pub start_before : List Level → StoredRow → ℕ → ℕ → Option ℕ
start_before levels row at k =
    if nat_le (row.count * row.size) (k - at) then start_of levels row at (k - at - row.count * row.size) else None

-- the parts of an object by its entry
abbrev pub own_count : ℕ → ℕ → ℕ → ℕ
own_count tail bytes size = if tail == 0 then size / bytes else (if nat_le bytes size then 1 else 0)

abbrev pub tail_part : ℕ → ℕ → ℕ → ℕ → Option StoredPart
tail_part tail at bytes size =
    if tail == 0 then None else (if nat_le at size then Some (record {
      kind = tail;
      base = at;
      count = (size - at) / bytes;
    }) else None)

-- so many values of a type, from an offset
abbrev pub part_in : Types → StoredPart → Part
part_in types part = record { kind = shape_of types part.kind; base = part.base; count = part.count }
