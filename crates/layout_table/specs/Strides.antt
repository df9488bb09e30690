-- The rows of a type: of which runs a value is made, what is inside an array standing there once.
use Rattle.std.specs.Prelude.{ℕ, ◌+◌, ◌-◌, ◌*◌, ◌<◌, ◌/◌, ◌%◌, List, [], ◌∷◌, ◌++◌, map, filter_map, fold, Option, Some, None, Bool, false, not, ◌==◌, nat_lt, nat_le, if◌then◌else◌}
use Rattle.std.specs.Option.{option_map}
use Rattle.c_types.specs.Shapes.{Shape, Members, Void, Whole, Pointer, Array, Open, Struct, Union, Incomplete, None_left, Member, Flexible, size, next_offset}
use Rattle.type_layout.specs.declared.preference.Match.{Match}
use Rattle.type_layout.specs.Runs.{ShapeRun, flexible_of}
use Rattle.type_layout.specs.Preferred.{run_match, object_match}
use Rattle.type_layout.specs.Search.{consider}

-- An array around a run: after how many bytes its next element begins, and how many elements it has.
pub record Level : Type 0 where
  pub stride : ℕ
  pub count : ℕ

-- A run that stands once in each element of the arrays around it, the outermost first. Its offset is that of the first.
pub record Row : Type 0 where
  pub kind : Shape
  pub lo : ℕ
  pub count : ℕ
  pub levels : List Level

-- the bytes of each of its runs
abbrev pub width : Row → ℕ
width row = row.count * size row.kind

-- ---- the rows of a type

abbrev pub single : Shape → ℕ → Row
single kind count = record { kind = kind; lo = 0; count = count; levels = [] }

abbrev pub moved : ℕ → Row → Row
moved by row = record { kind = row.kind; lo = by + row.lo; count = row.count; levels = row.levels }

abbrev pub repeated : Level → Row → Row
repeated level row = record { kind = row.kind; lo = row.lo; count = row.count; levels = level ∷ row.levels }

-- The rows inside a value: of an array that of its elements, and those inside an element, repeated;
-- of a struct or union
-- one for each member but a flexible one, and those inside the member, moved to its offset.
abbrev mutual
  pub rows_in : Shape → List Row
  rows_in (Void n) = []
  rows_in (Whole n width signed) = []
  rows_in (Pointer n to) = []
  rows_in (Array n of count) = single of count ∷ map (repeated (record {
    stride = size of;
    count = count;
  })) (rows_in of)
  rows_in (Open n of) = []
  rows_in (Struct n members) = rows_in_struct members 0
  rows_in (Union n members) = rows_in_union members
  rows_in (Incomplete n) = []

  -- the members before them reach to an end
  pub rows_in_struct : Members → ℕ → List Row
  rows_in_struct None_left end = []
  rows_in_struct (Member first rest) end =
      map (moved (next_offset first end)) (single first 1 ∷ rows_in first) ++ rows_in_struct rest (next_offset first
      end + size first)
  rows_in_struct (Flexible n of) end = []

  pub rows_in_union : Members → List Row
  rows_in_union None_left = []
  rows_in_union (Member first rest) = map (moved 0) (single first 1 ∷ rows_in first) ++ rows_in_union rest
  rows_in_union (Flexible n of) = []

-- ---- what is needed of a type: each array has an element, and each element and member has bytes

abbrev mutual
  pub IsSound : Shape → Type 0
  IsSound (Void n) = Unit {0}
  IsSound (Whole n width signed) = Unit {0}
  IsSound (Pointer n to) = Unit {0}
  IsSound (Array n of count) = (0 < count) × (0 < size of) × IsSound of
  IsSound (Open n of) = Unit {0}
  IsSound (Struct n members) = AreSound members
  IsSound (Union n members) = AreSound members
  IsSound (Incomplete n) = Unit {0}

  pub AreSound : Members → Type 0
  AreSound None_left = Unit {0}
  AreSound (Member first rest) = (0 < size first) × IsSound first × AreSound rest
  AreSound (Flexible n of) = (0 < size of) × IsSound of

-- ---- how many rows count

abbrev mutual
  pub inner : Shape → ℕ
  inner (Void n) = 0
  inner (Whole n width signed) = 0
  inner (Pointer n to) = 0
  inner (Array n of count) = 1 + inner of
  inner (Open n of) = 1 + inner of
  inner (Struct n members) = inner_of_members members
  inner (Union n members) = inner_of_members members
  inner (Incomplete n) = 0

  pub inner_of_members : Members → ℕ
  inner_of_members None_left = 0
  inner_of_members (Member first rest) = (1 + inner first) + inner_of_members rest
  inner_of_members (Flexible n of) = 1 + inner of

abbrev pub rows_of : Shape → ℕ
rows_of shape = 1 + inner shape

-- ---- to find the run of a row

-- How far behind the start of its element, through all arrays, an offset is. There is none behind an array's last
-- element.
abbrev pub descend : List Level → ℕ → Option ℕ
descend [] at = Some at
descend (level ∷ levels) at = if nat_lt (at / level.stride) level.count then descend levels (at % level.stride) else
    None

-- the run of a row in a value at an offset, at or before a place of the value
abbrev pub located : Row → ℕ → ℕ → Option ShapeRun
located row at place =
    if nat_le row.lo place then option_map (λ past. record {
      kind = row.kind;
      lo = at + (place - past);
      count = row.count;
    }) (descend row.levels (place - row.lo))
    else None

-- The run that may have the offset k inside, and the one that may end there.
abbrev pub around : ℕ → ℕ → Row → Option ShapeRun
around at k row = located row at (k - at)

abbrev pub before : ℕ → ℕ → Row → Option ShapeRun
before at k row = if nat_le (width row) (k - at) then located row at (k - at - width row) else None

-- which of so many values of a size, from an offset, an offset k is in: where it begins
abbrev pub value_at : ℕ → ℕ → ℕ → ℕ → Option ℕ
value_at bytes base count k =
    if nat_le base k then (if nat_lt ((k - base) / bytes) count then Some (base + (k - base) / bytes * bytes) else
    None) else None

-- and in which of them it ends: k is behind its first byte and at its end at most
abbrev pub value_before : ℕ → ℕ → ℕ → ℕ → Option ℕ
value_before bytes base count k = if nat_lt base k then value_at bytes base count (k - 1) else None

abbrev pub in_value : (ℕ → Row → Option ShapeRun) → List Row → Option ℕ → List ShapeRun
in_value find rows None = []
in_value find rows (Some at) = filter_map (find at) rows

-- ---- the parts of an object: so many values of a type, from an offset

pub record Part : Type 0 where
  pub kind : Shape
  pub base : ℕ
  pub count : ℕ

abbrev pub parts_by : Option (ℕ × Shape) → Shape → ℕ → List Part
parts_by None elem bytes = record { kind = elem; base = 0; count = bytes / size elem } ∷ []
parts_by (Some (offset, of)) elem bytes =
    record { kind = elem; base = 0; count = if nat_le (size elem) bytes then 1 else 0 } ∷
    (if nat_le offset bytes then record { kind = of; base = offset; count = (bytes - offset) / size of } ∷ [] else [])

abbrev pub parts_of : Shape → ℕ → List Part
parts_of elem bytes = parts_by (flexible_of elem) elem bytes

-- ---- the best match of an object, going over its rows

abbrev pub match_found : Shape → Option ShapeRun → Option Match
match_found want None = None
match_found want (Some run) = run_match want run

abbrev pub look : ℕ → Shape → Option Match → Option ShapeRun → Option Match
look k want best found = consider k best (match_found want found)

abbrev pub scan : ℕ → Shape → (Row → Option ShapeRun) → Option Match → List Row → Option Match
scan k want find = fold (λ best row. look k want best (find row))

abbrev pub scan_value : ℕ → Shape → (ℕ → Row → Option ShapeRun) → Option Match → List Row → Option ℕ → Option Match
scan_value k want find best rows None = best
scan_value k want find best rows (Some at) = scan k want (find at) best rows

-- the values of a part, and what is inside the one that the offset is in
abbrev pub part_inside : ℕ → Shape → List Row → Option Match → Part → Option Match
part_inside k want rows best part =
    scan_value k want (λ at. around at k) (look k want best (Some (record {
      kind = part.kind;
      lo = part.base;
      count = part.count;
    }))) rows
    (value_at (size part.kind) part.base part.count k)

-- what ends at the offset, inside one of the values
abbrev pub part_ends : ℕ → Shape → List Row → Option Match → Part → Option Match
part_ends k want rows best part = scan_value k want (λ at. before at k) best rows (value_before (size part.kind)
    part.base part.count k)

-- A match that does not end at the offset goes before each that does.
abbrev pub is_settled : ℕ → Option Match → Bool
is_settled k None = false
is_settled k (Some m) = not (m.hi == k)

-- over parts, each with the rows that are looked at
abbrev pub all_inside : ℕ → Shape → (Part → List Row) → Option Match → List Part → Option Match
all_inside k want rows = fold (λ best part. part_inside k want (rows part) best part)

abbrev pub all_ends : ℕ → Shape → (Part → List Row) → Option Match → List Part → Option Match
all_ends k want rows = fold (λ best part. part_ends k want (rows part) best part)

abbrev pub first_of : Shape → ℕ → ℕ → Shape → (Part → List Row) → List Part → Option Match
first_of elem bytes k want inner parts = consider k (all_inside k want inner None parts) (object_match elem bytes want)

abbrev pub or_ends_of : ℕ → Shape → (Part → List Row) → List Part → Option Match → Option Match
or_ends_of k want ends parts best = if is_settled k best then best else all_ends k want ends best parts

abbrev pub best_of_parts : Shape → ℕ → ℕ → Shape → (Part → List Row) → (Part → List Row) → List Part → Option Match
best_of_parts elem bytes k want inner ends parts = or_ends_of k want ends parts (first_of elem bytes k want inner parts)

abbrev pub best_match : Shape → ℕ → ℕ → Shape → (Part → List Row) → (Part → List Row) → Option Match
best_match elem bytes k want inner ends = best_of_parts elem bytes k want inner ends (parts_of elem bytes)
