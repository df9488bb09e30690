-- How the rows of a type are made of those of the types that it is made of.
use Rattle.std.specs.Prelude.{◌≡◌, ◌≢◌, ◌==◌, ℕ, ◌+◌, ◌-◌, ◌*◌, ◌≤◌, List, [], ◌∷◌, ◌++◌, map, fold, length, false, Option, Some, None, slice_get, Contains, if◌then◌else◌}
use Rattle.c_types.specs.declared.kinds.CType.{CType}
use Rattle.c_types.specs.declared.kinds.CType.TheVariants.{Void, Num, Pointer, Array, Flexible, Struct, Union}
use Rattle.c_types.specs.declared.kinds.Member.{Member}
use Rattle.c_types.specs.Shapes.{size, is_open, is_complete}
use Rattle.c_types.specs.Table.{Types, IsNumber, HasSize, kind_of, shape_of, members}
use Rattle.type_layout.specs.Listed.{In}
use Rattle.type_layout.specs.Runs.{flexible_of}
use Rattle.layout_table.specs.declared.stored.StoredLevel.{StoredLevel}
use Rattle.layout_table.specs.declared.stored.StoredRow.{StoredRow}
use Rattle.layout_table.specs.declared.stored.StoredEntry.{StoredEntry}
use Rattle.layout_table.specs.declared.stored.StoredTail.{StoredTail}
use Rattle.layout_table.specs.Strides.{Row, rows_in}
use Rattle.layout_table.specs.Stored.{AreLevels, AreRows, decoded, key_of}
use Rattle.layout_table.specs.Tables.{IsEntry, rows_at}
use Rattle.layout_table.specs.Growing.{row_moved}

-- ---- the types that a type is made of

abbrev pub kind_of_member : Member → ℕ
kind_of_member m = m.kind

abbrev pub parts_by : Types → ℕ → Option CType → List ℕ
parts_by types t (Some (Array of count)) = of ∷ []
parts_by types t (Some (Flexible of)) = of ∷ []
parts_by types t (Some (Struct tag)) = map kind_of_member (members types t)
parts_by types t (Some (Union tag)) = map kind_of_member (members types t)
parts_by types t (Some Void) = []
parts_by types t (Some (Num width signed)) = []
parts_by types t (Some (Pointer to)) = []
parts_by types t None = []

abbrev pub parts : Types → ℕ → List ℕ
parts types t = parts_by types t (kind_of types t)

-- ---- the rows of members

-- a row for so many values of a type, at the beginning of what has them inside
abbrev pub row_for : Types → ℕ → ℕ → ℕ → StoredRow
row_for types of bytes count =
    record {
      key = key_of (shape_of types of);
      reach = count * bytes;
      kind = of;
      lo = 0;
      count = count;
      size = bytes;
      levels = 0;
    }

abbrev pub member_by : Types → List StoredRow → ℕ → ℕ → Option StoredEntry → List StoredRow
member_by types rows kind at None = []
member_by types rows kind at (Some entry) = map (row_moved at) (row_for types kind entry.size 1 ∷ rows_at rows entry)

-- a row for a member, and the rows of its type, moved to its offset
abbrev pub member_rows : Types → List StoredEntry → List StoredRow → ℕ → ℕ → List StoredRow
member_rows types entries rows kind at = member_by types rows kind at (slice_get entries (kind - 1))

-- those of members but flexible ones
abbrev pub next_member : Types → List StoredEntry → List StoredRow → List StoredRow → Member → List StoredRow
next_member types entries rows own m =
    if is_open (shape_of types m.kind) then own else own ++ member_rows types entries rows m.kind m.offset

abbrev pub rows_of_members : Types → List StoredEntry → List StoredRow → List Member → List StoredRow
rows_of_members types entries rows = fold (next_member types entries rows) []

-- the flexible member of a struct: the type of its elements, or 0, and its offset
abbrev pub no_tail : StoredTail
no_tail = record { of = 0; at = 0 }

abbrev pub tail_by : Option CType → ℕ → StoredTail → StoredTail
tail_by (Some (Flexible of)) at tail = record { of = of; at = at }
tail_by (Some Void) at tail = tail
tail_by (Some (Num width signed)) at tail = tail
tail_by (Some (Pointer to)) at tail = tail
tail_by (Some (Array of count)) at tail = tail
tail_by (Some (Struct tag)) at tail = tail
tail_by (Some (Union tag)) at tail = tail
tail_by None at tail = tail

abbrev pub next_tail : Types → StoredTail → Member → StoredTail
next_tail types tail m = tail_by (kind_of types m.kind) m.offset tail

abbrev pub tail_of_members : Types → List Member → StoredTail
tail_of_members types = fold (next_tail types) no_tail

-- ---- types that have their rows

-- the rows of a type are there, and reach to its end at most
pub record IsReadyEntry (types : Types) (rows : List StoredRow) (kind : ℕ) (entry : StoredEntry) : Type 0 where
  pub sized : entry.size ≡ size (shape_of types kind)
  pub ordered : entry.start ≤ entry.end
  pub ended : entry.end ≤ length rows
  pub short : (row : StoredRow) → In row (rows_at rows entry) → (row.lo ≤ row.reach) × (row.reach ≤ entry.size)

pub record IsReady (types : Types) (entries : List StoredEntry) (rows : List StoredRow) (kind : ℕ) : Type 0 where
  pub known : IsNumber types kind
  pub within : kind ≤ length entries
  pub each : (entry : StoredEntry) → slice_get entries (kind - 1) ≡ Some entry → IsReadyEntry types rows kind entry

-- a member that is flexible, or whose type has its rows, and that ends within the largest object
abbrev pub IsReadyMember : Types → List StoredEntry → List StoredRow → Member → Type 0
IsReadyMember types entries rows m =
    is_open (shape_of types m.kind) ≡ false → IsReady types entries rows m.kind × (m.offset + size (shape_of types
    m.kind) ≤ 1048559)

pub record AreReadyMembers (types : Types) (entries : List StoredEntry) (rows : List StoredRow) (members : List
    Member) : Type 0 where
  pub numbers : (m : Member) → Contains members m → IsNumber types m.kind
  pub ready : (m : Member) → Contains members m → IsReadyMember types entries rows m

-- The table so far: the types of these numbers have their rows.
pub record IsSoFar (types : Types) (done : List ℕ) (entries : List StoredEntry) (rows : List StoredRow) (levels :
    List StoredLevel) : Type 0 where
  pub count : length entries ≡ length types.kinds
  pub entry : (t : ℕ) (entry : StoredEntry) → Contains done t → HasSize types t →
      slice_get entries (t - 1) ≡ Some entry → IsEntry types rows levels t entry
  pub none : (t : ℕ) (entry : StoredEntry) → IsNumber types t → is_complete (shape_of types t) ≡ false →
      slice_get entries (t - 1) ≡ Some entry → entry.size ≡ 0
  pub rows_ok : AreRows types levels rows
  pub levels_ok : AreLevels levels

-- ---- the rows of one more type

-- Rows that say what is inside a type, over levels of which some may be new.
pub record AreOwn (types : Types) (old new : List StoredLevel) (t : ℕ) (own : List StoredRow) : Type 0 where
  pub more : List StoredLevel
  pub longer : new ≡ old ++ more
  pub levels_ok : AreLevels new
  pub rows_ok : AreRows types new own
  pub all : (row : Row) → In row (rows_in (shape_of types t)) → In row (map (decoded types new) own)
  pub no_more : (row : Row) → In row (map (decoded types new) own) → In row (rows_in (shape_of types t))
  pub short : (row : StoredRow) → In row own → row.reach ≤ size (shape_of types t)

-- The flexible member of a type, with its elements' type, which has a size.
pub record IsTail (types : Types) (t : ℕ) (tail : StoredTail) : Type 0 where
  pub is : flexible_of (shape_of types t) ≡ (if tail.of == 0 then None else Some (tail.at, shape_of types tail.of))
  pub known : tail.of ≢ 0 → HasSize types tail.of
