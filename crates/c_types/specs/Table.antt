-- The table of types. A type's number is its place, counted from 1; a tag's number is its place among the tags, counted
-- from 0. Members name their types by numbers, so a struct may lead to itself through a pointer.
use Rattle.std.specs.Prelude.{◌≡◌, ℕ, zero, suc, ◌+◌, ◌≤◌, Bool, true, false, List, [], ◌∷◌, length, Option, Some, None, slice_get, IsTrue}
use Rattle.c_types.specs.declared.kinds.CType.{CType}
use Rattle.c_types.specs.declared.kinds.CType.TheVariants.{Void, Num, Pointer, Array, Flexible, Struct, Union}
use Rattle.c_types.specs.declared.kinds.Field.{Field}
use Rattle.c_types.specs.declared.kinds.Member.{Member}
use Rattle.c_types.specs.Shapes.{Shape, Members, is_complete, next_offset, size}
use Rattle.c_types.specs.Shapes as s

-- A tag: whether it is a union's, its name, which is empty where it has none, and its members, of which it has none before
-- it is complete (C11 6.7.2.1p8 wants one at least).
pub record Tag : Type 0 where
  pub union_tag : Bool
  pub name : List ℕ
  pub fields : List Field

pub record Types : Type 0 where
  pub kinds : List CType
  pub tags : List Tag

-- The first nine types, of which char is signed.
abbrev pub basic_kinds : List CType
basic_kinds =
    Void ∷ Num 1 true ∷ Num 1 false ∷ Num 2 true ∷ Num 2 false ∷ Num 4 true ∷ Num 4 false ∷ Num 8 true ∷ Num 8 false ∷ []

abbrev pub basic_types : Types
basic_types = record { kinds = basic_kinds; tags = [] }

-- A number of the table.
abbrev pub IsNumber : Types → ℕ → Type 0
IsNumber types n = (1 ≤ n) × (n ≤ length types.kinds)

-- the type of a number
abbrev pub kind_in : List CType → ℕ → Option CType
kind_in kinds zero = None
kind_in kinds (suc place) = slice_get kinds place

abbrev pub kind_of : Types → ℕ → Option CType
kind_of types n = kind_in types.kinds n

-- the members of a tag, none before it is complete
abbrev pub fields_by : Option Tag → List Field
fields_by None = []
fields_by (Some tag) = tag.fields

abbrev pub fields_of : List Tag → ℕ → List Field
fields_of tags tag = fields_by (slice_get tags tag)

-- ---- types as trees

-- an open array as the last member is a flexible one
abbrev pub members_from : Shape → Members → Members
members_from (s.Open n of) rest = s.Flexible n of
members_from (s.Void n) rest = s.Member (s.Void n) rest
members_from (s.Whole n width signed) rest = s.Member (s.Whole n width signed) rest
members_from (s.Pointer n to) rest = s.Member (s.Pointer n to) rest
members_from (s.Array n of count) rest = s.Member (s.Array n of count) rest
members_from (s.Struct n members) rest = s.Member (s.Struct n members) rest
members_from (s.Union n members) rest = s.Member (s.Union n members) rest
members_from (s.Incomplete n) rest = s.Member (s.Incomplete n) rest

abbrev pub members_of_fields : (ℕ → Shape) → List Field → Members
members_of_fields shape [] = s.None_left
members_of_fields shape (f ∷ fields) = members_from (shape f.kind) (members_of_fields shape fields)

-- a struct or a union by its members, and none where these are not known yet
abbrev pub tagged : (Members → Shape) → (ℕ → Shape) → ℕ → List Field → Shape
tagged whole shape n [] = s.Incomplete n
tagged whole shape n (f ∷ fields) = whole (members_of_fields shape (f ∷ fields))

-- A type as a tree, over the trees of the types that it is made of.
abbrev pub shape_of_kind : List Tag → (ℕ → Shape) → ℕ → Option CType → Shape
shape_of_kind tags shape n (Some Void) = s.Void n
shape_of_kind tags shape n (Some (Num width signed)) = s.Whole n width signed
shape_of_kind tags shape n (Some (Pointer to)) = s.Pointer n to
shape_of_kind tags shape n (Some (Array of count)) = s.Array n (shape of) count
shape_of_kind tags shape n (Some (Flexible of)) = s.Open n (shape of)
shape_of_kind tags shape n (Some (Struct tag)) = tagged (s.Struct n) shape n (fields_of tags tag)
shape_of_kind tags shape n (Some (Union tag)) = tagged (s.Union n) shape n (fields_of tags tag)
shape_of_kind tags shape n None = s.Incomplete n

-- types that nest at most so deep
abbrev pub shape_within : ℕ → Types → ℕ → Shape
shape_within zero types n = s.Incomplete n
shape_within (suc depth) types n = shape_of_kind types.tags (shape_within depth types) n (kind_of types n)

-- The type of a number as a tree. What a type is made of is known before it, so no type nests deeper than there are types.
unfoldable pub shape_of : Types → ℕ → Shape
shape_of types n = shape_within (suc (length types.kinds)) types n

-- The tree of a number is made of the trees of its parts: what those who walk over types use, in place of the depth above.
abbrev pub HasTrees : Types → Type 0
HasTrees types = (n : ℕ) → shape_of types n ≡ shape_of_kind types.tags (shape_of types) n (kind_of types n)

-- A number whose type has a size.
abbrev pub HasSize : Types → ℕ → Type 0
HasSize types n = IsNumber types n × IsTrue (is_complete (shape_of types n))

-- ---- members with their offsets

-- those of a struct, the members before them reaching to an end
abbrev pub struct_members : (ℕ → Shape) → ℕ → List Field → List Member
struct_members shape end [] = []
struct_members shape end (f ∷ fields) =
    record { name = f.name; kind = f.kind; offset = next_offset (shape f.kind) end } ∷
    struct_members shape (next_offset (shape f.kind) end + size (shape f.kind)) fields

-- those of a union all stand at 0
abbrev pub union_members : List Field → List Member
union_members [] = []
union_members (f ∷ fields) = record { name = f.name; kind = f.kind; offset = 0 } ∷ union_members fields

abbrev pub members_by : List Tag → (ℕ → Shape) → Option CType → List Member
members_by tags shape (Some (Struct tag)) = struct_members shape 0 (fields_of tags tag)
members_by tags shape (Some (Union tag)) = union_members (fields_of tags tag)
members_by tags shape (Some Void) = []
members_by tags shape (Some (Num width signed)) = []
members_by tags shape (Some (Pointer to)) = []
members_by tags shape (Some (Array of count)) = []
members_by tags shape (Some (Flexible of)) = []
members_by tags shape None = []

-- the members of a type in order, none where it is no complete struct or union
unfoldable pub members : Types → ℕ → List Member
members types n = members_by types.tags (shape_of types) (kind_of types n)
