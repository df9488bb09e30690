-- The rows that keep a table, which only private contracts cite.
use Rattle.std.specs.Prelude.{◌≡◌, ℕ, zero, suc, ◌+◌, ◌≤◌, ◌≢◌, Bool, true, false, List, [], ◌∷◌, ◌++◌, map, length, Option, Some, None, slice_get, if◌then◌else◌, IsTrue, Contains, ◌&&◌, not}
use Rattle.c_types.specs.declared.kinds.CType.{CType}
use Rattle.c_types.specs.declared.kinds.CType.TheVariants.{Void, Num, Pointer, Array, Flexible, Struct, Union}
use Rattle.c_types.specs.declared.kinds.Field.{Field}
use Rattle.c_types.specs.declared.kinds.Member.{Member}
use Rattle.c_types.specs.declared.rows.Form.{Form}
use Rattle.c_types.specs.declared.rows.Form.TheVariants as form
use Rattle.c_types.specs.declared.rows.TypeRow.{TypeRow}
use Rattle.c_types.specs.declared.table.TagRow.{TagRow}
use Rattle.c_types.specs.Shapes.{Shape, alignment, size, is_complete, is_flexible, is_open}
use Rattle.c_types.specs.declared.fields.Laid.{Laid}
use Rattle.c_types.specs.Table.{Types, Tag, basic_kinds, kind_of, fields_of, shape_of, members, members_of_fields, struct_members, union_members}
use Rattle.c_types.specs.Adding.{tag_kind, members_fault, whole_of, is_unsized, largest}
use Rattle.c_types.specs.Calls.{AreFields}
use Rattle.c_types.specs.Holds.{IsMade, IsOrdered}

-- ---- the row of a type

abbrev pub form_of : Shape → Form
form_of shape =
    if is_open shape then form.Open else (if is_flexible shape then form.Extended else (if is_complete shape then form.Sized else form.Unsized))

abbrev pub row_of : Shape → TypeRow
row_of shape = record { form = form_of shape; size = size shape; alignment = alignment shape }

-- the type has a row of this form
abbrev pub has_form : Form → Shape → Bool
has_form form.Unsized shape = is_unsized shape
has_form form.Open shape = is_open shape
has_form form.Sized shape = is_complete shape && not (is_flexible shape)
has_form form.Extended shape = is_flexible shape

abbrev pub has_size : Form → Bool
has_size form.Unsized = false
has_size form.Open = false
has_size form.Sized = true
has_size form.Extended = true

-- its numbers are those of a type of a table
abbrev pub IsSmall : TypeRow → Type 0
IsSmall row = (1 ≤ row.alignment) × (row.alignment ≤ 8) × (row.size ≤ largest)

-- ---- tags

abbrev pub field_of : Member → Field
field_of m = record { name = m.name; kind = m.kind }

abbrev pub tag_of_row : TagRow → Tag
tag_of_row row = record { union_tag = row.union_tag; name = row.name; fields = map field_of row.members }

abbrev pub types_of : List CType → List TagRow → Types
types_of kinds tags = record { kinds = kinds; tags = map tag_of_row tags }

-- no struct or union
abbrev pub IsPlain : CType → Type 0
IsPlain Void = Unit {0}
IsPlain (Num width signed) = Unit {0}
IsPlain (Pointer to) = Unit {0}
IsPlain (Array of count) = Unit {0}
IsPlain (Flexible of) = Unit {0}
IsPlain (Struct tag) = ⊥
IsPlain (Union tag) = ⊥

-- the type of this number is a struct or a union
abbrev pub IsSomeTag : Types → ℕ → Type 0
IsSomeTag types n = (sort : Bool) × (tag : ℕ) × (kind_of types n ≡ Some (tag_kind sort tag))

-- fields with their offsets
abbrev pub members_as : Bool → (ℕ → Shape) → List Field → List Member
members_as true shape fields = union_members fields
members_as false shape fields = struct_members shape 0 fields

-- members that may complete a tag, with the row that its type then has
pub record IsLaid (types : Types) (n : ℕ) (laid : Laid) : Type 0 where
  pub union_tag : Bool
  pub kind : kind_of types n ≡ Some (tag_kind union_tag laid.tag)
  pub unfilled : fields_of types.tags laid.tag ≡ []
  pub parts : AreFields types (map field_of laid.members)
  pub fits : members_fault (shape_of types) union_tag n (map field_of laid.members) ≡ None
  pub members : laid.members ≡ members_as union_tag (shape_of types) (map field_of laid.members)
  pub row : laid.row ≡ row_of (whole_of union_tag n (members_of_fields (shape_of types) (map field_of laid.members)))

-- ---- what is kept of the types alone

abbrev pub has_fields : List Field → Bool
has_fields [] = false
has_fields (f ∷ fields) = true

-- a type that is no incomplete struct or union
abbrev pub is_known : List Tag → CType → Bool
is_known tags Void = true
is_known tags (Num width signed) = true
is_known tags (Pointer to) = true
is_known tags (Array of count) = true
is_known tags (Flexible of) = true
is_known tags (Struct tag) = has_fields (fields_of tags tag)
is_known tags (Union tag) = has_fields (fields_of tags tag)

-- how many tags have no members
abbrev pub unknown_tags : List Tag → ℕ
unknown_tags [] = 0
unknown_tags (tag ∷ tags) = (if has_fields tag.fields then 0 else 1) + unknown_tags tags

pub record IsBase (types : Types) (order : List ℕ) : Type 0 where
  pub rest : List CType
  pub begins : types.kinds ≡ basic_kinds ++ rest
  pub one_number : (a b : ℕ) (kind : CType) → kind_of types a ≡ Some kind → kind_of types b ≡ Some kind → a ≡ b
  pub tags : (tag : ℕ) (found : Tag) → slice_get types.tags tag ≡ Some found →
      (n : ℕ) × (kind_of types n ≡ Some (tag_kind found.union_tag tag))
  pub made : (n : ℕ) (kind : CType) → kind_of types n ≡ Some kind → IsMade types n kind
  pub ordered : IsOrdered types order
  pub known : (n : ℕ) (kind : CType) → kind_of types n ≡ Some kind → IsTrue (is_known types.tags kind) → Contains order n
  pub count : length order + unknown_tags types.tags ≡ length types.kinds
  pub few_tags : length types.tags ≤ length types.kinds

-- ---- the rows of a table

pub record IsKept (kinds : List CType) (rows : List TypeRow) (tags : List TagRow) (order : List ℕ) : Type 0 where
  pub base : IsBase (types_of kinds tags) order
  pub rows_length : length rows ≡ length kinds
  pub rows_right : (place : ℕ) (row : TypeRow) → slice_get rows place ≡ Some row → row ≡ row_of (shape_of (types_of kinds tags) (suc place))
  pub members_right : (n tag : ℕ) (row : TagRow) → slice_get tags tag ≡ Some row →
      kind_of (types_of kinds tags) n ≡ Some (tag_kind row.union_tag tag) → row.members ≡ members (types_of kinds tags) n
