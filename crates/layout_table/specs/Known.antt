-- The types that a table keeps.
use Rattle.std.specs.Prelude.{◌+◌, max, slice_set, ◌≡◌, ◌<◌, ◌≤◌, ◌^◌, length, slice_index, slice_get, ℕ, Bool, true, false, List, map, Option, Some, None, ◌==◌, ◌||◌, if◌then◌else◌}
use Rattle.c_types.specs.declared.kinds.CType.{CType}
use Rattle.c_types.specs.declared.kinds.CType.TheVariants.{Void, Num, Pointer, Array, Flexible, Struct, Union}
use Rattle.c_types.specs.declared.kinds.Field.{Field}
use Rattle.c_types.specs.declared.kinds.Member.{Member}
use Rattle.c_types.specs.Table.{Types, Tag, IsNumber, kind_of}
use Rattle.c_types.specs.Adding.{tag_kind}
use Rattle.layout_table.specs.declared.known.KnownTag.{KnownTag}

abbrev pub tag_of : KnownTag → Tag
tag_of tag = record { union_tag = tag.union_tag; name = tag.name; fields = tag.fields.items }

abbrev pub known : List CType → List KnownTag → Types
known kinds tags = record { kinds = kinds; tags = map tag_of tags }

-- the tier in which two types match that are not the same: void has the number 1
abbrev pub tier_of_kinds : CType → CType → Option ℕ
tier_of_kinds (Num a s) (Num b t) = if a == b then Some 1 else None
tier_of_kinds (Pointer a) (Pointer b) = if (a == 1) || (b == 1) then Some 2 else None
tier_of_kinds kind want = None

-- the key of a type of a number
abbrev pub key_of_kind : CType → ℕ → ℕ
key_of_kind Void t = t
key_of_kind (Num width signed) t = width
key_of_kind (Pointer to) t = 9
key_of_kind (Array of count) t = t
key_of_kind (Flexible of) t = t
key_of_kind (Struct tag) t = t
key_of_kind (Union tag) t = t

-- an array that is open at its end
abbrev pub is_open_kind : CType → Bool
is_open_kind Void = false
is_open_kind (Num width signed) = false
is_open_kind (Pointer to) = false
is_open_kind (Array of count) = false
is_open_kind (Flexible of) = true
is_open_kind (Struct tag) = false
is_open_kind (Union tag) = false

-- the tag of a type, if it is a struct or a union
abbrev pub tag_of_kind : CType → Option ℕ
tag_of_kind Void = None
tag_of_kind (Num width signed) = None
tag_of_kind (Pointer to) = None
tag_of_kind (Array of count) = None
tag_of_kind (Flexible of) = None
tag_of_kind (Struct tag) = Some tag
tag_of_kind (Union tag) = Some tag

-- more tags than the last that was seen
abbrev pub count_by : ℕ → Option ℕ → ℕ
count_by count None = count
count_by count (Some tag) = max count (tag + 1)

-- the number of the type of a tag is kept
abbrev pub put_by : List ℕ → Option ℕ → ℕ → List ℕ
put_by numbers None t = numbers
put_by numbers (Some tag) t = slice_set numbers tag t

abbrev pub is_union : CType → Bool
is_union Void = false
is_union (Num width signed) = false
is_union (Pointer to) = false
is_union (Array of count) = false
is_union (Flexible of) = false
is_union (Struct tag) = false
is_union (Union tag) = true

-- a member as it was declared
abbrev pub field_of : Member → Field
field_of m = record { name = m.name; kind = m.kind }

-- the type of a tag has this number
pub record IsNumberOfTag (types : Types) (tag t : ℕ) : Type 0 where
  pub found : Tag
  pub here : slice_get types.tags tag ≡ Some found
  pub kind : kind_of types t ≡ Some (tag_kind found.union_tag tag)
  pub known : IsNumber types t
  pub within : tag < length types.tags

-- the numbers of the types of all tags
pub record AreNumbersOfTags (types : Types) (numbers : List ℕ) : Type 0 where
  pub count : length numbers ≡ length types.tags
  pub few : length types.tags ≤ 2 ^ 32
  pub each : (tag : ℕ) → tag < length types.tags → IsNumberOfTag types tag (slice_index numbers tag)
