-- How types are added to a table and tags completed, and when this is refused.
use Rattle.std.specs.Prelude.{◌≡◌, ℕ, suc, ◌+◌, ◌*◌, ◌==◌, nat_lt, Bool, true, false, not, ◌&&◌, ◌||◌, List, [], ◌∷◌, ◌++◌, length, Option, Some, None, Result, Ok, Err, slice_get, slice_set, position, if◌then◌else◌}
use Rattle.std.specs.Str.{bytes_eq}
use Rattle.c_types.specs.declared.kinds.CType.{CType}
use Rattle.c_types.specs.declared.kinds.CType.TheVariants.{Void, Num, Pointer, Array, Flexible, Struct, Union}
use Rattle.c_types.specs.declared.kinds.Field.{Field}
use Rattle.c_types.specs.declared.kinds.TypeError.{TypeError}
use Rattle.c_types.specs.declared.kinds.TypeError.TheVariants as e
use Rattle.c_types.specs.Shapes.{Shape, Members, is_complete, is_flexible, is_open, size}
use Rattle.c_types.specs.Shapes as s
use Rattle.c_types.specs.Table.{Types, Tag, kind_of, fields_of, shape_of, members_of_fields}

-- the bytes of the largest object
abbrev pub largest : ℕ
largest = 1048559

-- ---- equal types have one number

abbrev pub is_as : Bool → Bool → Bool
is_as true b = b
is_as false b = not b

abbrev pub is_same : CType → CType → Bool
is_same Void Void = true
is_same (Num w s) (Num v t) = (w == v) && is_as s t
is_same (Pointer a) (Pointer b) = a == b
is_same (Array a m) (Array b n) = (a == b) && (m == n)
is_same (Flexible a) (Flexible b) = a == b
is_same (Struct a) (Struct b) = a == b
is_same (Union a) (Union b) = a == b
is_same _ _ = false

abbrev pub added_by : Option ℕ → CType → Types → ℕ × Types
added_by (Some place) kind types = (suc place, types)
added_by None kind types = (suc (length types.kinds), record types { kinds = types.kinds ++ kind ∷ [] })

-- A type has the number of the one that equals it, and else the next: its number, and the table with it.
unfoldable pub added : CType → Types → ℕ × Types
added kind types = added_by (position (is_same kind) types.kinds) kind types

-- A tag is a type of its own, which equals no other.
abbrev pub tag_kind : Bool → ℕ → CType
tag_kind true tag = Union tag
tag_kind false tag = Struct tag

unfoldable pub added_tag : Bool → List ℕ → Types → ℕ × Types
added_tag union_tag name types = (
  suc (length types.kinds),
  record {
    kinds = types.kinds ++ tag_kind union_tag (length types.tags) ∷ [];
    tags = types.tags ++ record { union_tag = union_tag; name = name; fields = [] } ∷ [];
  },
)

-- ---- what is refused: the first test that holds

abbrev pub first_of : List (Bool × TypeError) → Option TypeError
first_of [] = None
first_of ((true, why) ∷ rest) = Some why
first_of ((false, why) ∷ rest) = first_of rest

-- an array of so many elements
abbrev pub array_fault : Shape → ℕ → Option TypeError
array_fault of count = first_of
    ((count == 0, e.Empty) ∷ (is_flexible of, e.BadFlexible) ∷ (not (is_complete of), e.Incomplete) ∷
    (nat_lt largest (count * size of), e.TooLarge) ∷ [])

-- an array that is open at its end
abbrev pub open_fault : Shape → Option TypeError
open_fault of = first_of ((is_flexible of, e.BadFlexible) ∷ (not (is_complete of), e.Incomplete) ∷ [])

abbrev pub is_named : List ℕ → List Field → Bool
is_named name [] = false
is_named name (f ∷ fields) = bytes_eq f.name name || is_named name fields

abbrev pub has_two_of_a_name : List Field → Bool
has_two_of_a_name [] = false
has_two_of_a_name (f ∷ fields) = is_named f.name fields || has_two_of_a_name fields

abbrev pub any : {A : Type 0} → (A → Bool) → List A → Bool
any test [] = false
any test (x ∷ xs) = test x || any test xs

-- all but the last
abbrev pub before_last : {A : Type 0} → List A → List A
before_last [] = []
before_last (x ∷ []) = []
before_last (x ∷ y ∷ rest) = x ∷ before_last (y ∷ rest)

-- no field, or a flexible member alone
abbrev pub is_empty : List Shape → Bool
is_empty [] = true
is_empty (one ∷ []) = is_open one
is_empty (one ∷ two ∷ rest) = false

-- a flexible member that is not the last of a struct
abbrev pub misplaced : Bool → List Shape → Bool
misplaced true shapes = any is_open shapes
misplaced false shapes = any is_open (before_last shapes)

abbrev pub shapes : (ℕ → Shape) → List Field → List Shape
shapes shape [] = []
shapes shape (f ∷ fields) = shape f.kind ∷ shapes shape fields

-- a field without a size that is no flexible member
abbrev pub is_unsized : Shape → Bool
is_unsized shape = not (is_complete shape || is_open shape)

abbrev pub whole_of : Bool → ℕ → Members → Shape
whole_of true n members = s.Union n members
whole_of false n members = s.Struct n members

-- The members of a struct or a union, the type of number n: the tests in their order.
abbrev pub members_fault : (ℕ → Shape) → Bool → ℕ → List Field → Option TypeError
members_fault shape union_tag n fields = first_of
    ((has_two_of_a_name fields, e.Duplicate) ∷
    (is_empty (shapes shape fields), e.Empty) ∷
    (misplaced union_tag (shapes shape fields) || any is_flexible (shapes shape fields), e.BadFlexible) ∷
    (any is_unsized (shapes shape fields), e.Incomplete) ∷
    (nat_lt largest (size (whole_of union_tag n (members_of_fields shape fields))), e.TooLarge) ∷ [])

-- A tag that is complete is completed no second time.
abbrev pub fault_beside : List Field → Option TypeError → Option TypeError
fault_beside [] fault = fault
fault_beside (f ∷ fields) fault = Some e.Duplicate

-- ---- the calls

abbrev pub unless : {A : Type 0} → Option TypeError → A → Result A TypeError
unless (Some why) x = Err why
unless None x = Ok x

unfoldable pub with_array : Types → ℕ → ℕ → Result (ℕ × Types) TypeError
with_array types of count = unless (array_fault (shape_of types of) count) (added (Array of count) types)

unfoldable pub with_open_array : Types → ℕ → Result (ℕ × Types) TypeError
with_open_array types of = unless (open_fault (shape_of types of)) (added (Flexible of) types)

-- the tag of a struct or a union
abbrev pub tag_by : Option CType → ℕ
tag_by (Some (Struct tag)) = tag
tag_by (Some (Union tag)) = tag
tag_by (Some Void) = 0
tag_by (Some (Num width signed)) = 0
tag_by (Some (Pointer to)) = 0
tag_by (Some (Array of count)) = 0
tag_by (Some (Flexible of)) = 0
tag_by None = 0

abbrev pub tag_of : Types → ℕ → ℕ
tag_of types n = tag_by (kind_of types n)

abbrev pub with_fields : List Field → Option Tag → List Tag → ℕ → List Tag
with_fields fields None tags at = tags
with_fields fields (Some tag) tags at = slice_set tags at (record tag { fields = fields })

abbrev pub completed_tags : List Tag → ℕ → List Field → List Tag
completed_tags tags tag fields = with_fields fields (slice_get tags tag) tags tag

-- The struct or the union of number n is completed.
unfoldable pub completed : Types → Bool → ℕ → List Field → Result Types TypeError
completed types union_tag n fields =
    unless (fault_beside (fields_of types.tags (tag_of types n)) (members_fault (shape_of types) union_tag n fields))
    (record types { tags = completed_tags types.tags (tag_of types n) fields })
