-- What holds of each table, and of a table that has become another.
use Rattle.std.specs.Prelude.{◌≡◌, ◌⊎◌, ℕ, zero, suc, ◌+◌, ◌≤◌, ◌≢◌, Bool, true, false, List, [], ◌∷◌, ◌++◌, length, Option, Some, None, slice_get, IsTrue, IsFalse, Contains}
use Rattle.c_types.specs.declared.kinds.CType.{CType}
use Rattle.c_types.specs.declared.kinds.CType.TheVariants.{Void, Num, Pointer, Array, Flexible, Struct, Union}
use Rattle.c_types.specs.declared.kinds.Field.{Field}
use Rattle.c_types.specs.Shapes.{Shape, Members, is_complete, is_flexible, is_unknown, alignment, size, number_of}
use Rattle.c_types.specs.Shapes as s
use Rattle.c_types.specs.Table.{Types, Tag, basic_kinds, kind_of, fields_of, shape_of, IsNumber, HasTrees}
use Rattle.c_types.specs.Adding.{array_fault, open_fault, members_fault, tag_kind, largest}

-- ---- what a type is made of

abbrev pub IsWidth : ℕ → Type 0
IsWidth width = (width ≡ 1) ⊎ (width ≡ 2) ⊎ (width ≡ 4) ⊎ (width ≡ 8)

-- a tag of the table, which is complete as a whole or not at all
pub record IsTag (types : Types) (union_tag : Bool) (n tag : ℕ) : Type 0 where
  pub found : Tag
  pub here : slice_get types.tags tag ≡ Some found
  pub sort : found.union_tag ≡ union_tag
  pub complete : found.fields ≢ [] → members_fault (shape_of types) union_tag n found.fields ≡ None
  pub parts : (f : Field) → Contains found.fields f → IsNumber types f.kind

-- What the type of number n may be.
abbrev pub IsMade : Types → ℕ → CType → Type 0
IsMade types n Void = Unit {0}
IsMade types n (Num width signed) = IsWidth width
IsMade types n (Pointer to) = IsNumber types to
IsMade types n (Array of count) = IsNumber types of × (array_fault (shape_of types of) count ≡ None)
IsMade types n (Flexible of) = IsNumber types of × (open_fault (shape_of types of) ≡ None)
IsMade types n (Struct tag) = IsTag types false n tag
IsMade types n (Union tag) = IsTag types true n tag

-- ---- the order in which types are known

-- some fields, and all of them of types before
abbrev pub AreAfter : List ℕ → List Field → Type 0
AreAfter before fields = (fields ≢ []) × ((f : Field) → Contains fields f → Contains before f.kind)

-- Each type that this one needs is among those before it. A pointer needs none.
abbrev pub IsAfter : Types → List ℕ → CType → Type 0
IsAfter types before Void = Unit {0}
IsAfter types before (Num width signed) = Unit {0}
IsAfter types before (Pointer to) = Unit {0}
IsAfter types before (Array of count) = Contains before of
IsAfter types before (Flexible of) = Contains before of
IsAfter types before (Struct tag) = AreAfter before (fields_of types.tags tag)
IsAfter types before (Union tag) = AreAfter before (fields_of types.tags tag)

-- Numbers of types, each once and after those that it needs.
pub data IsOrdered (types : Types) : List ℕ → Type 0 where
  none : IsOrdered types []
  next : (before : List ℕ) (n : ℕ) (kind : CType) → IsOrdered types before → (Contains before n → ⊥) → kind_of types n ≡ Some kind →
      IsAfter types before kind → IsOrdered types (before ++ n ∷ [])

-- ---- trees of types with a size

-- a tree that its number has in the table
abbrev pub IsTreeOf : Types → Shape → Type 0
IsTreeOf types shape = IsNumber types (number_of shape) × (shape_of types (number_of shape) ≡ shape)

-- The tree of a type with a size: each of its parts has one, arrays have elements, and a flexible member is the last of a
-- struct that is no part of another type.
abbrev mutual
  pub IsWhole : Types → Shape → Type 0
  IsWhole types (s.Void n) = ⊥
  IsWhole types (s.Whole n width signed) = IsTreeOf types (s.Whole n width signed) × IsWidth width
  IsWhole types (s.Pointer n to) = IsTreeOf types (s.Pointer n to) × IsNumber types to
  IsWhole types (s.Array n of count) =
      IsTreeOf types (s.Array n of count) × IsWhole types of × IsFalse (is_flexible of) × (1 ≤ count)
  IsWhole types (s.Open n of) = ⊥
  IsWhole types (s.Struct n members) = IsTreeOf types (s.Struct n members) × AreWhole types members × HasMember members
  IsWhole types (s.Union n members) =
      IsTreeOf types (s.Union n members) × AreWhole types members × HasMember members × IsFalse (s.ends_open members)
  IsWhole types (s.Incomplete n) = ⊥

  pub AreWhole : Types → Members → Type 0
  AreWhole types s.None_left = Unit {0}
  AreWhole types (s.Member first rest) = IsWhole types first × IsFalse (is_flexible first) × AreWhole types rest
  AreWhole types (s.Flexible n of) = IsTreeOf types (s.Open n of) × IsWhole types of × IsFalse (is_flexible of)

  -- a member that is not flexible
  pub HasMember : Members → Type 0
  HasMember s.None_left = ⊥
  HasMember (s.Member first rest) = Unit {0}
  HasMember (s.Flexible n of) = ⊥

-- ---- what holds of each table

-- It begins with the nine types. Equal types have one number, and each tag has one. Each type is made of types of the
-- table, and so is its tree. All types but incomplete structs and unions are known in an order. An alignment is
-- from 1 to 8, and what has a size has from 1 to the largest object's bytes.
pub record IsTable (types : Types) : Type 0 where
  pub rest : List CType
  pub begins : types.kinds ≡ basic_kinds ++ rest
  pub one_number : (a b : ℕ) (kind : CType) → kind_of types a ≡ Some kind → kind_of types b ≡ Some kind → a ≡ b
  pub tags : (tag : ℕ) (found : Tag) → slice_get types.tags tag ≡ Some found →
      (n : ℕ) × (kind_of types n ≡ Some (tag_kind found.union_tag tag))
  pub made : (n : ℕ) (kind : CType) → kind_of types n ≡ Some kind → IsMade types n kind
  pub trees : HasTrees types
  pub order : List ℕ
  pub ordered : IsOrdered types order
  pub few : length order ≤ length types.kinds
  pub known : (n : ℕ) → IsNumber types n → IsFalse (is_unknown (shape_of types n)) → Contains order n
  pub whole : (n : ℕ) → IsTrue (is_complete (shape_of types n)) → IsWhole types (shape_of types n)
  pub steps : (n : ℕ) → (1 ≤ alignment (shape_of types n)) × (alignment (shape_of types n) ≤ 8)
  pub sized : (n : ℕ) → IsTrue (is_complete (shape_of types n)) → (1 ≤ size (shape_of types n)) × (size (shape_of types n) ≤ largest)

-- ---- later tables

-- a tag keeps its sort and its name, and its members once it has some
pub record IsLaterTag (old new : Tag) : Type 0 where
  pub sort : new.union_tag ≡ old.union_tag
  pub name : new.name ≡ old.name
  pub fields : old.fields ≢ [] → new.fields ≡ old.fields

-- A table that has become another: types and tags were added, and tags completed.
pub record IsLater (old new : Types) : Type 0 where
  pub more : List CType
  pub kinds : new.kinds ≡ old.kinds ++ more
  pub tags : (tag : ℕ) (found : Tag) → slice_get old.tags tag ≡ Some found →
      (later : Tag) × (slice_get new.tags tag ≡ Some later) × IsLaterTag found later
