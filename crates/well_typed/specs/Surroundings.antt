-- What the expressions of a typed tree may name, and the types that their rules want.
use Rattle.std.specs.Prelude.{◌≡◌, ◌⊎◌, ℕ, Bool, true, false, List, Option, Some, slice_get, IsTrue, Contains}
use Rattle.c_types.specs.declared.kinds.CType.TheVariants.{Array, Flexible}
use Rattle.c_types.specs.declared.kinds.Member.{Member}
use Rattle.c_types.specs.Table.{Types, kind_of, members}
use Rattle.c_print.specs.declared.parts.Part.{Part}
use Rattle.c_print.specs.declared.parts.Part.TheVariants as part
use Rattle.c_print.specs.Formats.{Parts}
use Rattle.c_tree.specs.declared.operators.Operator.{Operator}
use Rattle.c_tree.specs.declared.operators.Operator.TheVariants as operator
use Rattle.c_tree.specs.declared.operators.Comparison.{Comparison}
use Rattle.c_tree.specs.declared.operators.Comparison.TheVariants as comparison
use Rattle.c_tree.specs.declared.operators.Written.{Written}
use Rattle.c_tree.specs.declared.operators.Written.TheVariants as written
use Rattle.c_tree.specs.declared.program.Variable.{Variable}
use Rattle.c_tree.specs.declared.values.At.{At}
use Rattle.c_tree.specs.declared.values.Place.{Place, Place-F}
use Rattle.c_tree.specs.declared.values.Value.{Value, Value-F}
use Rattle.well_typed.specs.declared.signatures.Signature.{Signature}
use Rattle.well_typed.specs.Kinds.{is_whole, promoted, target, sized_target, is_aggregate, is_scalar, has_size}

-- ---- one layer of a tree

abbrev pub PlaceLayer : Type 0
PlaceLayer = Place-F Place Value

abbrev pub ValueLayer : Type 0
ValueLayer = Value-F Place Value

abbrev pub at : ℕ → ℕ → At
at line kind = record { kind = kind; line = line }

-- ---- what may be named

-- The types of the program, those of its functions, the variables of the function, the numbers of those in scope (C11
-- 6.2.1p4), the type of a global by its number, and the types of the string literals. Outside functions there are no
-- variables.
pub record Surroundings : Type 0 where
  pub types : Types
  pub functions : List Signature
  pub variables : List Variable
  pub scope : List ℕ
  pub globals : ℕ → Option ℕ
  pub literals : List ℕ

-- The type that an expression has for an object of a declared type: that type, or that of an array without a size where
-- another declaration or the initialiser gives one (C11 6.2.7p3, 6.7.6.2p4, 6.7.9p22).
pub data IsSeenAs (types : Types) : ℕ → ℕ → Type 0 where
  as_declared : {declared : ℕ} → IsSeenAs types declared declared
  without_size : {declared seen of count : ℕ} → kind_of types declared ≡ Some (Array of count) →
      kind_of types seen ≡ Some (Flexible of) → IsSeenAs types declared seen

-- ---- operators

abbrev pub is_shift : Operator → Bool
is_shift operator.ShiftLeft = true
is_shift operator.ShiftRight = true
is_shift _ = false

abbrev pub is_equality : Comparison → Bool
is_equality comparison.Equal = true
is_equality comparison.NotEqual = true
is_equality _ = false

-- ---- whole numbers and formats

-- C11 6.2.5p17
abbrev pub IsWhole : ℕ → Type 0
IsWhole kind = IsTrue (is_whole kind)

-- C11 6.3.1.1p2: the promotions leave it
abbrev pub IsPromoted : ℕ → Type 0
IsPromoted kind = IsWhole kind × (promoted kind ≡ kind)

-- the parts of some format
abbrev pub IsFormat : List Part → Type 0
IsFormat parts = (format : List ℕ) × Parts format parts

module _ (around : Surroundings) where
  -- ---- names

  -- a variable of the function that is in scope, of this declared type
  pub record IsVariable (number declared : ℕ) : Type 0 where
    pub found : Variable
    pub here : slice_get around.variables number ≡ Some found
    pub kind : found.kind ≡ declared
    pub in_scope : Contains around.scope number

  -- Its address is taken somewhere, so it is no register.
  pub record IsAddressed (number : ℕ) : Type 0 where
    pub found : Variable
    pub here : slice_get around.variables number ≡ Some found
    pub addressed : IsTrue found.addressed

  -- What `&` may stand before: a place that is no variable, or such a variable (C11 6.5.3.2p1).
  abbrev pub IsObject : PlaceLayer → Type 0
  IsObject (Place-F.Variable a number) = IsAddressed number
  IsObject _ = Unit {0}

  -- ---- types

  -- C11 6.2.5p21
  abbrev pub IsScalar : ℕ → Type 0
  IsScalar kind = IsTrue (is_scalar around.types kind)

  -- a struct or a union
  abbrev pub IsAggregate : ℕ → Type 0
  IsAggregate kind = IsTrue (is_aggregate around.types kind)

  abbrev pub HasSize : ℕ → Type 0
  HasSize kind = IsTrue (has_size around.types kind)

  -- C11 6.2.5p20
  abbrev pub PointsTo : ℕ → ℕ → Type 0
  PointsTo kind to = target around.types kind ≡ Some to

  -- a pointer to a type with a size (C11 6.5.6p2)
  abbrev pub PointsToSized : ℕ → ℕ → Type 0
  PointsToSized kind to = sized_target around.types kind ≡ Some to

  abbrev pub IsPointer : ℕ → Type 0
  IsPointer kind = (to : ℕ) × PointsTo kind to

  abbrev pub IsSizedPointer : ℕ → Type 0
  IsSizedPointer kind = (to : ℕ) × PointsToSized kind to

  -- `void *`
  abbrev pub IsVoidPointer : ℕ → Type 0
  IsVoidPointer kind = PointsTo kind 1

  abbrev pub IsCharacterPointer : ℕ → Type 0
  IsCharacterPointer kind = PointsTo kind 2 ⊎ PointsTo kind 3

  -- an array of so many elements of a type
  abbrev pub IsArray : ℕ → ℕ → ℕ → Type 0
  IsArray kind of count = kind_of around.types kind ≡ Some (Array of count)

  -- a struct or a union has a member of this type at this offset (C11 6.7.2.1)
  pub record HasMember (kind offset of : ℕ) : Type 0 where
    pub found : Member
    pub here : Contains (members around.types kind) found
    pub at_offset : found.offset ≡ offset
    pub kind_is : found.kind ≡ of

  -- ---- conversions and calls

  -- which pointers become those to another target: all by a cast, and without one those to void (C11 6.5.4p3,
  -- 6.5.16.1p1)
  abbrev pub MayBeChecked : Written → ℕ → Type 0
  MayBeChecked written.Cast kind = IsPointer kind
  MayBeChecked written.Implicit kind = IsVoidPointer kind

  -- What an allocation gives, and its elements: a pointer to them where the call is converted at once, and else a
  -- pointer to void, and characters.
  abbrev pub Allocates : ℕ → ℕ → Type 0
  Allocates kind element = PointsToSized kind element ⊎ (IsVoidPointer kind × (element ≡ 2))

  -- which argument a part of a format takes: a promoted number of 32 or of 64 bits, or a text (C11 7.21.6.1p8)
  abbrev pub Takes : Part → ℕ → Type 0
  Takes (part.Plain text) kind = ⊥
  Takes (part.Number letter flag width true) kind = (kind ≡ 8) ⊎ (kind ≡ 9)
  Takes (part.Number letter flag width false) kind = (kind ≡ 6) ⊎ (kind ≡ 7)
  Takes (part.Str flag width) kind = IsCharacterPointer kind
