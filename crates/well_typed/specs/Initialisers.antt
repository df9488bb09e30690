-- Initialisers (C11 6.7.9) that are well typed: each store goes to a part of what is declared.
use Rattle.std.specs.Prelude.{◌≡◌, ◌⊎◌, ℕ, ◌<◌, ◌≤◌, List, length, Some, All, Contains}
use Rattle.c_tree.specs.declared.statements.Initial.{Initial}
use Rattle.c_tree.specs.declared.statements.Initial.TheVariants as initial
use Rattle.c_tree.specs.declared.values.Place.{Place, Place-F, out-Place}
use Rattle.c_tree.specs.declared.values.Value.{Value}
use Rattle.well_typed.specs.Surroundings.{PlaceLayer, at, Surroundings, IsVariable, IsScalar, IsAggregate, HasSize, IsArray, HasMember}
use Rattle.well_typed.specs.Expressions.{IsPlace, IsValue}

-- What a declaration declares: variables of these numbers, or the global of this number.
pub data Declared : Type 0 where
  Variables : List ℕ → Declared
  Global : ℕ → Declared

module _ (around : Surroundings) (declares : Declared) where
  mutual
    -- `IsPart q kind`: what is declared, or an element or a member of it, of this type.
    pub data IsPart : Place → ℕ → Type 0 where
      part : {q : Place} {kind : ℕ} → PartRule (out-Place q) kind → IsPart q kind

    pub data PartRule : PlaceLayer → ℕ → Type 0 where
      variable : {line kind n : ℕ} {own : List ℕ} → declares ≡ Variables own → Contains own n →
          IsVariable around n kind → PartRule (Place-F.Variable (at line kind) n) kind
      global : {line kind n : ℕ} → declares ≡ Global n → around.globals n ≡ Some kind →
          PartRule (Place-F.Global (at line kind) n) kind
      member : {line whole kind offset : ℕ} {q : Place} → IsPart q whole → HasMember around whole offset kind →
          PartRule (Place-F.Member (at line kind) q offset) kind
      element_of : {line array kind count n : ℕ} {q : Place} → IsPart q array → IsArray around array kind count →
          n < count → PartRule (Place-F.Element (at line kind) q n) kind

  -- A store.
  pub data IsInitial : Initial → Type 0 where
    -- a scalar (C11 6.7.9p11)
    scalar : {q : Place} {x : Value} {kind : ℕ} → IsPart q kind → IsScalar around kind → IsValue around x kind →
        IsInitial (initial.Value q x)
    -- a struct or a union from a place of its type (6.7.9p13)
    copied : {q from : Place} {kind : ℕ} → IsPart q kind → IsPlace around from kind → IsAggregate around kind →
        HasSize around kind → IsInitial (initial.Copy q from)
    -- a string literal in an array of characters that is at least as long (6.7.9p14)
    bytes : {q : Place} {array of count : ℕ} {text : List ℕ} → IsPart q array → IsArray around array of count →
        (of ≡ 2) ⊎ (of ≡ 3) → length text ≤ count → IsInitial (initial.Bytes q text)

  abbrev pub AreInitials : List Initial → Type 0
  AreInitials stores = All IsInitial stores
