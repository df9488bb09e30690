-- When more may be named: types are added and completed, functions, variables, globals and literals come, and an array
-- without a size gets one.
use Rattle.std.specs.Prelude.{◌≡◌, ℕ, List, Some, slice_get, Contains, IsTrue}
use Rattle.c_types.specs.declared.kinds.CType.{CType}
use Rattle.c_types.specs.declared.kinds.Member.{Member}
use Rattle.c_types.specs.Table.{Types, kind_of, members}
use Rattle.c_tree.specs.declared.program.Variable.{Variable}
use Rattle.c_tree.specs.declared.statements.Block.{Block}
use Rattle.c_tree.specs.declared.statements.Initial.{Initial}
use Rattle.c_tree.specs.declared.statements.Statement.{Statement}
use Rattle.c_tree.specs.declared.values.Place.{Place}
use Rattle.c_tree.specs.declared.values.Value.{Value}
use Rattle.well_typed.specs.Kinds.{is_scalar, is_aggregate, has_size, target, sized_target, element}
use Rattle.well_typed.specs.Surroundings.{Surroundings, IsSeenAs}
use Rattle.well_typed.specs.declared.signatures.Signature.{Signature}
use Rattle.well_typed.specs.Expressions.{IsPlace, IsValue}
use Rattle.well_typed.specs.Initialisers.{Declared, Variables, Global, AreInitials}
use Rattle.well_typed.specs.Statements.{Position, IsStatement, IsBlock}

-- the types of one table have in another what they have in the first
pub record TypesGrow (old new : Types) : Type 0 where
  pub kinds : (n : ℕ) (kind : CType) → kind_of old n ≡ Some kind → kind_of new n ≡ Some kind
  pub scalars : (n : ℕ) → IsTrue (is_scalar old n) → IsTrue (is_scalar new n)
  pub aggregates : (n : ℕ) → IsTrue (is_aggregate old n) → IsTrue (is_aggregate new n)
  pub sizes : (n : ℕ) → IsTrue (has_size old n) → IsTrue (has_size new n)
  pub targets : (n to : ℕ) → target old n ≡ Some to → target new n ≡ Some to
  pub sized_targets : (n to : ℕ) → sized_target old n ≡ Some to → sized_target new n ≡ Some to
  pub elements : (n of : ℕ) → element old n ≡ Some of → element new n ≡ Some of
  pub all_members : (n : ℕ) (m : Member) → Contains (members old n) m → Contains (members new n) m

-- Declared types may change where what an expression has for them stays.
pub record Grows (old new : Surroundings) : Type 0 where
  pub types : TypesGrow old.types new.types
  pub functions : (n : ℕ) (f : Signature) → slice_get old.functions n ≡ Some f → slice_get new.functions n ≡ Some f
  pub variables : (n : ℕ) (x : Variable) (kind : ℕ) → slice_get old.variables n ≡ Some x →
      IsSeenAs old.types x.kind kind →
      (later : Variable) × (slice_get new.variables n ≡ Some later) × IsSeenAs new.types later.kind kind
  pub addressed : (n : ℕ) (x : Variable) → slice_get old.variables n ≡ Some x → IsTrue x.addressed →
      (later : Variable) × (slice_get new.variables n ≡ Some later) × IsTrue later.addressed
  pub scope : (n : ℕ) → Contains old.scope n → Contains new.scope n
  pub globals : (n declared kind : ℕ) → old.globals n ≡ Some declared → IsSeenAs old.types declared kind →
      (later : ℕ) × (new.globals n ≡ Some later) × IsSeenAs new.types later kind
  pub literals : (n kind : ℕ) → slice_get old.literals n ≡ Some kind → slice_get new.literals n ≡ Some kind

-- where variables and globals keep their declared types
pub record Extends (old new : Surroundings) : Type 0 where
  pub grows : Grows old new
  pub variables : (n : ℕ) (x : Variable) → slice_get old.variables n ≡ Some x →
      (later : Variable) × (slice_get new.variables n ≡ Some later) × (later.kind ≡ x.kind)
  pub globals : (n kind : ℕ) → old.globals n ≡ Some kind → new.globals n ≡ Some kind

pub record DeclaresMore (old new : Declared) : Type 0 where
  pub variables : (own : List ℕ) → old ≡ Variables own →
      (later : List ℕ) × (new ≡ Variables later) × ((n : ℕ) → Contains own n → Contains later n)
  pub global : (n : ℕ) → old ≡ Global n → new ≡ Global n

-- statements stand alike
pub record PositionGrows (old new : Position) : Type 0 where
  pub around : Extends old.around new.around
  pub result : new.result ≡ old.result
  pub own : (n : ℕ) → Contains old.own n → Contains new.own n
  pub may_break : IsTrue old.may_break → IsTrue new.may_break
  pub may_continue : IsTrue old.may_continue → IsTrue new.may_continue
  pub switch_type : new.switch_type ≡ old.switch_type

-- ---- what is well typed stays so

abbrev pub KeepsPlaces : Surroundings → Surroundings → Type 0
KeepsPlaces old new = (q : Place) (kind : ℕ) → IsPlace old q kind → IsPlace new q kind

abbrev pub KeepsValues : Surroundings → Surroundings → Type 0
KeepsValues old new = (x : Value) (kind : ℕ) → IsValue old x kind → IsValue new x kind

abbrev pub KeepsInitials : Surroundings → Surroundings → Type 0
KeepsInitials old new = (before after : Declared) (stores : List Initial) → DeclaresMore before after →
    AreInitials old before stores → AreInitials new after stores

abbrev pub KeepsStatements : Position → Position → Type 0
KeepsStatements old new = (s : Statement) → IsStatement old s → IsStatement new s

abbrev pub KeepsBlocks : Position → Position → Type 0
KeepsBlocks old new = (b : Block) → IsBlock old b → IsBlock new b
