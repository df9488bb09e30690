-- Functions by their names.
use Rattle.std.specs.Prelude.{◌≡◌, ℕ, ◌<◌, List, Some, slice_get}
use Rattle.plain_meaning.specs.declared.tree.Function.{Function}
use Rattle.plain_meaning.specs.declared.tree.Program.{Program}

-- The function of this number has this name.
pub record HasName (program : Program) (number : ℕ) (name : List ℕ) : Type 0 where
  pub function : Function
  pub found : slice_get program.functions number ≡ Some function
  pub named : function.name ≡ name

-- It is the first function of this name.
pub record IsEntry (program : Program) (name : List ℕ) (number : ℕ) : Type 0 where
  pub named : HasName program number name
  pub first : (other : ℕ) → other < number → HasName program other name → ⊥

-- No function has this name.
abbrev pub HasNone : Program → List ℕ → Type 0
HasNone program name = (number : ℕ) → HasName program number name → ⊥
