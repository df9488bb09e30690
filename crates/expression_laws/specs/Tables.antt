-- What the rules of expressions need of a table of types.
use Rattle.std.specs.Prelude.{◌≡◌, ℕ, Some}
use Rattle.c_types.specs.Table.{Types}
use Rattle.well_typed.specs.Kinds.{target}

-- `void *` has one number
abbrev pub HasOneVoidPointer : Types → Type 0
HasOneVoidPointer types = (a b : ℕ) → target types a ≡ Some 1 → target types b ≡ Some 1 → a ≡ b
