-- What is said of a value, said of a box that holds it.
use Rattle.std.specs.Prelude.{Box}

abbrev pub boxed : {V Z B : Type 0} → (V → B) → Box V Z → B
boxed f b = f b.value

-- the same of a fact
abbrev pub Boxed : {V Z : Type 0} → (V → Type 0) → Box V Z → Type 0
Boxed P b = P b.value
