-- The parts so far, and the plain bytes after them that are no part yet.
use Rattle.std.specs.Prelude.{◌≡◌, ℕ, List, [], ◌∷◌, ◌++◌, Option, Some, None, Err}
use Rattle.c_print.specs.declared.built.Built.{Built}
use Rattle.c_print.specs.declared.error.FormatError.{FormatError}
use Rattle.c_print.specs.declared.error.FormatError.TheVariants.{Memory, BadFormat}
use Rattle.c_print.specs.declared.machine.Effect.{Effect}
use Rattle.c_print.specs.declared.machine.Effect.TheVariants as effect
use Rattle.c_print.specs.declared.machine.State.{State}
use Rattle.c_print.specs.declared.machine.State.TheVariants as state
use Rattle.c_print.specs.declared.parts.Part.{Part}
use Rattle.c_print.specs.declared.parts.Part.TheVariants.{Plain, Number, Str}
use Rattle.c_print.specs.Machine.{reading}

-- plain bytes as a part, if there are any
abbrev pub part_of : List ℕ → List Part
part_of [] = []
part_of (byte ∷ bytes) = Plain (byte ∷ bytes) ∷ []

-- nothing was added
abbrev pub IsSame : Built → Built → Type 0
IsSame old new = (new.parts.items ≡ old.parts.items) × (new.plain ≡ old.plain)

-- a part was added, after the plain bytes
abbrev pub Gains : Built → Built → Part → Type 0
Gains old new part = (new.parts.items ≡ old.parts.items ++ (part_of old.plain ++ part ∷ [])) × (new.plain ≡ [])

-- what an effect adds, and the next state
abbrev pub Advances : Built → Built → Effect → Option State → Type 0
Advances old new effect.Wrong next = next ≡ None
Advances old new (effect.Goes s) next = (next ≡ Some s) × IsSame old new
Advances old new (effect.Plain byte) next =
    (next ≡ Some state.Outside) × (new.parts.items ≡ old.parts.items) × (new.plain ≡ old.plain ++ byte ∷ [])
Advances old new (effect.Number letter f width long) next =
    (next ≡ Some state.Outside) × Gains old new (Number letter f width long)
Advances old new (effect.Str f width) next =
    (next ≡ Some state.Outside) × Gains old new (Str f width)

-- the format was read up to a byte that is wrong
abbrev pub IsReadError : List ℕ → FormatError → Type 0
IsReadError format (Memory _) = Unit {0}
IsReadError format (BadFormat at) = reading state.Outside format ≡ Err at
