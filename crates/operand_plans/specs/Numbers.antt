-- Numbers that are known, and the types that they are of.
use Rattle.std.specs.Prelude.{◌≡◌, ℕ, ℤ, IfOk, Result}
use Rattle.static_rules.specs.declared.judged.Known.{Known}
use Rattle.static_rules.specs.declared.judged.Known.TheVariants as known
use Rattle.static_rules.specs.Constants.{known_outcome}
use Rattle.well_typed.specs.Kinds.{whole_type}
use Rattle.whole_numbers.specs.declared.trap.Trap.{Trap}
use Rattle.whole_numbers.specs.declared.types.WholeType.{WholeType}
use Rattle.whole_numbers.specs.Operators.{in_bits}
use Rattle.whole_numbers.specs.Types.{IsNumberOf}

-- What is known is no number, or one of the type.
abbrev pub IsOf : ℕ → Known → Type 0
IsOf kind (known.Number n) = IsNumberOf (whole_type kind) n
IsOf kind known.Traps = Unit {0}
IsOf kind known.Nothing = Unit {0}
IsOf kind known.NullPointer = Unit {0}

-- What is known by the bits of an answer, whatever number of the type they are those of.
abbrev pub Tells : WholeType → Result ℕ Trap → Known → Type 0
Tells kind answer known =
    (told : Result ℤ Trap) → answer ≡ in_bits told → IfOk told (IsNumberOf kind) → known ≡ known_outcome told
