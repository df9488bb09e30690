-- Enumeration constants (C11 6.7.2.2), behind their values.
use Rattle.std.specs.Prelude.{ℕ, ℤ, pos, ◌+ℤ◌, Ok}
use Rattle.well_typed.specs.Kinds.{wrapped}
use Rattle.static_rules.specs.Answers.{Answer, ◌>>=◌}
use Rattle.static_rules.specs.Predefined.{declared}
use Rattle.static_rules.specs.Source.{Source}
use Rattle.static_rules.specs.declared.states.State.{State}
use Rattle.static_rules.specs.declared.states.Symbol.TheVariants as means
use Rattle.static_rules.specs.declared.states.Where.{Where}

-- the constant of a value is declared; the value of one behind it is one more
abbrev pub enumerator_declared : Source → Where → ℕ → State → ℕ → ℤ → Answer (ℤ × State)
enumerator_declared source w here s name value =
    declared source w here s name (means.Constant value) >>= λ after. Ok (wrapped 6 (value +ℤ pos 1), after)
