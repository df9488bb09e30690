-- The beginning and the end of a function's definition (C11 6.9.1).
use Rattle.std.specs.Prelude.{ℕ, [], take, Ok}
use Rattle.scoped_meanings.specs.Meanings.{declared_at}
use Rattle.static_rules.specs.Answers.{Answer, ◌>>=◌, or_mismatch}
use Rattle.static_rules.specs.declared.states.State.{State}
use Rattle.declaration_rules.specs.Definitions.{defined_once}

-- the type of the result of a function that is defined, which has no body yet
abbrev pub begun : ℕ → ℕ → State → Answer (ℕ × State)
begun here number s =
    or_mismatch here (declared_at s.functions number) >>= λ earlier. defined_once here number earlier s >>= λ after.
    Ok (earlier.signature.result, after)

-- behind its body: so many names and tags stood before it
abbrev pub ended : ℕ → ℕ → State → State
ended names_before tags_before s = record s {
  symbols = take names_before s.symbols;
  tags = take tags_before s.tags;
  variables = [];
  block = [];
}
