-- How far the token may stand that a refusal names.
use Rattle.std.specs.Prelude.{◌≡◌, ℕ, ◌≤◌, Result, Err}
use Rattle.token_reader.specs.declared.error.ParseError.{ParseError}
use Rattle.token_reader.specs.declared.error.ParseError.TheVariants.{Syntax}

-- a refusal names no token after this one
abbrev pub IsRefusedWithin : {A : Type 0} → ℕ → Result A ParseError → Type 0
IsRefusedWithin last r = (at : ℕ) → r ≡ Err (Syntax at) → at ≤ last
