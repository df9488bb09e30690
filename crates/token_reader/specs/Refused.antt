-- What was found, where a refusal may name another token.
use Rattle.std.specs.Prelude.{◌≡◌, ℕ, Result, Ok, Err}
use Rattle.token_reader.specs.declared.error.ParseError.{ParseError}
use Rattle.token_reader.specs.declared.error.ParseError.TheVariants.{Memory, Syntax}

abbrev pub IsSameButToken : {A : Type 0} → Result A ParseError → Result A ParseError → Type 0
IsSameButToken (Ok x) r = r ≡ Ok x
IsSameButToken (Err (Memory e)) r = r ≡ Err (Memory e)
IsSameButToken (Err (Syntax n)) r = (at : ℕ) × (r ≡ Err (Syntax at))
