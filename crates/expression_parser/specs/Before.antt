-- A part of an expression with the mark after it.
use Rattle.std.specs.Prelude.{List, Some}
use Rattle.c_tokens.specs.declared.kind.Kind.TheVariants as k
use Rattle.c_tokens.specs.declared.kind.Mark.{Mark}
use Rattle.c_tokens.specs.declared.token.Token.{Token}
use Rattle.grammar_descent.specs.Reading.{Reading, ◌>>=◌, when, past}

-- what `read` reads, where the mark stands after it
unfoldable pub before : {A : Type 0} → List Token → Mark → Reading A → Reading A
before ts mark read s = read s >>= λ f. when ts f.1.at (k.Mark mark) (Some (f.0, past f.1 1))
