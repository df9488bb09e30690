-- The readers of every depth.
use Rattle.std.specs.Prelude.{ℕ, zero, suc, List, Option}
use Rattle.c_tokens.specs.declared.token.Token.{Token}
use Rattle.c_grammar.specs.declared.phrases.TypePhrase.{TypePhrase}
use Rattle.c_grammar.specs.declared.units.External.{External}
use Rattle.c_tokens.specs.Names.{Name}
use Rattle.grammar_descent.specs.Reading.{Readers}
use Rattle.grammar_descent.specs.ExpressionSteps.{expression}
use Rattle.grammar_descent.specs.NextReaders.{with_expressions, least_readers}
use Rattle.grammar_descent.specs.UnitSteps as step

unfoldable pub readers : List ℕ → List Token → ℕ → Readers
readers text ts zero = least_readers text ts
readers text ts (suc depth) =
    with_expressions text ts (expression text ts depth (readers text ts depth)) (readers text ts depth) (suc depth)

-- the declarations and functions of the unit that the tokens of the text are, if they are one
abbrev pub read_unit : List ℕ → List Token → Option (List External)
read_unit text ts = step.unit text ts (readers text ts)

-- the name of a type that they are, where these names are types beside the predefined ones
abbrev pub read_type_name : List ℕ → List Token → List Name → Option TypePhrase
read_type_name text ts typedefs = step.lone_type text ts (readers text ts) typedefs
