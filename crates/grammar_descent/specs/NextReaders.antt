-- The readers of one depth from those of the depth below.
use Rattle.std.specs.Prelude.{ℕ, List, None}
use Rattle.c_tokens.specs.declared.token.Token.{Token}
use Rattle.c_grammar.specs.declared.phrases.Expression.{Expression}
use Rattle.grammar_descent.specs.Reading.{Reading, Readers}
use Rattle.grammar_descent.specs.SpecifierSteps.{specs}
use Rattle.grammar_descent.specs.DeclaratorSteps.{declarator}

-- the readers below depth 0, which find nothing
abbrev pub no_readers : Readers
no_readers = record { expression = λ level s. None; specs = λ s. None; declarator = λ how s. None }

-- Those of the depth, where `expression` reads the expressions of this depth, and `inner` all that is nested less deep.
abbrev pub with_expressions : List ℕ → List Token → (ℕ → Reading (Expression × ℕ)) → Readers → ℕ → Readers
with_expressions text ts expression inner depth =
    record { expression = expression; specs = specs text ts expression inner; declarator = declarator text ts inner depth }

-- Depth 0: there is no expression, and of specifiers and declarators what has none and no list of members.
abbrev pub least_readers : List ℕ → List Token → Readers
least_readers text ts = with_expressions text ts no_readers.expression no_readers 0
