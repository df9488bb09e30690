-- What stands between the word `for` and the statement that it repeats (C11 6.8.5).
use Rattle.std.specs.Prelude.{ℕ, ◌+◌, List, Option, Some}
use Rattle.c_tokens.specs.declared.kind.Mark.TheVariants as mark
use Rattle.c_tokens.specs.declared.kind.Kind.TheVariants as k
use Rattle.c_tokens.specs.declared.token.Token.{Token}
use Rattle.c_grammar.specs.declared.phrases.Expression.{Expression}
use Rattle.c_grammar.specs.declared.statements.ForStart.{ForStart}
use Rattle.grammar_descent.specs.Reading.{Reading, ◌>>=◌, when, past, Readers}
use Rattle.grammar_descent.specs.StatementSteps.{for_start, optional_before}

module _ (text : List ℕ) (ts : List Token) (phrases : ℕ → Readers) (depth : ℕ) where
  -- the test and the step, with the mark after each
  unfoldable pub for_controls : Reading (Option Expression × Option Expression)
  for_controls s = optional_before text ts phrases depth mark.Semicolon s >>= λ test. optional_before text ts phrases depth mark.RightParen test.1 >>= λ step.
      Some ((test.0, step.0), step.1)

  -- what is in parentheses after the word
  unfoldable pub for_header : Reading (ForStart × Option Expression × Option Expression)
  for_header s = when ts (s.at + 1) (k.Mark mark.LeftParen) (for_start text ts phrases depth (past s 2) >>= λ start. for_controls start.1 >>= λ rest.
      Some ((start.0, rest.0.0, rest.0.1), rest.1))
