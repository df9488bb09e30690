-- An expression that may still grow, and what a function that reads one gives.
use Rattle.std.specs.Prelude.{◌≡◌, ℕ, List, Option, Some, None, Result, Ok, Err}
use Rattle.c_tokens.specs.declared.token.Token.{Token}
use Rattle.c_grammar.specs.Operators.{tightness}
use Rattle.grammar_descent.specs.Reading.{State}
use Rattle.grammar_descent.specs.ExpressionSteps.{FoundExpression}
use Rattle.token_reader.specs.declared.error.ParseError.{ParseError}
use Rattle.token_reader.specs.declared.error.ParseError.TheVariants.{Syntax}
use Rattle.expression_parser.specs.declared.growing.Growing.{Growing}
use Rattle.token_reader.specs.Input.{Input}

-- the expression, where the reader stands after it
abbrev pub found : Growing → State → FoundExpression
found g after = record { node = g.node; height = g.height; level = tightness g.level; after = after }

abbrev pub GivesFound : Result Growing ParseError → State → Option FoundExpression → Type 0
GivesFound (Ok g) after answer = answer ≡ Some (found g after)
GivesFound (Err e) after answer = (at : ℕ) → e ≡ Syntax at → answer ≡ None

-- `Finds find before result after`: the function answers what `find` finds in the text from the state on, unless memory runs
-- out; it leaves the reader after that.
pub record Finds (find : List ℕ → List Token → State → Option FoundExpression) (before : Input) (result : Result Growing ParseError) (after : Input) : Type 0 where
  pub answer : GivesFound result after.state (find before.text before.tokens before.state)
  pub text : after.text ≡ before.text
  pub tokens : after.tokens ≡ before.tokens
  pub texts : after.texts ≡ before.texts
