-- What is read of specifiers where the roles of their words are told only by what a name that they declare is.
use Rattle.std.specs.Prelude.{◌≡◌, ℕ, List, Option, Some, None, Result, Ok, Err}
use Rattle.c_tokens.specs.declared.token.Token.{Token}
use Rattle.c_grammar.specs.declared.phrases.Specs.{Specs}
use Rattle.c_grammar.specs.Words.{Role}
use Rattle.c_grammar.specs.Scope.{declared_kind}
use Rattle.grammar_descent.specs.Reading.{State, Reading}
use Rattle.token_reader.specs.declared.error.ParseError.{ParseError}
use Rattle.token_reader.specs.declared.error.ParseError.TheVariants.{Syntax}
use Rattle.token_reader.specs.declared.found.FoundSpecs.{FoundSpecs}
use Rattle.token_reader.specs.Input.{Input}

-- there are roles with which these specifiers are read
abbrev pub GivesSpecs : Result FoundSpecs ParseError → State → Option ((Specs × List Role × ℕ) × State) → Type 0
GivesSpecs (Ok f) after answer = (roles : List Role) × (answer ≡ Some ((f.node, roles, f.height), after)) × (f.kind ≡ declared_kind roles)
GivesSpecs (Err e) after answer = (at : ℕ) → e ≡ Syntax at → answer ≡ None

pub record ReadsSpecs (read : List ℕ → List Token → Reading (Specs × List Role × ℕ)) (before : Input) (result : Result FoundSpecs ParseError) (after : Input) : Type 0 where
  pub answer : GivesSpecs result after.state (read before.text before.tokens before.state)
  pub text : after.text ≡ before.text
  pub tokens : after.tokens ≡ before.tokens
  pub texts : after.texts ≡ before.texts
