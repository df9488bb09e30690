-- What a reader reads from, and what a function of the parser gives.
use Rattle.std.specs.Prelude.{◌≡◌, ℕ, List, Option, Some, None, Result, Ok, Err}
use Rattle.c_tokens.specs.declared.token.Token.{Token}
use Rattle.token_texts.specs.Texts.{Texts}
use Rattle.grammar_descent.specs.Reading.{State, Reading}
use Rattle.token_reader.specs.declared.error.ParseError.{ParseError}
use Rattle.token_reader.specs.declared.error.ParseError.TheVariants.{Syntax}

-- a text, its tokens and the table of its names, where the reader stands among the tokens, and what is in scope there
pub record Input : Type 0 where
  pub text : List ℕ
  pub tokens : List Token
  pub texts : Texts
  pub state : State

-- a list of tokens is read so, or not at all
abbrev pub Gives : {A : Type 0} → Result A ParseError → State → Option (A × State) → Type 0
Gives (Ok x) after answer = answer ≡ Some (x, after)
Gives (Err e) after answer = (at : ℕ) → e ≡ Syntax at → answer ≡ None

-- `Reads read before result after`: what the function answers is what `read` finds in the text from the state on, unless
-- memory runs out; it leaves the reader after that.
pub record Reads {A : Type 0} (read : List ℕ → List Token → Reading A) (before : Input) (result : Result A ParseError) (after : Input) : Type 0 where
  pub answer : Gives result after.state (read before.text before.tokens before.state)
  pub text : after.text ≡ before.text
  pub tokens : after.tokens ≡ before.tokens
  pub texts : after.texts ≡ before.texts
