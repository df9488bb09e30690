-- What was read from one reader on is what is read from another that reads the same tokens.
use Rattle.std.proofs.Common.{◌≡◌, ℕ, List, Some, None, subst, Result, Ok, Err}
use Rattle.c_tokens.specs.declared.token.Token.{Token}
use Rattle.grammar_descent.specs.Reading.{Reading}
use Rattle.token_reader.specs.declared.error.ParseError.{ParseError}
use Rattle.token_reader.specs.declared.error.ParseError.TheVariants.{Syntax}
use Rattle.token_reader.specs.Input.{Input, Reads, Gives}

-- as far as a loop has come, from the state that it began with
pub since : {A : Type 0} (read : List ℕ → List Token → Reading A) (start now after : Input) (result : Result A ParseError) →
    now.text ≡ start.text → now.tokens ≡ start.tokens → Reads read now result after → Gives result after.state (read start.text start.tokens now.state)
since read start now after result text tokens r =
    subst (λ (x : List ℕ). Gives result after.state (read x start.tokens now.state)) text
    (subst (λ (y : List Token). Gives result after.state (read now.text y now.state)) tokens r.answer)

pub found : {A : Type 0} (read : List ℕ → List Token → Reading A) (start now after : Input) (x : A) →
    now.text ≡ start.text → now.tokens ≡ start.tokens → Reads read now (Ok x) after → read start.text start.tokens now.state ≡ Some (x, after.state)
found read start now after x text tokens r = since read start now after (Ok x) text tokens r

pub none : {A : Type 0} (read : List ℕ → List Token → Reading A) (start now after : Input) (e : ParseError) →
    now.text ≡ start.text → now.tokens ≡ start.tokens → Reads {A = A} read now (Err e) after → (at : ℕ) → e ≡ Syntax at →
    read start.text start.tokens now.state ≡ None
none {A} read start now after e text tokens r = since {A = A} read start now after (Err e) text tokens r
