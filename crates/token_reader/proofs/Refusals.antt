-- What is read is read also where its refusal names another token.
use Rattle.std.proofs.Common.{ℕ, List, Option, ap, subst, sym, refl, Result, Ok, Err, IfOk}
use Rattle.c_tokens.specs.declared.token.Token.{Token}
use Rattle.grammar_descent.specs.Reading.{State, Reading}
use Rattle.token_reader.specs.declared.error.ParseError.{ParseError}
use Rattle.token_reader.specs.declared.error.ParseError.TheVariants.{Memory, Syntax}
use Rattle.token_reader.specs.Input.{Input, Reads, Gives}
use Rattle.token_reader.specs.Refused.{IsSameButToken}

same_gives : {A : Type 0} (r s : Result A ParseError) (after : State) (answer : Option (A × State)) →
    IsSameButToken r s → Gives r after answer → Gives s after answer
same_gives (Ok x) s after answer e g = subst (λ (t : Result _ ParseError). Gives t after answer) (sym e) g
same_gives (Err (Memory m)) s after answer e g = subst (λ (t : Result _ ParseError). Gives t after answer) (sym e) g
same_gives (Err (Syntax n)) s after answer e g = subst (λ (t : Result _ ParseError). Gives t after answer) (sym e.1) (λ at is. g n refl)

pub same_reads : {A : Type 0} (read : List ℕ → List Token → Reading A) (before after : Input) (r s : Result A ParseError) →
    IsSameButToken r s → Reads read before r after → Reads read before s after
same_reads read before after r s same given = record {
  answer = same_gives r s after.state (read before.text before.tokens before.state) same given.answer;
  text = given.text;
  tokens = given.tokens;
  texts = given.texts;
}

-- what holds of all that is found
pub same_found : {A : Type 0} (p : A → Type 0) (r s : Result A ParseError) → IsSameButToken r s → IfOk r p → IfOk s p
same_found p (Ok x) s e h = subst (λ (t : Result _ ParseError). IfOk t p) (sym e) h
same_found p (Err (Memory m)) s e h = subst (λ (t : Result _ ParseError). IfOk t p) (sym e) h
same_found p (Err (Syntax n)) s e h = subst (λ (t : Result _ ParseError). IfOk t p) (sym e.1) h
