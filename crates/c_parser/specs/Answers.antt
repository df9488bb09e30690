-- What is answered of a whole text, and the body of a function.
use Rattle.std.specs.Prelude.{◌≡◌, ◌==◌, ℕ, List, length, Option, Some, None, Result, Ok, Err, if◌then◌else◌}
use Rattle.c_tokens.specs.declared.token.Token.{Token}
use Rattle.c_grammar.specs.declared.statements.Block.{Block}
use Rattle.c_grammar.specs.declared.phrases.TypePhrase.{TypePhrase}
use Rattle.c_grammar.specs.declared.words.NameKind.{NameKind}
use Rattle.c_grammar.specs.Limits.{max_depth}
use Rattle.grammar_descent.specs.Reading.{State, Reading, Readers, ◌>>=◌}
use Rattle.grammar_descent.specs.InitialiserSteps.{NamedDeclarator, declare}
use Rattle.grammar_descent.specs.StatementSteps.{back, block}
use Rattle.grammar_descent.specs.UnitSteps.{in_function, type_phrase_alone}
use Rattle.grammar_descent.specs.AllReaders.{readers}
use Rattle.token_reader.specs.declared.error.ParseError.{ParseError}
use Rattle.token_reader.specs.declared.error.ParseError.TheVariants.{Syntax}

-- what is found, unless memory runs out
abbrev pub Answers : {A : Type 0} → Result A ParseError → Option A → Type 0
Answers (Ok x) answer = answer ≡ Some x
Answers (Err e) answer = (at : ℕ) → e ≡ Syntax at → answer ≡ None

-- The block of a function whose declarator was read, with which the scope of the parameters ends.
abbrev pub body_of : List ℕ → List Token → (ℕ → Readers) → NameKind → NamedDeclarator → Reading Block
body_of text ts phrases kind f s = block text ts phrases max_depth (in_function (f, s) kind) >>= λ body.
    Some (body.0, back (declare s f.name kind) body.1)

-- the phrase of a name of a type that all the tokens from there on are
abbrev pub phrase_of : List ℕ → List Token → State → Option TypePhrase
phrase_of text ts s = type_phrase_alone text ts (readers text ts) max_depth s >>= λ f. if f.1.at == length ts then Some f.0 else None
