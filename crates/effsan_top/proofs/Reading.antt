-- What the lexer, the preprocessor and the parser say of a text.
use Rattle.std.proofs.Common.{◌≡◌, ℕ, ◌<◌, ◌≤◌, List, [], ◌∷◌, ◌++◌, length, refl, sym, ap, ◌∙◌, subst, ◌⊎◌, inl, inr, Some, arith}
use Rattle.std.specs.Prelude.{alloc_error, All, Contains}
use Rattle.std.proofs.lemmas.List.Elements.{All-nil, All-cons, All-head, All-tail}
use Rattle.c_tokens.specs.Limits.{max_tokens}
use Rattle.c_tokens.specs.declared.token.Token.{Token}
use Rattle.c_tokens.specs.declared.kind.Kind.TheVariants.{Str}
use Rattle.c_lexer.specs.declared.error.LexError.{LexError}
use Rattle.c_lexer.specs.declared.error.LexError.TheVariants as lex
use Rattle.c_lexer.specs.declared.lexeme.Fault.TheVariants as lexeme
use Rattle.c_lexer.specs.Escapes.{IsStringOf}
use Rattle.c_lexer.specs.declared.joined.Origin.{Origin}
use Rattle.c_lexer.specs.Lexes as lexes
use Rattle.c_lexer.specs.Lexes.{Tokens, IsLexFault, HasLexFault}
use Rattle.c_pp.specs.declared.error.PpError.{PpError}
use Rattle.c_pp.specs.declared.error.PpError.TheVariants as pp
use Rattle.c_pp.specs.Directives as directives
use Rattle.c_pp.specs.Directives.{Disobeys}
use Rattle.c_pp.specs.Expands.{Expands, IsPpFault, HasPpFault, IsDrawn}
use Rattle.c_pp.specs.Expands as expands
use Rattle.c_pp.specs.Macros.{Macros}
use Rattle.c_grammar.specs.declared.units.Unit.{Unit}
use Rattle.c_grammar.specs.Units as grammar
use Rattle.c_grammar.specs.Units.{Derives}
use Rattle.token_texts.specs.Strings.{MeansBytes, HaveStrings}
use Rattle.token_texts.specs.Names.{predefined}
use Rattle.token_texts.specs.Strings as strings
use Rattle.token_texts.specs.Texts as texts
use Rattle.token_texts.specs.Texts.{distinct}
use Rattle.program_form.specs.declared.error.FormError.{FormError}
use Rattle.program_form.specs.declared.error.FormError.TheVariants as form
use Rattle.program_form.specs.Programs.{IsOutside}
use Rattle.effsan_top.specs.declared.faults.Fault.{Fault}
use Rattle.effsan_top.specs.declared.faults.FaultKind.TheVariants.{Syntax}
use Rattle.effsan_top.specs.declared.program.ProgramError.{ProgramError}
use Rattle.effsan_top.specs.declared.program.ProgramError.TheVariants as error
use Rattle.effsan_top.specs.Faults as fault
use Rattle.effsan_top.specs.Faults.{BecomesTokens, IsAtFault, lexical, directive, syntax, on, of_lexer, of_expander}
use Rattle.effsan_top.specs.Errors as told
use Rattle.effsan_top.specs.Errors.{of_fault}
use Rattle.effsan_top.specs.Steps.{IsReading, HasProgramCause}

-- ---- refusals of the lexer and of the preprocessor are faults

pub lexer_fault : (text : List ℕ) {origins : List Origin} {room at : ℕ} {s : List ℕ} {e : LexError} → HasLexFault origins room at s e →
    (f : Fault) × (of_lexer text e ≡ Some f)
lexer_fault text (lexes.unknown ends nothing) = (_, refl)
lexer_fault text (lexes.faulty word lexeme.OpenComment first) = (_, refl)
lexer_fault text (lexes.faulty word lexeme.OpenString first) = (_, refl)
lexer_fault text (lexes.faulty word lexeme.NumberTooLarge first) = (_, refl)
lexer_fault text (lexes.faulty word lexeme.BadEscape first) = (_, refl)
lexer_fault text (lexes.full word kind first) = (_, refl)
lexer_fault text (lexes.line h) = lexer_fault text h
lexer_fault text (lexes.gap word first h) = lexer_fault text h
lexer_fault text (lexes.token word kind first h) = lexer_fault text h

disobeyed : {text : List ℕ} {words : List Token} {n : ℕ} {e : PpError} → Disobeys text words n e → (f : Fault) × (of_expander e ≡ Some f)
disobeyed (directives.header is nothing) = (_, refl)
disobeyed (directives.other apart nothing) = (_, refl)

pub expander_fault : {text : List ℕ} {macros : Macros} {room : ℕ} {ts : List Token} {e : PpError} → HasPpFault text macros room ts e →
    (f : Fault) × (of_expander e ≡ Some f)
expander_fault (expands.bad begins is wrong) = disobeyed wrong
expander_fault (expands.loop plain loops) = (_, refl)
expander_fault (expands.full plain replaces more) = (_, refl)
expander_fault (expands.directive begins is obeys h) = expander_fault h
expander_fault (expands.token plain replaces few h) = expander_fault h

module _ (text : List ℕ) where
  told_fault : (e : ProgramError) (f : Fault) → IsAtFault text f → e ≡ error.Faulty f → HasProgramCause text e
  told_fault e f is same = subst (λ e. HasProgramCause text e) (sym same) is

  pub lexer_cause : (e : LexError) → (e ≡ lex.Memory alloc_error) ⊎ IsLexFault text e → HasProgramCause text (told.of_lexer text e)
  lexer_cause e (inl m) = subst (λ e. HasProgramCause text (told.of_lexer text e)) (sym m) tt
  lexer_cause e (inr r) =
      let f = lexer_fault text r in
      told_fault (told.of_lexer text e) f.0 (lexical r f.1) (ap of_fault f.1)

  pub expander_cause : (tokens : List Token) → Tokens text tokens → (e : PpError) → (e ≡ pp.Memory alloc_error) ⊎ IsPpFault text tokens e →
      HasProgramCause text (told.of_expander e)
  expander_cause tokens lexed e (inl m) = subst (λ e. HasProgramCause text (told.of_expander e)) (sym m) tt
  expander_cause tokens lexed e (inr r) =
      let f = expander_fault r in
      told_fault (told.of_expander e) f.0 (directive lexed r f.1) (ap of_fault f.1)

  -- ---- what the text becomes

  -- each string literal of a text means bytes
  abbrev pub StringsLaw : Type 0
  StringsLaw = (ts : List Token) (t : Token) → Tokens text ts → Contains ts t → t.kind ≡ Str → (bytes : List ℕ) × IsStringOf text t.start t.end bytes

  -- the tokens that the text becomes mean what those of the text mean
  module _ (law : StringsLaw) (tokens : List Token) (lexed : Tokens text tokens) where
    of_one : (t : Token) → IsDrawn tokens t → MeansBytes text t
    of_one t d = λ is.
        let (bytes, means) = law tokens d.source lexed d.from_text (ap (λ (k : Token). k.kind) (sym d.same) ∙ is) in
        let P : Token → Type 0 = λ k. IsStringOf text k.start k.end bytes in
        (bytes, subst P (sym d.same) means)

    pub drawn : (ts : List Token) → All (IsDrawn tokens) ts → HaveStrings text ts
    drawn [] h = All-nil (MeansBytes text)
    drawn (t ∷ ts) h = All-cons (MeansBytes text) t ts (of_one t (All-head (IsDrawn tokens) t ts h)) (drawn ts (All-tail (IsDrawn tokens) t ts h))

    pub reading : (out : List Token) → Expands text tokens out → All (IsDrawn tokens) out → length out ≤ max_tokens → IsReading text out
    reading out is from few = record {
      becomes = record { tokens = tokens; lexed = lexed; is = is };
      strings = drawn out from;
      few = few;
    }

-- ---- a unit

-- the unit of no tokens
pub no_tokens : Unit
no_tokens = record { items = []; texts = record { names = distinct (predefined ++ []); strings = []; numbers = [] } }

texts_of_nothing : {text : List ℕ} → texts.AreTexts text [] no_tokens.texts
unfolding no_tokens
texts_of_nothing = record { literals = []; are_literals = strings.none; names = refl; strings = refl; numbers = texts.none }

pub nothing_derived : (text : List ℕ) → Derives text [] no_tokens
unfolding no_tokens
nothing_derived text = record { items = grammar.none; texts = texts_of_nothing }

-- where no unit is derived, there are tokens
pub no_unit : (text : List ℕ) (tokens : List Token) (n : ℕ) → BecomesTokens text tokens →
    (0 < length tokens → (token : Token) × Contains tokens token × (n ≡ token.line)) →
    ((unit : Unit) → Derives text tokens unit → ⊥) → IsAtFault text (on Syntax n)
no_unit text [] n becomes at nothing = absurd (nothing no_tokens (nothing_derived text))
no_unit text (t ∷ ts) n becomes at nothing =
    let some = at (omega arith) in
    subst (λ n. IsAtFault text (on Syntax n)) (sym some.2) (syntax becomes some.1 nothing)

pub form_cause : (text : List ℕ) (tokens : List Token) (unit : Unit) → BecomesTokens text tokens → Derives text tokens unit →
    (e : FormError) → ((n : ℕ) → e ≡ form.NotYet n → IsOutside unit n) → HasProgramCause text (told.of_form e)
form_cause text tokens unit becomes derived (form.Memory m) h = tt
form_cause text tokens unit becomes derived (form.NotYet n) h = fault.not_yet becomes derived (h n refl)
