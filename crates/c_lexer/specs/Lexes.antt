-- A text is cut into lexemes, each the longest that begins where it does (C11 6.4p4).
use Rattle.std.specs.Prelude.{◌≡◌, Bool, true, false, ℕ, zero, suc, ◌+◌, ◌-◌, ◌<◌, ◌≤◌, List, [], ◌∷◌, ◌++◌, length, drop, get_or}
use Rattle.c_tokens.specs.declared.kind.Kind.{Kind}
use Rattle.c_tokens.specs.declared.kind.Kind.TheVariants.{Name}
use Rattle.c_tokens.specs.declared.token.Token.{Token}
use Rattle.c_tokens.specs.Limits.{max_tokens}
use Rattle.c_tokens.specs.Names.{spelling}
use Rattle.c_lexer.specs.declared.error.LexError.{LexError}
use Rattle.c_lexer.specs.declared.error.LexError.TheVariants as error
use Rattle.c_lexer.specs.declared.joined.Origin.{Origin}
use Rattle.c_lexer.specs.declared.lexeme.Fault.{Fault}
use Rattle.c_lexer.specs.declared.lexeme.Fault.TheVariants as fault
use Rattle.c_lexer.specs.declared.lexeme.Lexeme.{Lexeme}
use Rattle.c_lexer.specs.declared.lexeme.Lexeme.TheVariants.{Sound, Gap, Faulty}
use Rattle.c_lexer.specs.Bytes.{Text, is_line_end}
use Rattle.c_lexer.specs.Joined.{joined_bytes, joined_origins}
use Rattle.c_lexer.specs.Words.{Spells}

-- the longest lexeme at the front of the text
pub record IsFirst (s word rest : Text) (lexeme : Lexeme) : Type 0 where
  pub text : s ≡ word ++ rest
  pub spells : Spells word lexeme
  pub longest : (other after : Text) (otherwise : Lexeme) → s ≡ other ++ after → Spells other otherwise → length other ≤ length word

-- no lexeme begins at the front of the text
abbrev pub HasNone : Text → Type 0
HasNone s = (word after : Text) (lexeme : Lexeme) → s ≡ word ++ after → Spells word lexeme → ⊥

-- where the byte at this index comes from
abbrev pub origin_at : List Origin → ℕ → Origin
origin_at origins at = get_or origins at (record { offset = 0; line = 0 })

-- each offset is below this one
abbrev pub AreSmall : ℕ → List Origin → Type 0
AreSmall high origins = (k : ℕ) → k < length origins → (origin_at origins k).offset < high

-- the token of the bytes from the index `at` on, `len` of them
abbrev pub token_at : List Origin → Kind → ℕ → ℕ → Bool → Token
token_at origins kind at len first = record {
  kind = kind;
  start = (origin_at origins at).offset;
  end = (origin_at origins (at + len - 1)).offset + 1;
  line = (origin_at origins at).line;
  first = first;
}

-- the refusal of a fault there
abbrev pub refusal : Fault → ℕ → LexError
refusal fault.OpenComment at = error.OpenComment at
refusal fault.OpenString at = error.OpenString at
refusal fault.NumberTooLarge at = error.NumberTooLarge at
refusal fault.BadEscape at = error.BadEscape at

-- `Lexes origins room at first s ts`: the bytes `s` from the index `at` on are these tokens, at most `room` of them, and what
-- separates them; `first` says that no token stands before them on their line. A line end within a comment ends no line.
pub data Lexes (origins : List Origin) : ℕ → ℕ → Bool → Text → List Token → Type 0 where
  end : {room at : ℕ} {first : Bool} → Lexes origins room at first [] []
  line : {room at : ℕ} {first : Bool} {s : Text} {ts : List Token} →
      Lexes origins room (at + 1) true s ts → Lexes origins room at first (10 ∷ s) ts
  gap : {room at : ℕ} {first : Bool} {s rest : Text} {ts : List Token} (word : Text) →
      IsFirst s word rest Gap → Lexes origins room (at + length word) first rest ts → Lexes origins room at first s ts
  token : {room at : ℕ} {first : Bool} {s rest : Text} {ts : List Token} (word : Text) (kind : Kind) →
      IsFirst s word rest (Sound kind) → Lexes origins room (at + length word) false rest ts →
      Lexes origins (suc room) at first s (token_at origins kind at (length word) first ∷ ts)

-- `HasLexFault origins room at s e`: the bytes `s` from the index `at` on have no such tokens, and `e` is the first reason in the text
pub data HasLexFault (origins : List Origin) : ℕ → ℕ → Text → LexError → Type 0 where
  -- no lexeme begins here
  unknown : {room at b : ℕ} {s : Text} → is_line_end b ≡ false → HasNone (b ∷ s) →
      HasLexFault origins room at (b ∷ s) (error.BadByte (origin_at origins at).offset)
  faulty : {room at : ℕ} {s rest : Text} (word : Text) (fault : Fault) →
      IsFirst s word rest (Faulty fault) → HasLexFault origins room at s (refusal fault (origin_at origins at).offset)
  -- a token too many
  full : {at : ℕ} {s rest : Text} (word : Text) (kind : Kind) →
      IsFirst s word rest (Sound kind) → HasLexFault origins zero at s (error.TooManyTokens (origin_at origins at).offset)
  line : {room at : ℕ} {s : Text} {e : LexError} →
      HasLexFault origins room (at + 1) s e → HasLexFault origins room at (10 ∷ s) e
  gap : {room at : ℕ} {s rest : Text} {e : LexError} (word : Text) →
      IsFirst s word rest Gap → HasLexFault origins room (at + length word) rest e → HasLexFault origins room at s e
  token : {room at : ℕ} {s rest : Text} {e : LexError} (word : Text) (kind : Kind) →
      IsFirst s word rest (Sound kind) → HasLexFault origins room (at + length word) rest e → HasLexFault origins (suc room) at s e

-- the tokens of a whole text
abbrev pub Tokens : Text → List Token → Type 0
Tokens text ts = Lexes (joined_origins text) max_tokens 0 true (joined_bytes text) ts

-- why a whole text has none: the first reason in it
abbrev pub IsLexFault : Text → LexError → Type 0
IsLexFault text e = HasLexFault (joined_origins text) max_tokens 0 (joined_bytes text) e

-- the name that the token is spelled with is the longest lexeme of the joined bytes where the token stands
pub record IsNameOf (text : Text) (t : Token) : Type 0 where
  pub at : ℕ
  pub rest : Text
  pub first : IsFirst (drop at (joined_bytes text)) (spelling text t) rest (Sound Name)
  pub token : t ≡ token_at (joined_origins text) Name at (length (spelling text t)) t.first
