-- What stands at a place among the tokens of a text.
use Rattle.std.specs.Prelude.{◌≡◌, ℕ, ◌+◌, List, Option, Some, None, slice_get}
use Rattle.c_tokens.specs.declared.kind.Keyword.{Keyword}
use Rattle.c_tokens.specs.declared.kind.Mark.{Mark}
use Rattle.c_tokens.specs.declared.kind.Mark.TheVariants as mark
use Rattle.c_tokens.specs.declared.kind.Kind.{Kind}
use Rattle.c_tokens.specs.declared.kind.Kind.TheVariants as k
use Rattle.c_tokens.specs.declared.token.Token.{Token}
use Rattle.c_grammar.specs.declared.words.Place.{Place}

-- none past the last token
abbrev pub kind_of : Option Token → Option Kind
kind_of (Some t) = Some t.kind
kind_of None = None

unfoldable pub kind_at : List Token → ℕ → Option Kind
kind_at ts at = kind_of (slice_get ts at)

abbrev pub line_of : Option Token → ℕ
line_of (Some t) = t.line
line_of None = 0

unfoldable pub place_at : List Token → ℕ → Place
place_at ts at = record { token = at; line = line_of (slice_get ts at) }

-- this mark, this keyword, some name, some string literal stands there
abbrev pub IsMark : List Token → ℕ → Mark → Type 0
IsMark ts at m = kind_at ts at ≡ Some (k.Mark m)

abbrev pub IsWord : List Token → ℕ → Keyword → Type 0
IsWord ts at word = kind_at ts at ≡ Some (k.Word word)

abbrev pub IsName : List Token → ℕ → Type 0
IsName ts at = kind_at ts at ≡ Some k.Name

abbrev pub IsString : List Token → ℕ → Type 0
IsString ts at = kind_at ts at ≡ Some k.Str

-- string literals, one at least, from the one place up to the other
pub data AreStrings (ts : List Token) : ℕ → ℕ → Type 0 where
  last : {at : ℕ} → IsString ts at → AreStrings ts at (at + 1)
  more : {from to : ℕ} → IsString ts from → AreStrings ts (from + 1) to → AreStrings ts from to

-- a name, which is the token of this number, or nothing
pub data IsOptionalName (ts : List Token) : ℕ → ℕ → Option ℕ → Type 0 where
  absent : {at : ℕ} → IsOptionalName ts at at None
  present : {at : ℕ} → IsName ts at → IsOptionalName ts at (at + 1) (Some at)

-- the brace that closes a list, with or without a comma before it
pub data ClosesList (ts : List Token) : ℕ → ℕ → Type 0 where
  brace : {at : ℕ} → IsMark ts at mark.RightBrace → ClosesList ts at (at + 1)
  comma_and_brace : {at : ℕ} → IsMark ts at mark.Comma → IsMark ts (at + 1) mark.RightBrace → ClosesList ts at (at + 2)
