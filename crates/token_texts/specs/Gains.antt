-- What one more token adds.
use Rattle.std.specs.Prelude.{◌≡◌, ◌≢◌, ℕ, List, Some, slice_get, if◌then◌else◌}
use Rattle.c_tokens.specs.declared.kind.Kind.TheVariants as k
use Rattle.c_tokens.specs.declared.token.Token.{Token}
use Rattle.c_tokens.specs.Names.{spelling}
use Rattle.c_lexer.specs.Escapes.{IsStringOf}
use Rattle.token_texts.specs.Names.{has_name}
use Rattle.token_texts.specs.Texts.{with_one, IsNumber}

-- both are of one kind and have the same bytes of the text
pub record IsSame (a b : Token) : Type 0 where
  pub kind : a.kind ≡ b.kind
  pub start : a.start ≡ b.start
  pub end : a.end ≡ b.end

-- a token with this number is of the same kind and has the same bytes
pub record IsKnown (tokens : List Token) (numbers : List ℕ) (token : Token) (number : ℕ) : Type 0 where
  pub at : ℕ
  pub other : Token
  pub stands : slice_get tokens at ≡ Some other
  pub has : slice_get numbers at ≡ Some number
  pub same : IsSame other token

-- the strings, with that of the token if it is a string literal
pub data GainsString (text : List ℕ) (token : Token) (old : List (List ℕ)) : List (List ℕ) → Type 0 where
  string : {bytes : List ℕ} → token.kind ≡ k.Str → IsStringOf text token.start token.end bytes → GainsString text token old (with_one old bytes)
  other : token.kind ≢ k.Str → GainsString text token old old

-- with the token, the names and the strings become these, and it has the number
pub record Gains (text : List ℕ) (token : Token) (names strings names' strings' : List (List ℕ)) (n : ℕ) : Type 0 where
  pub gains_name : names' ≡ (if has_name token then with_one names (spelling text token) else names)
  pub gains_string : GainsString text token strings strings'
  pub has : IsNumber text names' strings' token n
