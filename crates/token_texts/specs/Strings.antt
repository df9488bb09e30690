-- The string literals among the tokens of a text.
use Rattle.std.specs.Prelude.{◌≡◌, ◌≢◌, ℕ, List, [], ◌∷◌, All}
use Rattle.c_tokens.specs.declared.kind.Kind.TheVariants as k
use Rattle.c_tokens.specs.declared.token.Token.{Token}
use Rattle.c_lexer.specs.Escapes.{IsStringOf}

-- if it is a string literal, the token means bytes
abbrev pub MeansBytes : List ℕ → Token → Type 0
MeansBytes text token = token.kind ≡ k.Str → (bytes : List ℕ) × IsStringOf text token.start token.end bytes

-- each string literal among the tokens means bytes
abbrev pub HaveStrings : List ℕ → List Token → Type 0
HaveStrings text tokens = All (MeansBytes text) tokens

-- the bytes that the string literals among the tokens mean, in their order
pub data AreStrings (text : List ℕ) : List Token → List (List ℕ) → Type 0 where
  none : AreStrings text [] []
  string : {token : Token} {tokens : List Token} {bytes : List ℕ} {strings : List (List ℕ)} → token.kind ≡ k.Str →
      IsStringOf text token.start token.end bytes → AreStrings text tokens strings → AreStrings text (token ∷ tokens) (bytes ∷ strings)
  other : {token : Token} {tokens : List Token} {strings : List (List ℕ)} → token.kind ≢ k.Str →
      AreStrings text tokens strings → AreStrings text (token ∷ tokens) strings
