-- The names and the strings of a text, each once, and the number that each token has among them.
use Rattle.std.specs.Prelude.{◌≡◌, ◌≢◌, ℕ, List, [], ◌∷◌, ◌++◌, Some, fold, slice_get, slice_index_or, if◌then◌else◌}
use Rattle.std.specs.List.{list_any}
use Rattle.std.specs.Str.{bytes_eq}
use Rattle.c_tokens.specs.declared.kind.Kind.TheVariants as k
use Rattle.c_tokens.specs.declared.token.Token.{Token}
use Rattle.c_tokens.specs.Names.{Name, spelling}
use Rattle.c_lexer.specs.Escapes.{IsStringOf}
use Rattle.token_texts.specs.Names.{names_of, predefined}
use Rattle.token_texts.specs.Strings.{AreStrings}

-- What nodes say of a text by numbers: a token that is a name has its number among the names, a string literal among the strings.
pub record Texts : Type 0 where
  pub names : List Name
  pub strings : List (List ℕ)
  pub numbers : List ℕ

-- the list, with this at its end unless it stands there already
abbrev pub with_one : List (List ℕ) → List ℕ → List (List ℕ)
with_one list one = if list_any (bytes_eq one) list then list else (list ++ one ∷ [])

-- each of them once, where it comes first
abbrev pub distinct : List (List ℕ) → List (List ℕ)
distinct list = fold with_one [] list

-- `IsNumber text names strings token n`: the token has the number n
pub data IsNumber (text : List ℕ) (names strings : List (List ℕ)) (token : Token) : ℕ → Type 0 where
  name : {n : ℕ} → token.kind ≡ k.Name → slice_get names n ≡ Some (spelling text token) → IsNumber text names strings token n
  string : {n : ℕ} {bytes : List ℕ} → token.kind ≡ k.Str → IsStringOf text token.start token.end bytes → slice_get strings n ≡ Some bytes →
      IsNumber text names strings token n
  other : token.kind ≢ k.Name → token.kind ≢ k.Str → IsNumber text names strings token 0

-- the tokens have these numbers, each its own
pub data AreNumbers (text : List ℕ) (names strings : List (List ℕ)) : List Token → List ℕ → Type 0 where
  none : AreNumbers text names strings [] []
  more : {token : Token} {tokens : List Token} {n : ℕ} {numbers : List ℕ} →
      IsNumber text names strings token n → AreNumbers text names strings tokens numbers → AreNumbers text names strings (token ∷ tokens) (n ∷ numbers)

-- These are the texts of the tokens, where the first names are given.
pub record AreTextsFrom (given : List Name) (text : List ℕ) (tokens : List Token) (texts : Texts) : Type 0 where
  pub literals : List (List ℕ)
  pub are_literals : AreStrings text tokens literals
  pub names : texts.names ≡ distinct (given ++ names_of text tokens)
  pub strings : texts.strings ≡ distinct literals
  pub numbers : AreNumbers text texts.names texts.strings tokens texts.numbers

-- those of a unit
abbrev pub AreTexts : List ℕ → List Token → Texts → Type 0
AreTexts = AreTextsFrom predefined

-- those of the name of a type, where these names are types too
abbrev pub AreTextsWith : List Name → List ℕ → List Token → Texts → Type 0
AreTextsWith typedefs = AreTextsFrom (predefined ++ typedefs)

-- the number of the token there: among the names, or among the strings; 0 past the last one
abbrev pub number_at : Texts → ℕ → ℕ
number_at texts at = slice_index_or texts.numbers at 0

-- the name, the string, of a number; nothing where there is none
abbrev pub name_of : Texts → ℕ → Name
name_of texts number = slice_index_or texts.names number []

abbrev pub string_of : Texts → ℕ → List ℕ
string_of texts number = slice_index_or texts.strings number []

-- a name stands there
pub record IsNameAt (tokens : List Token) (at : ℕ) : Type 0 where
  pub token : Token
  pub stands : slice_get tokens at ≡ Some token
  pub name : token.kind ≡ k.Name
