-- Directives (C11 6.10): which lines they are, and what they say.
use Rattle.std.specs.Prelude.{◌≡◌, ℕ, Bool, true, false, ◌&&◌, ◌==◌, List, [], ◌∷◌, ◌++◌, length, All, Option, Some, None, codes}
use Rattle.std.specs.List.{list_any}
use Rattle.std.specs.Str.{bytes_eq}
use Rattle.c_tokens.specs.declared.kind.Kind.{Kind}
use Rattle.c_tokens.specs.declared.kind.Kind.TheVariants.{Mark as Punctuator}
use Rattle.c_tokens.specs.declared.kind.Mark.TheVariants.{Hash, LeftParen}
use Rattle.c_tokens.specs.declared.token.Token.{Token}
use Rattle.c_pp.specs.declared.error.PpError.{PpError}
use Rattle.c_pp.specs.declared.error.PpError.TheVariants.{UnknownHeader, BadDirective}
use Rattle.c_tokens.specs.Names.{Text, Name, written, spelling, is_name, IsNamed}

abbrev pub is_hash : Kind → Bool
is_hash (Punctuator Hash) = true
is_hash _ = false

abbrev pub is_left_paren : Kind → Bool
is_left_paren (Punctuator LeftParen) = true
is_left_paren _ = false

-- a `#` that is the first token of its line (C11 6.10p2)
abbrev pub begins_directive : Token → Bool
begins_directive token = is_hash token.kind && token.first

-- the next line begins there, if there is one
abbrev pub BeginsLine : List Token → Type 0
BeginsLine [] = Unit {0}
BeginsLine (token ∷ ts) = token.first ≡ true

-- the words are the rest of a line whose first token stands before them, and `rest` is what follows that line
pub record IsLine (ts words rest : List Token) : Type 0 where
  pub split : ts ≡ words ++ rest
  pub inside : All (λ token. token.first ≡ false) words
  pub next : BeginsLine rest

-- the headers that the language has
abbrev pub headers : List Name
headers =
    codes "<stdio.h>" ∷ codes "<stdlib.h>" ∷ codes "<string.h>" ∷ codes "<stddef.h>" ∷ codes "<stdint.h>" ∷ codes "<stdatomic.h>" ∷ []

-- where the last of the tokens ends, or else `end`
abbrev pub last_end : ℕ → List Token → ℕ
last_end end [] = end
last_end end (token ∷ ts) = last_end token.end ts

-- all that stands from the first of the tokens to the last is one of the headers
abbrev pub is_header : Text → List Token → Bool
is_header text [] = false
is_header text (token ∷ ts) = list_any (λ header. bytes_eq (written text token.start (last_end token.end ts)) header) headers

-- nothing stands between the name and a parenthesis after it: a macro with parameters (C11 6.10.3p10)
abbrev pub touches : Text → Token → List Token → Bool
touches text name [] = false
touches text name (token ∷ ts) = is_left_paren token.kind && (length (written text name.end token.start) == 0)

-- a name with the tokens that it stands for, or with none where it is no macro any more
abbrev pub Definition : Type 0
Definition = Name × Option (List Token)

-- `Obeys text words change`: what the words after a `#` say (C11 6.10.2, 6.10.3p9, 6.10.3.5p2 and 6.10.7). A header that is
-- known changes nothing.
pub data Obeys (text : Text) : List Token → Option Definition → Type 0 where
  nothing : Obeys text [] None
  include : {word : Token} {header : List Token} → IsNamed text word (codes "include") → is_header text header ≡ true →
      Obeys text (word ∷ header) None
  define : {word name : Token} {body : List Token} → IsNamed text word (codes "define") → is_name name.kind ≡ true →
      touches text name body ≡ false → Obeys text (word ∷ name ∷ body) (Some (spelling text name, Some body))
  undef : {word name : Token} → IsNamed text word (codes "undef") → is_name name.kind ≡ true →
      Obeys text (word ∷ name ∷ []) (Some (spelling text name, None))

abbrev pub IsInclude : Text → List Token → Type 0
IsInclude text [] = ⊥
IsInclude text (word ∷ header) = IsNamed text word (codes "include")

-- the words say nothing that can be obeyed
abbrev pub IsNone : Text → List Token → Type 0
IsNone text words = (change : Option Definition) → Obeys text words change → ⊥

-- why a directive on this line is refused
pub data Disobeys (text : Text) (words : List Token) (line : ℕ) : PpError → Type 0 where
  header : IsInclude text words → IsNone text words → Disobeys text words line (UnknownHeader line)
  other : (IsInclude text words → ⊥) → IsNone text words → Disobeys text words line (BadDirective line)
