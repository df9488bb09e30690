-- The names among the tokens of a text.
use Rattle.std.specs.Prelude.{◌≡◌, ℕ, Bool, List, [], ◌∷◌, Option, Some, None, slice_get, codes, map, filter}
use Rattle.c_tokens.specs.declared.token.Token.{Token}
use Rattle.c_tokens.specs.Names.{Name, spelling, is_name}

abbrev pub spelling_of : List ℕ → Option Token → Name
spelling_of text (Some token) = spelling text token
spelling_of text None = []

-- what the token there is spelled with: of a name, the name; nothing past the last token
unfoldable pub name_at : List ℕ → List Token → ℕ → Name
name_at text tokens at = spelling_of text (slice_get tokens at)

abbrev pub has_name : Token → Bool
has_name token = is_name token.kind

-- the names among the tokens, in their order
abbrev pub names_of : List ℕ → List Token → List Name
names_of text tokens = map (spelling text) (filter has_name tokens)

-- the names of types that stand in every text (C11 7.19 and 7.20.1.1)
abbrev pub predefined : List Name
predefined =
    codes "size_t" ∷ codes "ptrdiff_t"
    ∷ codes "int8_t" ∷ codes "int16_t" ∷ codes "int32_t" ∷ codes "int64_t"
    ∷ codes "uint8_t" ∷ codes "uint16_t" ∷ codes "uint32_t" ∷ codes "uint64_t" ∷ []
