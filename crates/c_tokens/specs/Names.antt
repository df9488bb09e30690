-- What a token is spelled with, and names.
use Rattle.std.specs.Prelude.{◌≡◌, ℕ, Bool, true, false, not, ◌&&◌, ◌==◌, List, filter, slice_range}
use Rattle.c_tokens.specs.declared.kind.Kind.{Kind}
use Rattle.c_tokens.specs.declared.kind.Kind.TheVariants.{Name as Identifier}
use Rattle.c_tokens.specs.declared.token.Token.{Token}

abbrev pub Text : Type 0
Text = List ℕ

abbrev pub Name : Type 0
Name = List ℕ

-- Within a token a backslash and the line end after it join two lines and are no part of it (C11 5.1.1.2, phase 2); no
-- name and no mark has these bytes otherwise.
abbrev pub joins_no_lines : ℕ → Bool
joins_no_lines byte = not (byte == 92) && not (byte == 10)

-- what stands from the one offset up to the other, as far as the text reaches, without what joins lines
unfoldable pub written : Text → ℕ → ℕ → Name
written text start end = filter joins_no_lines (slice_range text start end)

unfoldable pub spelling : Text → Token → Name
spelling text token = written text token.start token.end

-- a name, and no keyword
abbrev pub is_name : Kind → Bool
is_name Identifier = true
is_name _ = false

-- the token is this name
abbrev pub IsNamed : Text → Token → Name → Type 0
IsNamed text token name = (is_name token.kind ≡ true) × (spelling text token ≡ name)
