-- Scopes, and what names mean in them. A name is a number here.
use Rattle.std.specs.Prelude.{ℕ, List, [], ◌∷◌, ◌++◌, length, take, Option}
use Rattle.c_types.specs.Table.{Types}
use Rattle.scoped_meanings.specs.Meanings.{meaning, meaning_here}
use Rattle.static_rules.specs.declared.states.State.{State}
use Rattle.static_rules.specs.declared.states.Symbol.{Symbol}
use Rattle.static_rules.specs.declared.states.TagSymbol.{TagSymbol}
use Rattle.static_rules.specs.declared.states.Where.{Where}

-- ---- scopes

abbrev pub on_line : Where → ℕ → Where
on_line w line = record w { line = line }

-- a new scope begins (C11 6.2.1)
abbrev pub new_scope : Where → State → Where
new_scope w s = record w { names_before = length s.symbols; tags_before = length s.tags }

-- what was declared in a scope ends with it
abbrev pub closed : State → State → State
closed before s = record s { symbols = take (length before.symbols) s.symbols; tags = take (length before.tags) s.tags }

-- ---- what names mean

abbrev pub symbol_of : State → ℕ → Option Symbol
symbol_of s name = meaning s.symbols name

abbrev pub symbol_here : Where → State → ℕ → Option Symbol
symbol_here w s name = meaning_here w.names_before s.symbols name

abbrev pub tag_of : State → ℕ → Option TagSymbol
tag_of s name = meaning s.tags name

abbrev pub tag_here : Where → State → ℕ → Option TagSymbol
tag_here w s name = meaning_here w.tags_before s.tags name

abbrev pub with_symbol : State → ℕ → Symbol → State
with_symbol s name symbol = record s { symbols = s.symbols ++ (name, symbol) ∷ [] }

abbrev pub with_tag : State → ℕ → TagSymbol → State
with_tag s name symbol = record s { tags = s.tags ++ (name, symbol) ∷ [] }

abbrev pub with_types : State → Types → State
with_types s types = record s { types = types }
