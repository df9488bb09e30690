-- The names that stand in every text, in file scope (C11 7.17 to 7.24).
use Rattle.std.specs.Prelude.{ℕ, ◌+◌, Bool, true, false, ◌||◌, List, [], ◌∷◌, ◌++◌, Option, Some, None, is_some, Result, Ok, codes, if◌then◌else◌}
use Rattle.std.specs.Str.{bytes_eq}
use Rattle.c_tokens.specs.Names.{Name}
use Rattle.static_rules.specs.declared.symbols.BuiltIn.{BuiltIn}
use Rattle.static_rules.specs.declared.symbols.BuiltIn.TheVariants as given
use Rattle.static_rules.specs.declared.faults.CheckKind.TheVariants as why
use Rattle.static_rules.specs.Answers.{Answer, fault}
use Rattle.static_rules.specs.Source.{Source, spelled}
use Rattle.static_rules.specs.States.{symbol_here, with_symbol}
use Rattle.static_rules.specs.declared.states.State.{State}
use Rattle.static_rules.specs.declared.states.Made.TheVariants as m
use Rattle.static_rules.specs.declared.states.Symbol.TheVariants as means
use Rattle.static_rules.specs.declared.states.Symbol.{Symbol}
use Rattle.static_rules.specs.declared.states.Where.{Where}

abbrev pub Table : Type 0 → Type 0
Table A = List (Name × A)

abbrev pub entry_of : {A : Type 0} → Table A → Name → Option A
entry_of [] name = None
entry_of (entry ∷ rest) name = if bytes_eq entry.0 name then Some entry.1 else entry_of rest name

abbrev pub functions : Table BuiltIn
functions =
    (codes "malloc", given.Malloc) ∷ (codes "calloc", given.Calloc) ∷ (codes "free", given.Free)
    ∷ (codes "memcpy", given.Memcpy) ∷ (codes "memset", given.Memset) ∷ (codes "strlen", given.Strlen)
    ∷ (codes "printf", given.Printf) ∷ (codes "puts", given.Puts) ∷ (codes "putchar", given.Putchar)
    ∷ (codes "atomic_fetch_add", given.AtomicFetchAdd) ∷ []

-- the types that the typedefs of C11 7.19 and 7.20.1.1 are here
abbrev pub typedefs : Table ℕ
typedefs =
    (codes "size_t", 9) ∷ (codes "ptrdiff_t", 8)
    ∷ (codes "int8_t", 2) ∷ (codes "int16_t", 4) ∷ (codes "int32_t", 6) ∷ (codes "int64_t", 8)
    ∷ (codes "uint8_t", 3) ∷ (codes "uint16_t", 5) ∷ (codes "uint32_t", 7) ∷ (codes "uint64_t", 9) ∷ []

abbrev pub or_else : {A : Type 0} → Option A → Option A → Option A
or_else (Some x) other = Some x
or_else None other = other

abbrev pub as_function : Option BuiltIn → Option Symbol
as_function (Some which) = Some (means.Given which)
as_function None = None

abbrev pub as_typedef : Option ℕ → Option Symbol
as_typedef (Some kind) = Some (means.Typedef (m.Known kind))
as_typedef None = None

abbrev pub as_null : Name → Option Symbol
as_null name = if bytes_eq (codes "NULL") name then Some means.Null else None

-- what a name means in every text
unfoldable pub predefined : Name → Option Symbol
predefined name = or_else (as_function (entry_of functions name)) (or_else (as_typedef (entry_of typedefs name)) (as_null name))

abbrev pub with_entry : ℕ → List (ℕ × Symbol) → Option Symbol → List (ℕ × Symbol)
with_entry number rest (Some symbol) = (number, symbol) ∷ rest
with_entry number rest None = rest

-- the predefined ones of the names of a text, which have these numbers
abbrev pub predefined_from : ℕ → List Name → List (ℕ × Symbol)
predefined_from number [] = []
predefined_from number (name ∷ rest) = with_entry number (predefined_from (number + 1) rest) (predefined name)

unfoldable pub predefined_of : Source → List (ℕ × Symbol)
predefined_of source = predefined_from 0 source.texts.names

-- the name of a function that each text has, which no scope may declare
abbrev pub is_given : Source → ℕ → Bool
is_given source name = is_some (entry_of functions (spelled source name))

abbrev pub declared_if : Bool → ℕ → State → ℕ → Symbol → Answer State
declared_if true here s name symbol = fault why.Redefined here
declared_if false here s name symbol = Ok (with_symbol s name symbol)

-- A name is new in the innermost scope, and is no such function's (C11 6.7p3).
unfoldable pub declared : Source → Where → ℕ → State → ℕ → Symbol → Answer State
declared source w here s name symbol = declared_if (is_given source name || is_some (symbol_here w s name)) here s name symbol
