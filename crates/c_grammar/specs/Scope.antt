-- Which names are types (C11 6.2.1, 6.7.8).
use Rattle.std.specs.Prelude.{◌≢◌, List, [], ◌∷◌, ◌++◌, Option, Some, None, map}
use Rattle.c_tokens.specs.Names.{Name}
use Rattle.token_texts.specs.Names.{predefined}
use Rattle.c_grammar.specs.declared.words.NameKind.{NameKind}
use Rattle.c_grammar.specs.declared.words.NameKind.TheVariants as declares
use Rattle.c_grammar.specs.Words.{Role, names_types, modifies, spells, is_type}

-- What is declared and in scope, the last one first. A scope ends by going back to what stood before it.
abbrev pub Scope : Type 0
Scope = List (Name × NameKind)

-- The last declaration of the name declares a type.
pub data IsType : Scope → Name → Type 0 where
  declared : {scope : Scope} {name : Name} → IsType ((name, declares.Type) ∷ scope) name
  before : {scope : Scope} {name other : Name} {kind : NameKind} → other ≢ name → IsType scope name → IsType ((other, kind) ∷ scope) name

-- what a name is that is declared after specifiers with these roles: a type where `typedef` is among them
abbrev pub declared_kind : List Role → NameKind
declared_kind [] = declares.Ordinary
declared_kind (names_types ∷ roles) = declares.Type
declared_kind (modifies ∷ roles) = declared_kind roles
declared_kind (spells w ∷ roles) = declared_kind roles
declared_kind (is_type ∷ roles) = declared_kind roles

abbrev pub types : List Name → Scope
types names = map (λ (n : Name). (n, declares.Type)) names

abbrev pub start : Scope
start = types predefined

-- A declarator may have lists of parameters after its name. Of these the first belongs to the function, if it declares one:
-- what that one declares.
abbrev pub first_of : Option Scope → Scope → Option Scope
first_of None parameters = Some parameters
first_of (Some earlier) parameters = Some earlier

-- the scope of a function's block, which its parameters share
abbrev pub with_parameters : Option Scope → Scope → Scope
with_parameters None scope = scope
with_parameters (Some parameters) scope = parameters ++ scope
