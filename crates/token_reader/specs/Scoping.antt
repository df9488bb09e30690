-- Names in scope by their numbers, the last declared first.
use Rattle.std.specs.Prelude.{◌≡◌, ℕ, ◌<◌, ◌==◌, Bool, true, false, List, [], ◌∷◌, Option, Some, None, map, reverse, length, slice_get, All, if◌then◌else◌}
use Rattle.std.specs.List.{zip}
use Rattle.token_texts.specs.Texts.{Texts, name_of}
use Rattle.c_grammar.specs.declared.words.NameKind.{NameKind}
use Rattle.c_grammar.specs.declared.words.NameKind.TheVariants as kind
use Rattle.c_grammar.specs.Scope.{Scope}
use Rattle.grammar_descent.specs.Types.{declares_type}
use Rattle.token_reader.specs.declared.parameter_names.DeclaredName.{DeclaredName}

abbrev pub declared_by : ℕ → NameKind → DeclaredName
declared_by name k = record { name = name; kind = k }

-- the scope with these names, of these kinds, the first declared first
abbrev pub scope_of : List ℕ → List NameKind → List DeclaredName
scope_of names kinds = reverse (map (λ (p : ℕ × NameKind). declared_by p.0 p.1) (zip names kinds))

-- the same names as they are spelled
abbrev pub spelled : Texts → List DeclaredName → Scope
spelled texts scope = map (λ (d : DeclaredName). (name_of texts d.name, d.kind)) scope

-- each of them has a spelling
abbrev pub AreSpelled : Texts → List DeclaredName → Type 0
AreSpelled texts scope = All (λ (d : DeclaredName). d.name < length texts.names) scope

-- whether the last declaration of the name declares a type
abbrev pub is_type_in : List DeclaredName → ℕ → Bool
is_type_in [] name = false
is_type_in (d ∷ scope) name = if d.name == name then declares_type d.kind else is_type_in scope name

abbrev pub says_type : Option NameKind → Bool
says_type (Some kind.Type) = true
says_type _ = false

-- whether what was declared at the place, if it is one, is a type
abbrev pub declares_at : List NameKind → Option ℕ → Bool
declares_at kinds (Some place) = says_type (slice_get kinds place)
declares_at kinds None = false

abbrev pub types_of : List ℕ → List DeclaredName
types_of names = map (λ (n : ℕ). declared_by n kind.Type) names

-- the numbers of the predefined names, which are the first of every table
abbrev pub start_numbers : List ℕ
start_numbers = 0 ∷ 1 ∷ 2 ∷ 3 ∷ 4 ∷ 5 ∷ 6 ∷ 7 ∷ 8 ∷ 9 ∷ []
