-- What specifiers do is known from them alone (C11 6.7, 6.7.8).
use Rattle.std.specs.Prelude.{ℕ, Bool, true, false, List, map, Result, Ok, Err}
use Rattle.c_grammar.specs.declared.words.BasicWord.{BasicWord}
use Rattle.c_grammar.specs.declared.phrases.Specifier.{Specifier}
use Rattle.c_grammar.specs.declared.phrases.Specifier.TheVariants as specifier
use Rattle.c_grammar.specs.contracts.words.BasicWord.{the_type}
use Rattle.c_grammar.specs.Words.{Role, names_types, modifies, spells, is_type, storage_role}
use Rattle.token_reader.specs.declared.error.ParseError.{ParseError}
use denote.Enum.Bare.{sameb}

abbrev pub role_of : Specifier → Role
role_of (specifier.Storage place which) = storage_role which
role_of (specifier.Qualifier place which) = modifies
role_of (specifier.Basic place which) = spells which
role_of _ = is_type

abbrev pub roles_of : List Specifier → List Role
roles_of words = map role_of words

-- whether a specifier with this role is the word, is a whole type, or makes what is declared a type
abbrev pub spells_word : BasicWord → Role → Bool
spells_word which (spells found) = sameb the_type which found
spells_word which _ = false

abbrev pub is_whole : Role → Bool
is_whole is_type = true
is_whole _ = false

abbrev pub makes_types : Role → Bool
makes_types names_types = true
makes_types _ = false

-- a word of a type, or a whole type
abbrev pub is_of_type : Role → Bool
is_of_type (spells which) = true
is_of_type is_type = true
is_of_type _ = false

abbrev pub is_basic : Role → Bool
is_basic (spells which) = true
is_basic _ = false

-- what is read of a specifier, with what it does, and of several
abbrev pub with_role : Result (Specifier × ℕ) ParseError → Result (Specifier × Role × ℕ) ParseError
with_role (Ok f) = Ok (f.0, role_of f.0, f.1)
with_role (Err e) = Err e

abbrev pub with_roles : Result (List Specifier × ℕ) ParseError → Result (List Specifier × List Role × ℕ) ParseError
with_roles (Ok f) = Ok (f.0, roles_of f.0, f.1)
with_roles (Err e) = Err e
