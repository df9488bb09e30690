-- Where specifiers begin, and which names are types, as tests.
use Rattle.std.specs.Prelude.{ℕ, Bool, true, false, List, [], ◌∷◌, Option, Some, if◌then◌else◌}
use Rattle.std.specs.Str.{bytes_eq}
use Rattle.c_tokens.specs.declared.kind.Kind.{Kind}
use Rattle.c_tokens.specs.declared.kind.Kind.TheVariants as k
use Rattle.c_tokens.specs.declared.token.Token.{Token}
use Rattle.c_tokens.specs.Names.{Name}
use Rattle.token_texts.specs.Names.{name_at}
use Rattle.c_grammar.specs.declared.words.NameKind.{NameKind}
use Rattle.c_grammar.specs.declared.words.NameKind.TheVariants as declares
use Rattle.c_grammar.specs.Tokens.{kind_at}
use Rattle.c_grammar.specs.Scope.{Scope}
use Rattle.grammar_descent.specs.Follow.{is_specifier_word}

abbrev pub declares_type : NameKind → Bool
declares_type declares.Type = true
declares_type declares.Ordinary = false

-- whether the last declaration of the name declares a type
unfoldable pub names_a_type : Scope → Name → Bool
names_a_type [] name = false
names_a_type (d ∷ scope) name = if bytes_eq d.0 name then declares_type d.1 else names_a_type scope name

-- whether a token of the kind begins specifiers, where its name, if it is one, is a type or not
abbrev pub begins_specs_by : Option Kind → Bool → Bool
begins_specs_by (Some (k.Word w)) known = is_specifier_word w
begins_specs_by (Some k.Name) known = known
begins_specs_by _ known = false

-- whether specifiers begin at this token: a word of theirs stands there, or a name that is a type
unfoldable pub begins_specs : List ℕ → List Token → Scope → ℕ → Bool
begins_specs text ts scope at = begins_specs_by (kind_at ts at) (names_a_type scope (name_at text ts at))
