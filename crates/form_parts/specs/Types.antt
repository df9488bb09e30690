-- What the form has of types: `void` of a function, `int`, and pointers to `int` and to `char`. Each is one word alone.
use Rattle.std.specs.Prelude.{ℕ, ◌==◌, Bool, true, false, length, Option, Some, None, if◌then◌else◌}
use Rattle.c_grammar.specs.declared.words.BasicWord.{BasicWord}
use Rattle.c_grammar.specs.declared.words.BasicWord.TheVariants as word
use Rattle.c_grammar.specs.declared.phrases.Specifier.{Specifier, out-Specifier}
use Rattle.c_grammar.specs.declared.phrases.Declarator.TheOpen.{Specifier-F, Declarator-F}
use Rattle.c_grammar.specs.declared.phrases.Specs.{Specs, out-Specs}
use Rattle.c_grammar.specs.declared.phrases.Declarator.{Declarator, out-Declarator}
use Rattle.c_grammar.specs.declared.phrases.TypePhrase.{TypePhrase, out-TypePhrase}
use Rattle.plain_meaning.specs.declared.tree.Target.{Target}
use Rattle.plain_meaning.specs.declared.tree.Target.TheVariants as to
use Rattle.token_texts.specs.Texts.{Texts, number_at}
use Rattle.form_parts.specs.Layers.{SpecifierLayer, DeclaratorLayer, ◌>>=◌, only}

abbrev pub word_at : SpecifierLayer → Option BasicWord
word_at (Specifier-F.Basic place word) = Some word
word_at _ = None

unfoldable pub word_of : Specifier → Option BasicWord
word_of specifier = word_at (out-Specifier specifier)

-- the word that the specifiers are
unfoldable pub lone_word : Specs → Option BasicWord
lone_word specs = only (out-Specs specs).words >>= word_of

abbrev pub target_by : BasicWord → Option Target
target_by word.Int = Some to.Int
target_by word.Char = Some to.Char
target_by _ = None

-- what a pointer points to that is declared with the specifiers
unfoldable pub target : Specs → Option Target
target specs = lone_word specs >>= target_by

abbrev pub is_void_by : Option BasicWord → Bool
is_void_by (Some word.Void) = true
is_void_by _ = false

unfoldable pub is_void : Specs → Bool
is_void specs = is_void_by (lone_word specs)

abbrev pub name_at : Texts → DeclaratorLayer → Option ℕ
name_at texts (Declarator-F.Declarator::Name place) = Some (number_at texts place.token)
name_at texts _ = None

-- the name that a declarator is
unfoldable pub declared_name : Texts → Declarator → Option ℕ
declared_name texts declarator = name_at texts (out-Declarator declarator)

abbrev pub after_star_at : DeclaratorLayer → Option Declarator
after_star_at (Declarator-F.Pointer place qualifiers inner) = if length qualifiers == 0 then Some inner else None
after_star_at _ = None

-- what stands after the `*` of a declarator, if no qualifiers do
unfoldable pub after_star : Declarator → Option Declarator
after_star declarator = after_star_at (out-Declarator declarator)

abbrev pub is_unnamed_at : DeclaratorLayer → Bool
is_unnamed_at Declarator-F.Unnamed = true
is_unnamed_at _ = false

unfoldable pub is_unnamed : Declarator → Bool
is_unnamed declarator = is_unnamed_at (out-Declarator declarator)

-- what a type points to that is `int *` or `char *`
unfoldable pub pointer_target : TypePhrase → Option Target
pointer_target type =
    after_star (out-TypePhrase type).declarator >>= λ inner. if is_unnamed inner then target (out-TypePhrase type).specs else None
