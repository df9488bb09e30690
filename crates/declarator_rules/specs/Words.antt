-- Basic words among others.
use Rattle.std.specs.Prelude.{Bool, false, List}
use Rattle.c_grammar.specs.declared.words.BasicWord.{BasicWord}
use Rattle.c_grammar.specs.declared.words.BasicWord.TheVariants as word
use Rattle.declaration_rules.specs.Specifiers.{has, is_void, is_char, is_short, is_long, is_unsigned}

-- of the words that change a type; `int` and `signed` change none
abbrev pub is_same_word : BasicWord → BasicWord → Bool
is_same_word word.Void other = is_void other
is_same_word word.Char other = is_char other
is_same_word word.Short other = is_short other
is_same_word word.Long other = is_long other
is_same_word word.Unsigned other = is_unsigned other
is_same_word word.Int other = false
is_same_word word.Signed other = false

abbrev pub has_word : BasicWord → List BasicWord → Bool
has_word one words = has (λ other. is_same_word one other) words
