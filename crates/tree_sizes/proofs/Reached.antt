-- The bounds are reached: `int;` is a unit of two tokens and five nodes, `int` the name of a type of one token and four nodes.
use Rattle.std.proofs.Common.{◌≡◌, ℕ, ◌+◌, ◌*◌, List, [], ◌∷◌, length, false, refl, arith}
use Rattle.std.specs.Prelude.{codes}
use Rattle.c_tokens.specs.declared.kind.Keyword.TheVariants as word
use Rattle.c_tokens.specs.declared.kind.Mark.TheVariants as mark
use Rattle.c_tokens.specs.declared.kind.Kind.{Kind}
use Rattle.c_tokens.specs.declared.kind.Kind.TheVariants as k
use Rattle.c_tokens.specs.declared.token.Token.{Token}
use Rattle.c_grammar.specs.declared.words.BasicWord.TheVariants as b
use Rattle.c_grammar.specs.declared.words.BasicType.TheVariants as t
use Rattle.c_grammar.specs.Tokens.{kind_at, place_at}
use Rattle.c_grammar.specs.Words.{Spells, HoldsOneType, spelled, spells}
use Rattle.c_grammar.specs.Phrases as phrase
use Rattle.c_grammar.specs.Phrases.{IsTypeName}
use Rattle.c_grammar.specs.Initialisers as init
use Rattle.c_grammar.specs.Units as whole
use Rattle.c_grammar.specs.Limits.{max_depth}
use Rattle.c_grammar.specs.Scope.{start}
use Rattle.c_grammar.specs.Units.{AreExternals}
use Rattle.tree_sizes.specs.Sizes.{nodes_of_unit, nodes_of_type_phrase}
use Rattle.tree_sizes.proofs.Cases.{no_name_unit, no_name, int_phrase, an_int_phrase}

abbrev token : Kind → ℕ → ℕ → Token
token kind start end = record { kind = kind; start = start; end = end; line = 1; first = false }

int_is_int : Spells (b.Int ∷ []) t.Int
int_is_int = record { row = b.Int ∷ []; stands = (10, omega arith, refl); is = record { moves = []; below = tt; is = refl } }

an_int : HoldsOneType (spells b.Int ∷ [])
an_int = spelled int_is_int refl

abbrev unit_tokens : List Token
unit_tokens = token (k.Word word.Int) 0 3 ∷ token (k.Mark mark.Semicolon) 3 4 ∷ []

int_unit : AreExternals (codes "int;") unit_tokens start 0 2 no_name_unit.items
unfolding kind_at place_at
int_unit =
    whole.declaration (init.of_no_name (phrase.specs (phrase.more_specifiers (phrase.basic b.Int refl) phrase.no_specifiers) an_int) refl) whole.none

unit_reaches : nodes_of_unit no_name_unit ≡ 2 * length unit_tokens + 1
unit_reaches = no_name

abbrev type_tokens : List Token
type_tokens = token (k.Word word.Int) 0 3 ∷ []

int_type : IsTypeName (codes "int") type_tokens max_depth start start 0 1 int_phrase
unfolding kind_at place_at
int_type = phrase.type_name (phrase.specs (phrase.more_specifiers (phrase.basic b.Int refl) phrase.no_specifiers) an_int) phrase.no_name

type_reaches : nodes_of_type_phrase int_phrase ≡ 2 * length type_tokens + 2
type_reaches = an_int_phrase
