-- What stands after a `*` or after a declarator (C11 6.7.6).
use Rattle.std.specs.Prelude.{ℕ, List, Option, Some, None, if◌then◌else◌}
use Rattle.c_tokens.specs.declared.kind.Keyword.TheVariants as word
use Rattle.c_tokens.specs.declared.kind.Mark.TheVariants as mark
use Rattle.c_tokens.specs.declared.token.Token.{Token}
use Rattle.c_grammar.specs.declared.words.Qualifier.{Qualifier}
use Rattle.c_grammar.specs.declared.words.Qualifier.TheVariants as qualifier
use Rattle.grammar_descent.specs.Reading.{Reading, FoundDeclarator, Readers, word_at, mark_at}
use Rattle.token_reader.specs.declared.parameter_names.DeclaredName.{DeclaredName}
use Rattle.declarator_parser.specs.declared.declarators.Part.{Part}
use Rattle.declarator_parser.specs.declared.declarators.Part.TheVariants as part
use Rattle.grammar_descent.specs.DeclaratorSteps.{array_after, function_after}

-- the qualifier that stands there
unfoldable pub qualifier_at : List Token → ℕ → Option Qualifier
qualifier_at ts at =
    if word_at ts at word.Const then Some qualifier.Const else if word_at ts at word.Restrict then Some qualifier.Restrict else None

-- the part of a declarator that begins there
unfoldable pub part_at : List Token → ℕ → Option Part
part_at ts at =
    if mark_at ts at mark.LeftBracket then Some part.Array else if mark_at ts at mark.LeftParen then Some part.Function else None

abbrev pub part_after : Part → List ℕ → List Token → Readers → ℕ → ℕ → FoundDeclarator → Reading FoundDeclarator
part_after part.Array text ts inner depth start f s = array_after text ts inner depth start f s
part_after part.Function text ts inner depth start f s = function_after text ts inner depth start f s

-- of the names that two lists of parameters declare, those of the first list
abbrev pub names_of_first : Option (List DeclaredName) → List DeclaredName → List DeclaredName
names_of_first (Some earlier) own = earlier
names_of_first None own = own
