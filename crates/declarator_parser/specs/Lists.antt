-- Lists in braces, with the braces that close or open them (C11 6.7.2).
use Rattle.std.specs.Prelude.{ℕ, List, Option, Some, None, if◌then◌else◌}
use Rattle.c_tokens.specs.declared.kind.Mark.TheVariants as mark
use Rattle.c_tokens.specs.declared.token.Token.{Token}
use Rattle.c_grammar.specs.declared.words.Aggregate.{Aggregate}
use Rattle.grammar_descent.specs.Reading.{Reading, Readers, ◌>>=◌, mark_at, past}
use Rattle.grammar_descent.specs.SpecifierSteps.{FoundSpecifier, closing_at, members_after}

-- the brace that closes a list, with or without a comma before it
abbrev pub closes : List ℕ → List Token → Reading (Unit {0})
closes text ts s = closing_at text ts s.at >>= λ to. Some (tt, record { at = to; scope = s.scope })

-- members, with the brace before them
abbrev pub braced_members : List ℕ → List Token → Readers → Aggregate → Option ℕ → ℕ → Reading FoundSpecifier
braced_members text ts inner which tag start s =
    if mark_at ts s.at mark.LeftBrace then members_after text ts inner which tag start (past s 1) else None
