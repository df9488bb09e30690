-- What stands after a part of a list in braces.
use Rattle.std.specs.Prelude.{◌+◌, Bool, true, false, List, Some, if◌then◌else◌}
use Rattle.c_tokens.specs.declared.kind.Mark.TheVariants as mark
use Rattle.c_tokens.specs.declared.kind.Kind.TheVariants as k
use Rattle.c_tokens.specs.declared.token.Token.{Token}
use Rattle.grammar_descent.specs.Reading.{Reading, when, mark_at, past}

-- Whether a brace closes the list there, with or without a comma before it; else there is a comma (C11 6.7.9).
abbrev pub list_end : List Token → Reading Bool
list_end ts s =
    if mark_at ts s.at mark.RightBrace then Some (true, past s 1) else
    when ts s.at (k.Mark mark.Comma) (if mark_at ts (s.at + 1) mark.RightBrace then Some (true, past s 2) else Some (false, past s 1))
