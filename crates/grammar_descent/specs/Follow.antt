-- Where a phrase ends: what cannot stand after it as a part of it.
use Rattle.std.specs.Prelude.{ℕ, Bool, true, false, Option, Some, None, nat_lt, not, if◌then◌else◌}
use Rattle.c_tokens.specs.declared.kind.Keyword.{Keyword}
use Rattle.c_tokens.specs.declared.kind.Keyword.TheVariants as word
use Rattle.c_tokens.specs.declared.kind.Mark.{Mark}
use Rattle.c_tokens.specs.declared.kind.Mark.TheVariants as mark
use Rattle.c_tokens.specs.declared.kind.Kind.{Kind}
use Rattle.c_tokens.specs.declared.kind.Kind.TheVariants as k
use Rattle.c_grammar.specs.declared.words.Level.TheVariants as of
use Rattle.c_grammar.specs.Operators.{tightness}

-- how tightly the expression binds that goes on with the mark, if one does
abbrev pub mark_level : Mark → Option ℕ
mark_level mark.Comma = Some (tightness of.Comma)
mark_level mark.Equal = Some (tightness of.Assignment)
mark_level mark.StarEqual = Some (tightness of.Assignment)
mark_level mark.SlashEqual = Some (tightness of.Assignment)
mark_level mark.PercentEqual = Some (tightness of.Assignment)
mark_level mark.PlusEqual = Some (tightness of.Assignment)
mark_level mark.MinusEqual = Some (tightness of.Assignment)
mark_level mark.ShiftLeftEqual = Some (tightness of.Assignment)
mark_level mark.ShiftRightEqual = Some (tightness of.Assignment)
mark_level mark.AndEqual = Some (tightness of.Assignment)
mark_level mark.CaretEqual = Some (tightness of.Assignment)
mark_level mark.OrEqual = Some (tightness of.Assignment)
mark_level mark.Question = Some (tightness of.Conditional)
mark_level mark.OrOr = Some (tightness of.LogicalOr)
mark_level mark.AndAnd = Some (tightness of.LogicalAnd)
mark_level mark.Or = Some (tightness of.Or)
mark_level mark.Caret = Some (tightness of.ExclusiveOr)
mark_level mark.And = Some (tightness of.And)
mark_level mark.EqualEqual = Some (tightness of.Equality)
mark_level mark.NotEqual = Some (tightness of.Equality)
mark_level mark.Less = Some (tightness of.Relational)
mark_level mark.Greater = Some (tightness of.Relational)
mark_level mark.LessEqual = Some (tightness of.Relational)
mark_level mark.GreaterEqual = Some (tightness of.Relational)
mark_level mark.ShiftLeft = Some (tightness of.Shift)
mark_level mark.ShiftRight = Some (tightness of.Shift)
mark_level mark.Plus = Some (tightness of.Additive)
mark_level mark.Minus = Some (tightness of.Additive)
mark_level mark.Star = Some (tightness of.Multiplicative)
mark_level mark.Slash = Some (tightness of.Multiplicative)
mark_level mark.Percent = Some (tightness of.Multiplicative)
mark_level mark.LeftBracket = Some (tightness of.Postfix)
mark_level mark.LeftParen = Some (tightness of.Postfix)
mark_level mark.Dot = Some (tightness of.Postfix)
mark_level mark.Arrow = Some (tightness of.Postfix)
mark_level mark.PlusPlus = Some (tightness of.Postfix)
mark_level mark.MinusMinus = Some (tightness of.Postfix)
mark_level _ = None

abbrev pub kind_level : Option Kind → Option ℕ
kind_level (Some (k.Mark m)) = mark_level m
kind_level _ = None

-- string literals in a row are one node, so a string does not end one
abbrev pub is_string : Option Kind → Bool
is_string (Some k.Str) = true
is_string _ = false

abbrev pub is_below : Option ℕ → ℕ → Bool
is_below (Some t) level = nat_lt t level
is_below None level = true

-- An expression of this level ends before such a token.
abbrev pub ends : ℕ → Option Kind → Bool
ends level kind = if is_string kind then false else is_below (kind_level kind) level

-- the words that begin a declaration specifier (C11 6.7.1 to 6.7.4)
abbrev pub is_specifier_word : Keyword → Bool
is_specifier_word word.Typedef = true
is_specifier_word word.Extern = true
is_specifier_word word.Static = true
is_specifier_word word.Register = true
is_specifier_word word.Auto = true
is_specifier_word word.Const = true
is_specifier_word word.Restrict = true
is_specifier_word word.Inline = true
is_specifier_word word.Void = true
is_specifier_word word.Char = true
is_specifier_word word.Short = true
is_specifier_word word.Int = true
is_specifier_word word.Long = true
is_specifier_word word.Signed = true
is_specifier_word word.Unsigned = true
is_specifier_word word.Struct = true
is_specifier_word word.Union = true
is_specifier_word word.Enum = true
is_specifier_word _ = false

-- Specifiers that hold a type end before such a token. After a tag a `{` begins a list.
abbrev pub ends_specs : Option Kind → Bool
ends_specs (Some (k.Word w)) = not (is_specifier_word w)
ends_specs (Some (k.Mark mark.LeftBrace)) = false
ends_specs _ = true

-- A declarator ends before such a token. After a `*` stand qualifiers.
abbrev pub ends_declarator : Option Kind → Bool
ends_declarator (Some k.Name) = false
ends_declarator (Some (k.Word word.Const)) = false
ends_declarator (Some (k.Word word.Restrict)) = false
ends_declarator (Some (k.Mark mark.Star)) = false
ends_declarator (Some (k.Mark mark.LeftBracket)) = false
ends_declarator (Some (k.Mark mark.LeftParen)) = false
ends_declarator _ = true
