-- Kinds are compared.
use Rattle.std.specs.Prelude.{Bool, true, false, ◌&&◌, ◌==◌}
use Rattle.std.specs.Ordering.{int_eq}
use Rattle.c_tokens.specs.declared.kind.Kind.{Kind}
use Rattle.c_tokens.specs.declared.kind.Kind.TheVariants.{Name, Word, Number, Char, Str, Mark as Punctuator}
use Rattle.c_tokens.specs.contracts.kind.Keyword.{the_type as keywords}
use Rattle.c_tokens.specs.contracts.kind.Mark.{the_type as marks}
use Rattle.c_tokens.specs.contracts.kind.NumType.{the_type as types}
use denote.Enum.Bare.{sameb}

unfoldable pub same_kind : Kind → Kind → Bool
same_kind Name Name = true
same_kind (Word a) (Word b) = sameb keywords a b
same_kind (Number m s) (Number n t) = (m == n) && sameb types s t
same_kind (Char a) (Char b) = int_eq a b
same_kind Str Str = true
same_kind (Punctuator a) (Punctuator b) = sameb marks a b
same_kind _ _ = false
