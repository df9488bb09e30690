-- Names of variables, and what stands where a pointer is given.
use Rattle.std.specs.Prelude.{ℕ, nat_lt, Bool, true, false, List, Option, Some, None, if◌then◌else◌, codes}
use Rattle.std.specs.Str.{bytes_eq}
use Rattle.c_tokens.specs.declared.kind.NumType.{NumType}
use Rattle.c_tokens.specs.declared.kind.NumType.TheVariants as numtype
use Rattle.c_grammar.specs.declared.phrases.Expression.{Expression, out-Expression}
use Rattle.c_grammar.specs.declared.phrases.Declarator.TheOpen.{Expression-F}
use Rattle.plain_meaning.specs.declared.tree.Target.{Target}
use Rattle.plain_meaning.specs.declared.tree.Target.TheVariants as to
use Rattle.plain_meaning.specs.declared.tree.Pointer.{Pointer}
use Rattle.token_texts.specs.Texts.{Texts, number_at, name_of}
use Rattle.form_parts.specs.Layers.{ExpressionLayer, ◌>>=◌, only}
use Rattle.form_parts.specs.Variables.{Variable, pointer_of}
use Rattle.form_parts.specs.Types.{pointer_target}

abbrev pub is_same_target : Target → Target → Bool
is_same_target to.Int to.Int = true
is_same_target to.Char to.Char = true
is_same_target _ _ = false

abbrev pub size_by : ℕ → NumType → Option ℕ
size_by size numtype.Int = if nat_lt size 32 then Some size else None
size_by size _ = None

abbrev pub size_at : ExpressionLayer → Option ℕ
size_at (Expression-F.Number place size type) = size_by size type
size_at _ = None

-- a number of bytes from 0 to 31
unfoldable pub size : Expression → Option ℕ
size e = size_at (out-Expression e)

module _ (texts : Texts) where
  abbrev pub name_at : ExpressionLayer → Option ℕ
  name_at (Expression-F.Expression::Name place) = Some (number_at texts place.token)
  name_at _ = None

  -- the name that an expression is
  unfoldable pub lone_name : Expression → Option ℕ
  lone_name e = name_at (out-Expression e)

  -- the pointer that an expression names
  unfoldable pub pointer : List Variable → Expression → Option Pointer
  pointer scope e = lone_name e >>= pointer_of scope

  abbrev pub cast_at : List Variable → Target → ExpressionLayer → Option Pointer
  cast_at scope target (Expression-F.Cast place type operand) =
      pointer_target type >>= λ found. if is_same_target found target then pointer scope operand else None
  cast_at scope target _ = None

  -- `(TARGET *)NAME`: the pointer that is converted
  unfoldable pub cast : List Variable → Target → Expression → Option Pointer
  cast scope target e = cast_at scope target (out-Expression e)

  abbrev pub malloc_at : ExpressionLayer → Option ℕ
  malloc_at (Expression-F.Call place function arguments) = lone_name function >>= λ name.
      if bytes_eq (name_of texts name) (codes "malloc") then only arguments >>= size else None
  malloc_at _ = None

  -- `malloc(SIZE)`: the size
  unfoldable pub malloc : Expression → Option ℕ
  malloc e = malloc_at (out-Expression e)
