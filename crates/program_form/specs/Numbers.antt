-- Expressions of type `int`.
use Rattle.std.specs.Prelude.{ℕ, zero, suc, ◌^◌, nat_lt, ℤ, pos, List, Option, Some, None, if◌then◌else◌}
use Rattle.c_tokens.specs.declared.kind.NumType.{NumType}
use Rattle.c_tokens.specs.declared.kind.NumType.TheVariants as numtype
use Rattle.c_grammar.specs.declared.words.Binary.{Binary}
use Rattle.c_grammar.specs.declared.words.Binary.TheVariants as binary
use Rattle.c_grammar.specs.declared.phrases.Expression.{Expression as Syntax, out-Expression}
use Rattle.c_grammar.specs.declared.phrases.Declarator.TheOpen.{Expression-F}
use Rattle.plain_meaning.specs.declared.tree.Operator.{Operator}
use Rattle.plain_meaning.specs.declared.tree.Operator.TheVariants as op
use Rattle.plain_meaning.specs.declared.tree.Expression.{Expression}
use Rattle.plain_meaning.specs.declared.tree.Expression.TheVariants as e
use Rattle.token_texts.specs.Texts.{Texts, number_at}
use Rattle.form_parts.specs.Layers.{ExpressionLayer, ◌>>=◌}
use Rattle.form_parts.specs.Variables.{Variable, number_of}
use Rattle.form_parts.specs.Pointers.{pointer}

abbrev pub operator : Binary → Option Operator
operator binary.Multiply = Some op.Multiply
operator binary.Add = Some op.Add
operator binary.Subtract = Some op.Subtract
operator binary.Less = Some op.Less
operator binary.LessEqual = Some op.LessEqual
operator binary.Equal = Some op.Equal
operator _ = None

-- a constant of type `int`
abbrev pub constant : ℕ → NumType → Option ℤ
constant value numtype.Int = if nat_lt value (2 ^ 31) then Some (pos value) else None
constant value _ = None

module _ (texts : Texts) where
  module _ (inner : Syntax → Option Expression) where
    abbrev pub number_with : List Variable → ExpressionLayer → Option Expression
    number_with scope (Expression-F.Expression::Name place) = number_of scope (number_at texts place.token) >>= λ variable. Some (e.Variable variable)
    number_with scope (Expression-F.Number place value type) = constant value type >>= λ n. Some (e.Number n)
    number_with scope (Expression-F.Expression::Parentheses place within) = inner within
    number_with scope (Expression-F.Binary place operation left right) =
        operator operation >>= λ found. inner left >>= λ a. inner right >>= λ b. Some (e.Binary found a b)
    number_with scope (Expression-F.Index place array index) =
        pointer texts scope array >>= λ p. inner index >>= λ i. Some (e.Element p i)
    number_with scope _ = None

    -- whose parts are read so
    unfoldable pub number_by : List Variable → Syntax → Option Expression
    number_by scope syntax = number_with scope (out-Expression syntax)

  -- A name of a number, a constant, parentheses, an operator, or an element of a pointer, nested no deeper than `depth`.
  unfoldable pub number : ℕ → List Variable → Syntax → Option Expression
  number zero scope syntax = None
  number (suc depth) scope syntax = number_by (number depth scope) scope syntax
