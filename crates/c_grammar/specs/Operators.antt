-- How operators are written, and how tightly they bind (C11 6.5).
use Rattle.std.specs.Prelude.{ℕ}
use Rattle.c_tokens.specs.declared.kind.Mark.{Mark}
use Rattle.c_tokens.specs.declared.kind.Mark.TheVariants as mark
use Rattle.c_grammar.specs.declared.words.Level.{Level}
use Rattle.c_grammar.specs.declared.words.Level.TheVariants as of
use Rattle.c_grammar.specs.declared.words.Binary.{Binary}
use Rattle.c_grammar.specs.declared.words.Binary.TheVariants as binary
use Rattle.c_grammar.specs.declared.words.Assignment.{Assignment}
use Rattle.c_grammar.specs.declared.words.Assignment.TheVariants as assignment
use Rattle.c_grammar.specs.declared.words.Prefix.{Prefix}
use Rattle.c_grammar.specs.declared.words.Prefix.TheVariants as prefix
use Rattle.c_grammar.specs.declared.words.Postfix.{Postfix}
use Rattle.c_grammar.specs.declared.words.Postfix.TheVariants as postfix
use Rattle.c_grammar.specs.declared.words.Selection.{Selection}
use Rattle.c_grammar.specs.declared.words.Selection.TheVariants as selection

-- how tightly an expression of the level binds
abbrev pub tightness : Level → ℕ
tightness of.Comma = 0
tightness of.Assignment = 1
tightness of.Conditional = 2
tightness of.LogicalOr = 3
tightness of.LogicalAnd = 4
tightness of.Or = 5
tightness of.ExclusiveOr = 6
tightness of.And = 7
tightness of.Equality = 8
tightness of.Relational = 9
tightness of.Shift = 10
tightness of.Additive = 11
tightness of.Multiplicative = 12
tightness of.Cast = 13
tightness of.Unary = 14
tightness of.Postfix = 15
tightness of.Primary = 16

abbrev pub binary_level : Binary → Level
binary_level binary.LogicalOr = of.LogicalOr
binary_level binary.LogicalAnd = of.LogicalAnd
binary_level binary.Or = of.Or
binary_level binary.ExclusiveOr = of.ExclusiveOr
binary_level binary.And = of.And
binary_level binary.Equal = of.Equality
binary_level binary.NotEqual = of.Equality
binary_level binary.Less = of.Relational
binary_level binary.Greater = of.Relational
binary_level binary.LessEqual = of.Relational
binary_level binary.GreaterEqual = of.Relational
binary_level binary.ShiftLeft = of.Shift
binary_level binary.ShiftRight = of.Shift
binary_level binary.Add = of.Additive
binary_level binary.Subtract = of.Additive
binary_level binary.Multiply = of.Multiplicative
binary_level binary.Divide = of.Multiplicative
binary_level binary.Remainder = of.Multiplicative

abbrev pub rank : Binary → ℕ
rank op = tightness (binary_level op)

abbrev pub binary_mark : Binary → Mark
binary_mark binary.LogicalOr = mark.OrOr
binary_mark binary.LogicalAnd = mark.AndAnd
binary_mark binary.Or = mark.Or
binary_mark binary.ExclusiveOr = mark.Caret
binary_mark binary.And = mark.And
binary_mark binary.Equal = mark.EqualEqual
binary_mark binary.NotEqual = mark.NotEqual
binary_mark binary.Less = mark.Less
binary_mark binary.Greater = mark.Greater
binary_mark binary.LessEqual = mark.LessEqual
binary_mark binary.GreaterEqual = mark.GreaterEqual
binary_mark binary.ShiftLeft = mark.ShiftLeft
binary_mark binary.ShiftRight = mark.ShiftRight
binary_mark binary.Add = mark.Plus
binary_mark binary.Subtract = mark.Minus
binary_mark binary.Multiply = mark.Star
binary_mark binary.Divide = mark.Slash
binary_mark binary.Remainder = mark.Percent

abbrev pub assignment_mark : Assignment → Mark
assignment_mark assignment.Plain = mark.Equal
assignment_mark assignment.Multiply = mark.StarEqual
assignment_mark assignment.Divide = mark.SlashEqual
assignment_mark assignment.Remainder = mark.PercentEqual
assignment_mark assignment.Add = mark.PlusEqual
assignment_mark assignment.Subtract = mark.MinusEqual
assignment_mark assignment.ShiftLeft = mark.ShiftLeftEqual
assignment_mark assignment.ShiftRight = mark.ShiftRightEqual
assignment_mark assignment.And = mark.AndEqual
assignment_mark assignment.ExclusiveOr = mark.CaretEqual
assignment_mark assignment.Or = mark.OrEqual

abbrev pub prefix_mark : Prefix → Mark
prefix_mark prefix.Increment = mark.PlusPlus
prefix_mark prefix.Decrement = mark.MinusMinus
prefix_mark prefix.Address = mark.And
prefix_mark prefix.Dereference = mark.Star
prefix_mark prefix.Plus = mark.Plus
prefix_mark prefix.Minus = mark.Minus
prefix_mark prefix.Complement = mark.Tilde
prefix_mark prefix.Not = mark.Not

-- What stands after such an operator: `++` and `--` take no cast (C11 6.5.3).
abbrev pub operand_level : Prefix → Level
operand_level prefix.Increment = of.Unary
operand_level prefix.Decrement = of.Unary
operand_level prefix.Address = of.Cast
operand_level prefix.Dereference = of.Cast
operand_level prefix.Plus = of.Cast
operand_level prefix.Minus = of.Cast
operand_level prefix.Complement = of.Cast
operand_level prefix.Not = of.Cast

abbrev pub postfix_mark : Postfix → Mark
postfix_mark postfix.Increment = mark.PlusPlus
postfix_mark postfix.Decrement = mark.MinusMinus

abbrev pub selection_mark : Selection → Mark
selection_mark selection.Direct = mark.Dot
selection_mark selection.ThroughPointer = mark.Arrow
