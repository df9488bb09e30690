-- The operators of the grammar by what they take (C11 6.5.5 to 6.5.14, 6.5.16.2).
use Rattle.std.specs.Prelude.{Option, Some, None}
use Rattle.c_grammar.specs.declared.words.Assignment.{Assignment}
use Rattle.c_grammar.specs.declared.words.Assignment.TheVariants as assignment
use Rattle.c_grammar.specs.declared.words.Binary.{Binary}
use Rattle.c_grammar.specs.declared.words.Binary.TheVariants as binary
use Rattle.c_tree.specs.declared.operators.Operator.{Operator}
use Rattle.c_tree.specs.declared.operators.Operator.TheVariants as o
use Rattle.c_tree.specs.declared.operators.Comparison.{Comparison}
use Rattle.c_tree.specs.declared.operators.Comparison.TheVariants as c
use Rattle.c_tree.specs.declared.operators.LogicalOperator.{LogicalOperator}
use Rattle.c_tree.specs.declared.operators.LogicalOperator.TheVariants as l
use Rattle.c_tree.specs.declared.operators.Step.{Step}
use Rattle.c_tree.specs.declared.operators.Step.TheVariants as step

pub data Sort : Type 0 where
  -- whole numbers that become one type
  Arithmetic : Operator → Sort
  -- whole numbers that are promoted each by itself
  Shift : Operator → Sort
  -- `+`, which also moves pointers
  Sum : Sort
  -- `-`, which also moves them, and tells how far apart they are
  Difference : Sort
  -- `==` and `!=`
  Equality : Comparison → Sort
  Order : Comparison → Sort
  -- `&&` and `||`
  Logical : LogicalOperator → Sort

abbrev pub sort_of : Binary → Sort
sort_of binary.Multiply = Arithmetic o.Multiply
sort_of binary.Divide = Arithmetic o.Divide
sort_of binary.Remainder = Arithmetic o.Remainder
sort_of binary.And = Arithmetic o.And
sort_of binary.ExclusiveOr = Arithmetic o.ExclusiveOr
sort_of binary.Or = Arithmetic o.Or
sort_of binary.Add = Sum
sort_of binary.Subtract = Difference
sort_of binary.ShiftLeft = Shift o.ShiftLeft
sort_of binary.ShiftRight = Shift o.ShiftRight
sort_of binary.Equal = Equality c.Equal
sort_of binary.NotEqual = Equality c.NotEqual
sort_of binary.Less = Order c.Less
sort_of binary.Greater = Order c.Greater
sort_of binary.LessEqual = Order c.LessEqual
sort_of binary.GreaterEqual = Order c.GreaterEqual
sort_of binary.LogicalOr = Logical l.Or
sort_of binary.LogicalAnd = Logical l.And

-- the operator of an assignment, none for `=`
abbrev pub operator_of : Assignment → Option Operator
operator_of assignment.Plain = None
operator_of assignment.Multiply = Some o.Multiply
operator_of assignment.Divide = Some o.Divide
operator_of assignment.Remainder = Some o.Remainder
operator_of assignment.Add = Some o.Add
operator_of assignment.Subtract = Some o.Subtract
operator_of assignment.ShiftLeft = Some o.ShiftLeft
operator_of assignment.ShiftRight = Some o.ShiftRight
operator_of assignment.And = Some o.And
operator_of assignment.ExclusiveOr = Some o.ExclusiveOr
operator_of assignment.Or = Some o.Or

-- the way that a sum or a difference moves a pointer
abbrev pub step_of : Operator → Option Step
step_of o.Add = Some step.Increment
step_of o.Subtract = Some step.Decrement
step_of _ = None
