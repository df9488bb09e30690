-- How many nodes a tree has, and how many of them are expressions.
--
-- An expression of the text is one node, beside those of its parts: a name, a constant, or an operator, a cast or a
-- call with its operands. The format of `printf` is a node beside the call, and a string literal that initialises an
-- array is one. Every other node counts as `other` says: what no text writes (conversions that no cast writes, the load
-- of a place, the address of an array's first element, a struct that nothing reads, the places that an initialiser
-- stores to), stores, statements, blocks and what a `for` does first. So 0 gives the expressions alone, and 1 all
-- nodes.
--
-- Parentheses, the name of a function that is called, the operand of `sizeof`, and what a `case` or an array's size is
-- made of are no nodes of the tree.
--
-- Places and values lead to one another, and so do statements and blocks. A step looks at one layer, in which each part
-- is the number of its nodes.
use Rattle.std.specs.Prelude.{ℕ, ◌+◌, ◌*◌, min, Bool, nat_le, List, length, sum, sum_by, Option, Some, None}
use Rattle.c_tree.specs.declared.limits.TheConstants.{MAX_FUNCTION_SIZE}
use Rattle.c_tree.specs.declared.operators.Written.{Written}
use Rattle.c_tree.specs.declared.operators.Written.TheVariants as written
use Rattle.c_tree.specs.declared.values.Place.{Place, Place-F, fold-Place}
use Rattle.c_tree.specs.declared.values.Value.{Value, Value-F, fold-Value}
use Rattle.c_tree.specs.declared.statements.Initial.{Initial}
use Rattle.c_tree.specs.declared.statements.Initial.TheVariants as initial
use Rattle.c_tree.specs.declared.statements.ForStart.{ForStart}
use Rattle.c_tree.specs.declared.statements.ForStart.TheVariants as begin
use Rattle.c_tree.specs.declared.statements.Statement.{Statement, Statement-F, fold-Statement}
use Rattle.c_tree.specs.declared.statements.Block.{Block, Block-F, fold-Block}
use Rattle.c_tree.specs.declared.program.Function.{Function}

module _ (other : ℕ) where
  -- ---- expressions

  abbrev pub conversion : Written → ℕ
  conversion written.Cast = 1
  conversion written.Implicit = other

  abbrev pub place_step : Place-F ℕ ℕ → ℕ
  place_step (Place-F.Variable at number) = 1
  place_step (Place-F.Global at number) = 1
  place_step (Place-F.Literal at number) = 1
  place_step (Place-F.Dereference at pointer) = 1 + pointer
  place_step (Place-F.Index at pointer index) = 1 + pointer + index
  place_step (Place-F.IndexFirst at index pointer) = 1 + index + pointer
  place_step (Place-F.Member at place offset) = 1 + place
  place_step (Place-F.Arrow at pointer offset) = 1 + pointer
  place_step (Place-F.Element at place before) = other + place

  abbrev pub value_step : Value-F ℕ ℕ → ℕ
  value_step (Value-F.Number at number) = 1
  value_step (Value-F.Null at) = 1
  value_step (Value-F.Load at place) = other + place
  value_step (Value-F.Decay at place) = other + place
  value_step (Value-F.Address at place) = 1 + place
  value_step (Value-F.Mention at place) = other + place
  value_step (Value-F.Convert at how value) = conversion how + value
  value_step (Value-F.NullPointer at how value) = conversion how + value
  value_step (Value-F.KeepPointer at how value) = conversion how + value
  value_step (Value-F.CheckPointer at how value) = conversion how + value
  value_step (Value-F.Discard at value) = 1 + value
  value_step (Value-F.Unary at operator value) = 1 + value
  value_step (Value-F.Binary at operator left right) = 1 + left + right
  value_step (Value-F.Compare at comparison left right) = 1 + left + right
  value_step (Value-F.ComparePointers at comparison left right) = 1 + left + right
  value_step (Value-F.Advance at pointer index) = 1 + pointer + index
  value_step (Value-F.AdvanceFirst at index pointer) = 1 + index + pointer
  value_step (Value-F.Retreat at pointer index) = 1 + pointer + index
  value_step (Value-F.Difference at left right) = 1 + left + right
  value_step (Value-F.Not at value) = 1 + value
  value_step (Value-F.Logical at operator left right) = 1 + left + right
  value_step (Value-F.Conditional at test then otherwise) = 1 + test + then + otherwise
  value_step (Value-F.Comma at parts) = 1 + sum parts
  value_step (Value-F.Assign at place value) = 1 + place + value
  value_step (Value-F.Copy at to from) = 1 + to + from
  value_step (Value-F.Update at operator kind place value) = 1 + place + value
  value_step (Value-F.UpdatePointer at step place index) = 1 + place + index
  value_step (Value-F.Step at step fixity kind place) = 1 + place
  value_step (Value-F.StepPointer at step fixity place) = 1 + place
  value_step (Value-F.Call at function arguments) = 1 + sum arguments
  value_step (Value-F.Allocate at element size) = 1 + size
  value_step (Value-F.AllocateMany at element count size) = 1 + count + size
  value_step (Value-F.Allocated at allocation) = 1 + allocation
  value_step (Value-F.Free at pointer) = 1 + pointer
  value_step (Value-F.CopyBytes at to from size) = 1 + to + from + size
  value_step (Value-F.FillBytes at to byte size) = 1 + to + byte + size
  value_step (Value-F.StringLength at text) = 1 + text
  value_step (Value-F.PrintLine at text) = 1 + text
  value_step (Value-F.PrintByte at byte) = 1 + byte
  value_step (Value-F.FetchAdd at pointer value) = 1 + pointer + value
  value_step (Value-F.Print at parts arguments) = 2 + sum arguments

  unfoldable pub count_of_place : Place → ℕ
  count_of_place = fold-Place ℕ ℕ place_step value_step

  unfoldable pub count_of_value : Value → ℕ
  count_of_value = fold-Value ℕ ℕ place_step value_step

  abbrev pub count_of_optional : Option Value → ℕ
  count_of_optional None = 0
  count_of_optional (Some value) = count_of_value value

  -- ---- statements

  abbrev pub count_of_initial : Initial → ℕ
  count_of_initial (initial.Value place value) = other + other * count_of_place place + count_of_value value
  count_of_initial (initial.Copy place from) = other + other * count_of_place place + count_of_place from
  count_of_initial (initial.Bytes place bytes) = 1 + other * count_of_place place

  abbrev pub count_of_initials : List Initial → ℕ
  count_of_initials stores = sum_by count_of_initial stores

  abbrev pub count_of_for_start : ForStart → ℕ
  count_of_for_start begin.Nothing = other
  count_of_for_start (begin.Value value) = other + count_of_value value
  count_of_for_start (begin.Declaration variables line stores) = other + count_of_initials stores

  abbrev pub block_step : Block-F ℕ ℕ → ℕ
  block_step block = other + sum block.items

  abbrev pub statement_step : Statement-F ℕ ℕ → ℕ
  statement_step (Statement-F.Declaration line stores) = other + count_of_initials stores
  statement_step (Statement-F.Block block) = other + block
  statement_step (Statement-F.Empty line) = other
  statement_step (Statement-F.Value line value) = other + count_of_value value
  statement_step (Statement-F.If line test then) = other + count_of_value test + then
  statement_step (Statement-F.IfElse line test then otherwise) = other + count_of_value test + then + otherwise
  statement_step (Statement-F.While line test body) = other + count_of_value test + body
  statement_step (Statement-F.Do line body test) = other + body + count_of_value test
  statement_step (Statement-F.For line start test step body) =
      other + count_of_for_start start + count_of_optional test + count_of_optional step + body
  statement_step (Statement-F.Switch line value block) = other + count_of_value value + block
  statement_step (Statement-F.Case line value) = other
  statement_step (Statement-F.Default line) = other
  statement_step (Statement-F.Break line) = other
  statement_step (Statement-F.Continue line) = other
  statement_step (Statement-F.Return line value) = other + count_of_optional value

  unfoldable pub count_of_statement : Statement → ℕ
  count_of_statement = fold-Statement ℕ ℕ statement_step block_step

  unfoldable pub count_of_block : Block → ℕ
  count_of_block = fold-Block ℕ ℕ statement_step block_step

-- ---- the expressions of the text

abbrev pub nodes_of_conversion : Written → ℕ
nodes_of_conversion = conversion 0

abbrev pub nodes_of_place : Place → ℕ
nodes_of_place = count_of_place 0

abbrev pub nodes_of_value : Value → ℕ
nodes_of_value = count_of_value 0

abbrev pub nodes_of_values : List Value → ℕ
nodes_of_values values = sum_by nodes_of_value values

abbrev pub nodes_of_optional : Option Value → ℕ
nodes_of_optional = count_of_optional 0

abbrev pub nodes_of_initial : Initial → ℕ
nodes_of_initial = count_of_initial 0

abbrev pub nodes_of_initials : List Initial → ℕ
nodes_of_initials = count_of_initials 0

abbrev pub nodes_of_for_start : ForStart → ℕ
nodes_of_for_start = count_of_for_start 0

abbrev pub nodes_of_statement : Statement → ℕ
nodes_of_statement = count_of_statement 0

abbrev pub nodes_of_statements : List Statement → ℕ
nodes_of_statements statements = sum_by nodes_of_statement statements

abbrev pub nodes_of_block : Block → ℕ
nodes_of_block = count_of_block 0

-- ---- functions

-- Parameters are variables.
abbrev pub size_of_function : Function → ℕ
size_of_function function = length function.variables + nodes_of_block function.body

abbrev pub max_size : ℕ
max_size = MAX_FUNCTION_SIZE

-- a count that stands still at the first number that is too large
abbrev pub capped : ℕ → ℕ
capped n = min n (max_size + 1)

abbrev pub fits : Function → Bool
fits function = nat_le (size_of_function function) max_size
