-- Statements and blocks (C11 6.8) that are well typed.
use Rattle.std.specs.Prelude.{◌≡◌, ℕ, ◌+◌, ◌≤◌, Bool, true, ℤ, List, [], ◌∷◌, ◌++◌, Option, Some, None, IsTrue}
use Rattle.std.specs.List.{IsDistinct}
use Rattle.std.specs.Ordering.{int_eq}
use Rattle.c_tree.specs.declared.statements.Initial.{Initial}
use Rattle.c_tree.specs.declared.statements.ForStart.{ForStart}
use Rattle.c_tree.specs.declared.statements.ForStart.TheVariants as begin
use Rattle.c_tree.specs.declared.statements.Statement.{Statement, Statement-F, out-Statement, fold-Statement}
use Rattle.c_tree.specs.declared.statements.Block.{Block, Block-F, fold-Block}
use Rattle.c_tree.specs.declared.values.Value.{Value}
use Rattle.well_typed.specs.Kinds.{wrapped}
use Rattle.well_typed.specs.Surroundings.{Surroundings, IsScalar, IsPromoted}
use Rattle.well_typed.specs.Expressions.{IsValue}
use Rattle.well_typed.specs.Initialisers.{Variables, AreInitials}

-- ---- one layer of a tree

abbrev pub StatementLayer : Type 0
StatementLayer = Statement-F Statement Block

-- ---- where a statement stands

-- What its expressions may name, the type of the function's result, the variables of the block in which it stands
-- directly, whether `break` and `continue` may stand here, and the type of the `switch` in whose block it stands
-- directly, if it does.
pub record Position : Type 0 where
  pub around : Surroundings
  pub result : ℕ
  pub own : List ℕ
  pub may_break : Bool
  pub may_continue : Bool
  pub switch_type : Option ℕ

-- with further variables in scope
abbrev pub with_scope : List ℕ → Surroundings → Surroundings
with_scope numbers around = record around { scope = around.scope ++ numbers }

-- in a block of these variables
abbrev pub in_block : List ℕ → Position → Position
in_block numbers position = record position { around = with_scope numbers position.around; own = numbers }

-- as a part of a statement: no label of a `switch` and no declaration stands here
abbrev pub inside : Position → Position
inside position = record position { own = []; switch_type = None }

-- as the body of a loop
abbrev pub in_loop : Position → Position
in_loop position = record (inside position) { may_break = true; may_continue = true }

-- in the block of a `switch` of this type
abbrev pub in_switch : ℕ → Position → Position
in_switch kind position = record (inside position) { may_break = true; switch_type = Some kind }

-- behind what a `for` declares
abbrev pub in_for : List ℕ → Position → Position
in_for numbers position = record position { around = with_scope numbers position.around }

-- ---- labels

abbrev pub case_of : StatementLayer → List ℤ
case_of (Statement-F.Case line number) = number ∷ []
case_of _ = []

-- the numbers of the cases that stand directly among some statements
abbrev pub cases_of : List Statement → List ℤ
cases_of [] = []
cases_of (first ∷ rest) = case_of (out-Statement first) ++ cases_of rest

abbrev pub default_of : StatementLayer → ℕ
default_of (Statement-F.Default line) = 1
default_of _ = 0

abbrev pub defaults_of : List Statement → ℕ
defaults_of [] = 0
defaults_of (first ∷ rest) = default_of (out-Statement first) + defaults_of rest

-- C11 6.8.4.2p3
pub record AreLabels (items : List Statement) : Type 0 where
  pub cases : IsDistinct int_eq (cases_of items)
  pub defaults : defaults_of items ≤ 1

-- ---- conditions

-- a number or a pointer (C11 6.8.4.1p1, 6.8.5p2)
abbrev pub IsCondition : Surroundings → Value → Type 0
IsCondition around x = (kind : ℕ) × IsValue around x kind × IsScalar around kind

abbrev pub IsOptionalCondition : Surroundings → Option Value → Type 0
IsOptionalCondition around None = Unit {0}
IsOptionalCondition around (Some x) = IsCondition around x

-- a value of any type
abbrev pub IsSomeValue : Surroundings → Value → Type 0
IsSomeValue around x = (kind : ℕ) × IsValue around x kind

abbrev pub IsOptionalValue : Surroundings → Option Value → Type 0
IsOptionalValue around None = Unit {0}
IsOptionalValue around (Some x) = IsSomeValue around x

-- ---- statements

-- `IsForStart position start after`: what a `for` does first, and where the rest of it stands (C11 6.8.5.3p1).
pub data IsForStart (position : Position) : ForStart → Position → Type 0 where
  nothing : IsForStart position begin.Nothing position
  value : {x : Value} → IsSomeValue position.around x → IsForStart position (begin.Value x) position
  declaration : {numbers : List ℕ} {line : ℕ} {stores : List Initial} →
      AreInitials (with_scope numbers position.around) (Variables numbers) stores →
      IsForStart position (begin.Declaration numbers line stores) (in_for numbers position)

mutual
  pub data IsStatement : Position → Statement → Type 0 where
    statement : {position : Position} {s : Statement} → StatementRule position (out-Statement s) →
        IsStatement position s

  -- its own variables are in scope in all of it (C11 6.8.2)
  pub data IsBlock : Position → Block → Type 0 where
    block : {position : Position} {b : Block} → AreStatements (in_block b.variables position) b.items →
        IsBlock position b

  pub data StatementRule : Position → StatementLayer → Type 0 where
    -- the stores of a declaration of the block in which it stands (C11 6.7)
    declaration : {position : Position} {line : ℕ} {stores : List Initial} →
        AreInitials position.around (Variables position.own) stores →
        StatementRule position (Statement-F.Declaration line stores)
    -- (6.8.2)
    block_within : {position : Position} {b : Block} → IsBlock (inside position) b →
        StatementRule position (Statement-F.Block b)
    -- (6.8.3)
    empty : {position : Position} {line : ℕ} → StatementRule position (Statement-F.Empty line)
    value : {position : Position} {line : ℕ} {x : Value} → IsSomeValue position.around x →
        StatementRule position (Statement-F.Value line x)
    -- (6.8.4.1)
    if_alone : {position : Position} {line : ℕ} {test : Value} {body : Statement} → IsCondition position.around test →
        IsStatement (inside position) body → StatementRule position (Statement-F.If line test body)
    if_else : {position : Position} {line : ℕ} {test : Value} {one other : Statement} →
        IsCondition position.around test → IsStatement (inside position) one → IsStatement (inside position) other →
        StatementRule position (Statement-F.IfElse line test one other)
    -- (6.8.5.1)
    while : {position : Position} {line : ℕ} {test : Value} {body : Statement} → IsCondition position.around test →
        IsStatement (in_loop position) body → StatementRule position (Statement-F.While line test body)
    -- (6.8.5.2)
    do_while : {position : Position} {line : ℕ} {body : Statement} {test : Value} →
        IsStatement (in_loop position) body → IsCondition position.around test →
        StatementRule position (Statement-F.Do line body test)
    -- (6.8.5.3)
    for : {position after : Position} {line : ℕ} {start : ForStart} {test step : Option Value} {body : Statement} →
        IsForStart position start after → IsOptionalCondition after.around test → IsOptionalValue after.around step →
        IsStatement (in_loop after) body → StatementRule position (Statement-F.For line start test step body)
    -- (6.8.4.2p1 and p3)
    switch : {position : Position} {line kind : ℕ} {x : Value} {b : Block} → IsValue position.around x kind →
        IsPromoted kind → IsBlock (in_switch kind position) b → AreLabels b.items →
        StatementRule position (Statement-F.Switch line x b)
    -- a number of the type of the `switch` (6.8.4.2p5)
    case : {position : Position} {line kind : ℕ} {n : ℤ} → position.switch_type ≡ Some kind → wrapped kind n ≡ n →
        StatementRule position (Statement-F.Case line n)
    default : {position : Position} {line kind : ℕ} → position.switch_type ≡ Some kind →
        StatementRule position (Statement-F.Default line)
    -- (6.8.6.3p1)
    break : {position : Position} {line : ℕ} → IsTrue position.may_break →
        StatementRule position (Statement-F.Break line)
    -- (6.8.6.2p1)
    continue : {position : Position} {line : ℕ} → IsTrue position.may_continue →
        StatementRule position (Statement-F.Continue line)
    -- (6.8.6.4p1 and p3)
    return_nothing : {position : Position} {line : ℕ} → position.result ≡ 1 →
        StatementRule position (Statement-F.Return line None)
    return_value : {position : Position} {line : ℕ} {x : Value} → IsScalar position.around position.result →
        IsValue position.around x position.result → StatementRule position (Statement-F.Return line (Some x))

  pub data AreStatements : Position → List Statement → Type 0 where
    no_statement : {position : Position} → AreStatements position []
    one_more : {position : Position} {first : Statement} {rest : List Statement} → IsStatement position first →
        AreStatements position rest → AreStatements position (first ∷ rest)

-- ---- the variables that blocks list

abbrev pub all_of : List (List ℕ) → List ℕ
all_of [] = []
all_of (one ∷ rest) = one ++ all_of rest

abbrev pub variables_of_start : ForStart → List ℕ
variables_of_start begin.Nothing = []
variables_of_start (begin.Value x) = []
variables_of_start (begin.Declaration numbers line stores) = numbers

abbrev pub statement_variables : Statement-F (List ℕ) (List ℕ) → List ℕ
statement_variables (Statement-F.Declaration line stores) = []
statement_variables (Statement-F.Block within) = within
statement_variables (Statement-F.Empty line) = []
statement_variables (Statement-F.Value line x) = []
statement_variables (Statement-F.If line test body) = body
statement_variables (Statement-F.IfElse line test one other) = one ++ other
statement_variables (Statement-F.While line test body) = body
statement_variables (Statement-F.Do line body test) = body
statement_variables (Statement-F.For line start test step body) = variables_of_start start ++ body
statement_variables (Statement-F.Switch line x within) = within
statement_variables (Statement-F.Case line number) = []
statement_variables (Statement-F.Default line) = []
statement_variables (Statement-F.Break line) = []
statement_variables (Statement-F.Continue line) = []
statement_variables (Statement-F.Return line x) = []

abbrev pub block_variables : Block-F (List ℕ) (List ℕ) → List ℕ
block_variables layer = layer.variables ++ all_of layer.items

unfoldable pub variables_in_statement : Statement → List ℕ
variables_in_statement = fold-Statement (List ℕ) (List ℕ) statement_variables block_variables

-- the numbers that a block and those in it list, and what each `for` in it declares
unfoldable pub variables_in_block : Block → List ℕ
variables_in_block = fold-Block (List ℕ) (List ℕ) statement_variables block_variables
