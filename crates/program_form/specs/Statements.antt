-- Statements and blocks.
use Rattle.std.specs.Prelude.{ℕ, zero, suc, List, [], ◌∷◌, ◌++◌, length, Option, Some, None}
use Rattle.c_grammar.specs.Limits.{max_depth}
use Rattle.c_grammar.specs.declared.phrases.Expression.{Expression}
use Rattle.c_grammar.specs.declared.statements.Block.{Block, out-Block}
use Rattle.c_grammar.specs.declared.statements.BlockItem.{BlockItem, out-BlockItem, BlockItem-F}
use Rattle.c_grammar.specs.declared.statements.Statement.{Statement as Syntax, out-Statement, Statement-F}
use Rattle.plain_meaning.specs.declared.tree.Statement.{Statement}
use Rattle.plain_meaning.specs.declared.tree.Statement.TheVariants as s
use Rattle.token_texts.specs.Texts.{Texts}
use Rattle.form_parts.specs.Layers.{StatementLayer, ItemLayer, ◌>>=◌}
use Rattle.form_parts.specs.Variables.{Variable}
use Rattle.program_form.specs.Numbers.{number}
use Rattle.program_form.specs.Actions.{action}
use Rattle.program_form.specs.Declarations.{StatementAndScope, declaration}

module _ (texts : Texts) where
  module _ (inner : List Variable → Syntax → Option Statement) where
    abbrev pub item_at : ℕ → List Variable → ItemLayer → Option StatementAndScope
    item_at start scope (BlockItem-F.Declaration syntax) = declaration texts start scope syntax
    item_at start scope (BlockItem-F.Statement part) = inner scope part >>= λ made. Some (made, scope)

    -- a declaration or a statement in a block whose variables begin at `start`, and the variables in scope after it
    unfoldable pub item : ℕ → List Variable → BlockItem → Option StatementAndScope
    item start scope one = item_at start scope (out-BlockItem one)

    -- one after another, after those that were found
    unfoldable pub items : ℕ → List Variable → List Statement → List BlockItem → Option (List Statement)
    items start scope found [] = Some found
    items start scope found (one ∷ rest) = item start scope one >>= λ next. items start next.1 (found ++ next.0 ∷ []) rest

    unfoldable pub block : List Variable → Block → Option Statement
    block scope body = items (length scope) scope [] (out-Block body).items >>= λ all. Some (s.Block all)

    unfoldable pub if_statement : List Variable → ℕ → Expression → Syntax → Option Statement
    if_statement scope line test then = number texts max_depth scope test >>= λ x. inner scope then >>= λ y. Some (s.If line x y)

    unfoldable pub if_else_statement : List Variable → ℕ → Expression → Syntax → Syntax → Option Statement
    if_else_statement scope line test then otherwise = number texts max_depth scope test >>= λ x.
        inner scope then >>= λ y. inner scope otherwise >>= λ z. Some (s.IfElse line x y z)

    unfoldable pub while_statement : List Variable → ℕ → Expression → Syntax → Option Statement
    while_statement scope line test body = number texts max_depth scope test >>= λ x. inner scope body >>= λ y. Some (s.While line x y)

    abbrev pub statement_at : List Variable → StatementLayer → Option Statement
    statement_at scope (Statement-F.Block body) = block scope body
    statement_at scope (Statement-F.Expression place e) = action texts scope place.line e
    statement_at scope (Statement-F.If place test then) = if_statement scope place.line test then
    statement_at scope (Statement-F.IfElse place test then otherwise) = if_else_statement scope place.line test then otherwise
    statement_at scope (Statement-F.While place test body) = while_statement scope place.line test body
    statement_at scope _ = None

    -- whose parts are read so
    unfoldable pub statement_by : List Variable → Syntax → Option Statement
    statement_by scope syntax = statement_at scope (out-Statement syntax)

  -- A block, an assignment, a call, `if` or `while`, nested no deeper than `depth`.
  unfoldable pub statement : ℕ → List Variable → Syntax → Option Statement
  statement zero scope syntax = None
  statement (suc depth) scope syntax = statement_by (statement depth) scope syntax
