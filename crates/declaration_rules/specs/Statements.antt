-- Statements (C11 6.8): each level of the syntax tree, over what the levels below it are.
use Rattle.std.specs.Prelude.{ℕ, zero, suc, ◌==◌, ℤ, Bool, true, false, ◌||◌, not, List, [], ◌∷◌, Option, Some, None}
use Rattle.std.specs.Prelude.{Ok, if◌then◌else◌}
use Rattle.std.specs.Ordering.{int_eq}
use Rattle.c_grammar.specs.declared.phrases.Expression.{Expression}
use Rattle.c_grammar.specs.declared.statements.Block.{Block as SyntaxBlock, out-Block}
use Rattle.c_grammar.specs.declared.statements.BlockItem.{BlockItem, out-BlockItem, BlockItem-F}
use Rattle.c_grammar.specs.declared.statements.Declaration.{Declaration}
use Rattle.c_grammar.specs.declared.statements.ForStart.{ForStart as SyntaxStart}
use Rattle.c_grammar.specs.declared.statements.ForStart.TheVariants as start
use Rattle.c_grammar.specs.declared.statements.Statement.{Statement as Syntax, out-Statement, Statement-F}
use Rattle.c_types.specs.Table.{Types}
use Rattle.c_tree.specs.declared.statements.Block.{Block}
use Rattle.c_tree.specs.declared.statements.ForStart.{ForStart}
use Rattle.c_tree.specs.declared.statements.ForStart.TheVariants as first
use Rattle.c_tree.specs.declared.statements.Initial.{Initial}
use Rattle.c_tree.specs.declared.statements.Statement.{Statement}
use Rattle.c_tree.specs.declared.statements.Statement.TheVariants as t
use Rattle.c_tree.specs.declared.values.Value.{Value}
use Rattle.well_typed.specs.Kinds.{is_whole, promoted, wrapped}
use Rattle.static_rules.specs.declared.faults.CheckKind.TheVariants as why
use Rattle.static_rules.specs.declared.faults.Feature.TheVariants as feature
use Rattle.static_rules.specs.declared.judged.Judged.{Judged}
use Rattle.static_rules.specs.declared.judged.Operand.{Operand}
use Rattle.static_rules.specs.Answers.{Answer, ◌>>=◌, fault, fault_if, or_mismatch}
use Rattle.static_rules.specs.Lines.{line_of}
use Rattle.static_rules.specs.States.{on_line, new_scope, closed}
use Rattle.static_rules.specs.declared.states.State.{State}
use Rattle.declaration_rules.specs.Readers.{too_deep}
use Rattle.declaration_rules.specs.declared.statements.Inside.{Inside}
use Rattle.static_rules.specs.declared.states.Where.{Where}

-- the body of a function whose result has this type
abbrev pub in_function_of : ℕ → Inside
in_function_of result = record { result = result; in_loop = false; in_switch = false; directly = None }

abbrev pub deeper : Inside → Inside
deeper around = record around { directly = None }

abbrev pub in_a_loop : Inside → Inside
in_a_loop around = record around { in_loop = true; directly = None }

abbrev pub in_a_switch : Inside → ℕ → Inside
in_a_switch around kind = record around { in_switch = true; directly = Some kind }

-- the labels of a `switch` so far
pub record Labels : Type 0 where
  pub cases : List ℤ
  pub default : Bool

abbrev pub no_labels : Labels
no_labels = record { cases = []; default = false }

abbrev pub is_case : ℤ → List ℤ → Bool
is_case n [] = false
is_case n (first ∷ rest) = int_eq first n || is_case n rest

-- ---- labels (C11 6.8.1, 6.8.4.2): they stand directly in the block of a `switch`, and each value stands there once

abbrev pub misplaced_label : {A : Type 0} → ℕ → Inside → Answer A
misplaced_label here around =
    if around.in_switch then fault (why.LeftOut feature.CaseInside) here else fault why.TypeMismatch here

abbrev pub with_case : ℤ → Labels → Labels
with_case n labels = record labels { cases = n ∷ labels.cases }

abbrev pub case_of : ℕ → Labels → ℤ → State → Answer ((Statement × Labels) × State)
case_of here labels n s =
    fault_if (is_case n labels.cases) why.Redefined here >>= λ new. Ok ((t.Case here n, with_case n labels), s)

abbrev pub case_by : ℕ → Inside → Labels → Option ℕ → ℤ × State → Answer ((Statement × Labels) × State)
case_by here around labels (Some kind) (n, s) = case_of here labels (wrapped kind n) s
case_by here around labels None (n, s) = misplaced_label here around

abbrev pub default_by : ℕ → Inside → Labels → State → Option ℕ → Answer ((Statement × Labels) × State)
default_by here around labels s (Some kind) =
    fault_if labels.default why.Redefined here >>= λ new. Ok ((t.Default here, record labels { default = true }), s)
default_by here around labels s None = misplaced_label here around

-- ---- jumps (C11 6.8.6.2p1, 6.8.6.3p1)

abbrev pub break_of : ℕ → Inside → State → Answer (Statement × State)
break_of here around s =
    if around.in_loop || around.in_switch then Ok (t.Break here, s) else fault why.TypeMismatch here

abbrev pub continue_of : ℕ → Inside → State → Answer (Statement × State)
continue_of here around s = if around.in_loop then Ok (t.Continue here, s) else fault why.TypeMismatch here

-- ---- scopes

-- what is declared in a scope ends with it
abbrev pub scoped : {A : Type 0} → (Where → State → Answer (A × State)) → Where → State → Answer (A × State)
scoped read w s = read (new_scope w s) s >>= λ r. Ok (r.0, closed s r.1)

-- the variables of a block are those of its own declarations
abbrev pub in_block : State → List ℕ → State
in_block s numbers = record s { block = numbers }

module _ (expression : Where → State → Expression → Answer (Judged × State))
    (constant : ℕ → Where → State → Expression → Answer (ℤ × State))
    (valued : ℕ → State → Judged → Operand × State) (converted : Types → ℕ → ℕ → Operand → Option Operand)
    (condition : Where → State → Expression → Answer (Value × State))
    (declaration : Where → State → Declaration → Answer (List Initial × State))
  where
    -- ---- expressions of statements

    abbrev pub value_of : Where → State → Expression → Answer (Operand × State)
    value_of w s e = expression w s e >>= λ r. Ok (valued w.line r.1 r.0)

    abbrev pub value_if : Where → State → Option Expression → Answer (Option Value × State)
    value_if w s (Some e) = value_of w s e >>= λ r. Ok (Some r.0.value, r.1)
    value_if w s None = Ok (None, s)

    abbrev pub condition_if : Where → State → Option Expression → Answer (Option Value × State)
    condition_if w s (Some e) = condition w s e >>= λ r. Ok (Some r.0, r.1)
    condition_if w s None = Ok (None, s)

    -- ---- `return` (C11 6.8.6.4): a value where the function gives one, converted as by assignment, and none where it
    -- does not

    abbrev pub returned : ℕ → ℕ → Operand × State → Answer (Statement × State)
    returned line result (x, s) =
        fault_if (result == 1) why.TypeMismatch line >>= λ gives.
        or_mismatch line (converted s.types line result x) >>= λ y.
        Ok (t.Return line (Some y.value), s)

    abbrev pub return_of : ℕ → Inside → Where → State → Option Expression → Answer (Statement × State)
    return_of line around w s (Some e) = value_of w s e >>= returned line around.result
    return_of line around w s None =
        fault_if (not (around.result == 1)) why.TypeMismatch line >>= λ fine. Ok (t.Return line None, s)

    module _ (inner : Inside → Where → State → Syntax → Answer (Statement × State)) where
      -- a statement that is a part of another is a scope (C11 6.8.4p3, 6.8.5p5)
      abbrev pub part : Inside → Where → State → Syntax → Answer (Statement × State)
      part around w s one = scoped (λ w s. inner around w s one) w s

      -- ---- blocks (C11 6.8.2)

      abbrev pub unlabelled : Inside → Where → Labels → State → Syntax → Answer ((Statement × Labels) × State)
      unlabelled around w labels s one = inner (deeper around) w s one >>= λ r. Ok ((r.0, labels), r.1)

      abbrev pub labelled_at : Inside → Where → Labels → State → Syntax → Statement-F BlockItem Syntax SyntaxBlock →
          Answer ((Statement × Labels) × State)
      labelled_at around w labels s one (Statement-F.Case place e) =
          constant (line_of e) (on_line w place.line) s e >>= case_by place.line around labels around.directly
      labelled_at around w labels s one (Statement-F.Default place) =
          default_by place.line around labels s around.directly
      labelled_at around w labels s one other = unlabelled around w labels s one

      abbrev pub item_at : Inside → Where → Labels → State → BlockItem-F BlockItem Syntax SyntaxBlock →
          Answer ((Statement × Labels) × State)
      item_at around w labels s (BlockItem-F.Declaration d) =
          declaration w s d >>= λ r. Ok ((t.Declaration d.place.line r.0, labels), r.1)
      item_at around w labels s (BlockItem-F.Statement one) = labelled_at around w labels s one (out-Statement one)

      unfoldable pub items : Inside → Where → Labels → State → List BlockItem → Answer (List Statement × State)
      items around w labels s [] = Ok ([], s)
      items around w labels s (one ∷ rest) =
          item_at around w labels s (out-BlockItem one) >>= λ r. items around w r.0.1 r.1 rest >>= λ more.
          Ok (r.0.0 ∷ more.0, more.1)

      abbrev pub block_of : ℕ → State → List Statement × State → Block × State
      block_of line before r = (record { line = line; variables = r.1.block; items = r.0 }, in_block r.1 before.block)

      -- `{ .. }`, whose scope is the one that is given
      unfoldable pub block : Inside → Where → State → SyntaxBlock → Answer (Block × State)
      block around w s body =
          items around (on_line w (out-Block body).place.line) no_labels (in_block s []) (out-Block body).items >>= λ r.
          Ok (block_of (out-Block body).place.line s r)

      abbrev pub scoped_block : Inside → Where → State → SyntaxBlock → Answer (Block × State)
      scoped_block around w s body = scoped (λ w s. block around w s body) w s

      -- ---- selection (C11 6.8.4)

      abbrev pub if_of : Inside → ℕ → Expression → Syntax → Where → State → Answer (Statement × State)
      if_of around line test one w s =
          condition w s test >>= λ c. part (deeper around) w c.1 one >>= λ a. Ok (t.If line c.0 a.0, a.1)

      abbrev pub if_else_of : Inside → ℕ → Expression → Syntax → Syntax → Where → State → Answer (Statement × State)
      if_else_of around line test one other w s =
          condition w s test >>= λ c. part (deeper around) w c.1 one >>= λ a. part (deeper around) w a.1 other >>= λ b.
          Ok (t.IfElse line c.0 a.0 b.0, b.1)

      -- its value is a whole number, which is promoted (C11 6.8.4.2p1 and p5)
      abbrev pub switch_by : Inside → Where → ℕ → SyntaxBlock → ℕ → Operand × State → Answer (Statement × State)
      switch_by around w here body line (x, s) =
          fault_if (not (is_whole x.kind)) why.TypeMismatch here >>= λ whole.
          or_mismatch here (converted s.types line (promoted x.kind) x) >>= λ y.
          scoped_block (in_a_switch around (promoted x.kind)) w s body >>= λ r. Ok (t.Switch line y.value r.0, r.1)

      abbrev pub switch_of : Inside → ℕ → Expression → SyntaxBlock → Where → State → Answer (Statement × State)
      switch_of around line e body w s = value_of w s e >>= switch_by around w (line_of e) body line

      -- ---- loops (C11 6.8.5)

      abbrev pub while_of : Inside → ℕ → Expression → Syntax → Where → State → Answer (Statement × State)
      while_of around line test body w s =
          condition w s test >>= λ c. part (in_a_loop around) w c.1 body >>= λ a. Ok (t.While line c.0 a.0, a.1)

      abbrev pub do_of : Inside → ℕ → Syntax → Expression → Where → State → Answer (Statement × State)
      do_of around line body test w s =
          part (in_a_loop around) w s body >>= λ a. condition w a.1 test >>= λ c. Ok (t.Do line a.0 c.0, c.1)

      -- the variables of a `for` with a declaration are its own
      abbrev pub for_declaration : ℕ → List ℕ → List Initial × State → ForStart × State
      for_declaration line before r = (first.Declaration r.1.block line r.0, in_block r.1 before)

      abbrev pub for_start : Where → State → SyntaxStart → Answer (ForStart × State)
      for_start w s (start.Expression None) = Ok (first.Nothing, s)
      for_start w s (start.Expression (Some e)) = value_of w s e >>= λ r. Ok (first.Value r.0.value, r.1)
      for_start w s (start.Declaration d) =
          declaration w (in_block s []) d >>= λ r. Ok (for_declaration d.place.line s.block r)

      abbrev pub for_of : Inside → ℕ → SyntaxStart → Option Expression → Option Expression → Syntax → Where → State →
          Answer (Statement × State)
      for_of around line begin test step body w s =
          for_start w s begin >>= λ a. condition_if w a.1 test >>= λ b. value_if w b.1 step >>= λ c.
          part (in_a_loop around) w c.1 body >>= λ d. Ok (t.For line a.0 b.0 c.0 d.0, d.1)

      -- ---- one level of a statement

      abbrev pub statement_at : Inside → Where → State → Syntax → Statement-F BlockItem Syntax SyntaxBlock →
          Answer (Statement × State)
      -- `{ .. }`
      statement_at around w s one (Statement-F.Block body) =
          scoped_block (deeper around) w s body >>= λ r. Ok (t.Block r.0, r.1)
      -- `;`
      statement_at around w s one (Statement-F.Empty place) = Ok (t.Empty place.line, s)
      -- `value;`
      statement_at around w s one (Statement-F.Expression place e) =
          value_of (on_line w place.line) s e >>= λ r. Ok (t.Value place.line r.0.value, r.1)
      -- `if (test) then`
      statement_at around w s one (Statement-F.If place test true_part) =
          scoped (if_of around place.line test true_part) (on_line w place.line) s
      -- `if (test) then else otherwise`
      statement_at around w s one (Statement-F.IfElse place test true_part false_part) =
          scoped (if_else_of around place.line test true_part false_part) (on_line w place.line) s
      -- `while (test) body`
      statement_at around w s one (Statement-F.While place test body) =
          scoped (while_of around place.line test body) (on_line w place.line) s
      -- `do body while (test);`
      statement_at around w s one (Statement-F.Do place body test) =
          scoped (do_of around place.line body test) (on_line w place.line) s
      -- `for (start; test; step) body`
      statement_at around w s one (Statement-F.For place begin test step body) =
          scoped (for_of around place.line begin test step body) (on_line w place.line) s
      -- `switch (value) { .. }`
      statement_at around w s one (Statement-F.Switch place e body) =
          scoped (switch_of around place.line e body) (on_line w place.line) s
      -- `case value:` and `default:`, which stand in no block of a `switch` here
      statement_at around w s one (Statement-F.Case place e) =
          constant (line_of e) (on_line w place.line) s e >>= λ n. misplaced_label place.line around
      statement_at around w s one (Statement-F.Default place) = misplaced_label place.line around
      -- `break;`
      statement_at around w s one (Statement-F.Break place) = break_of place.line around s
      -- `continue;`
      statement_at around w s one (Statement-F.Continue place) = continue_of place.line around s
      -- `return;` and `return value;`
      statement_at around w s one (Statement-F.Return place e) = return_of place.line around (on_line w place.line) s e

      unfoldable pub statement_by : Inside → Where → State → Syntax → Answer (Statement × State)
      statement_by around w s one = statement_at around w s one (out-Statement one)

    -- A statement that nests no deeper than `depth`: the state behind it has its types and objects, and no name of it.
    unfoldable pub statement : ℕ → Inside → Where → State → Syntax → Answer (Statement × State)
    statement zero around w s one = too_deep
    statement (suc depth) around w s one = statement_by (statement depth) around w s one

    -- the block of a function, whose scope its parameters share
    unfoldable pub function_block : ℕ → Inside → Where → State → SyntaxBlock → Answer (Block × State)
    function_block depth around w s body = block (statement depth) around w s body
