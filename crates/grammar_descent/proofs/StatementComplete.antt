-- What is a statement or a block is read.
use Rattle.std.proofs.Common.{◌≡◌, ◌≢◌, ℕ, zero, suc, ◌+◌, ◌<◌, ◌≤◌, List, [], ◌∷◌, ◌++◌, length, Option, Some, None, true, false, refl, sym, ap, ◌∙◌, arith, append_assoc, append-nil}
use Rattle.c_tokens.specs.declared.token.Token.{Token}
use Rattle.c_tokens.specs.declared.kind.Kind.{Kind}
use Rattle.c_tokens.specs.declared.kind.Kind.TheVariants as k
use Rattle.c_tokens.specs.declared.kind.Keyword.TheVariants as word
use Rattle.c_tokens.specs.declared.kind.Mark.{Mark}
use Rattle.c_tokens.specs.declared.kind.Mark.TheVariants as mark
use Rattle.c_grammar.specs.declared.words.Level.TheVariants as of
use Rattle.c_grammar.specs.declared.phrases.Expression.{Expression}
use Rattle.c_grammar.specs.declared.statements.Declaration.{Declaration}
use Rattle.c_grammar.specs.declared.statements.Block.{Block}
use Rattle.c_grammar.specs.declared.statements.BlockItem.{BlockItem}
use Rattle.c_grammar.specs.declared.statements.BlockItem.TheVariants as item
use Rattle.c_grammar.specs.declared.statements.ForStart.{ForStart}
use Rattle.c_grammar.specs.declared.statements.ForStart.TheVariants as begin
use Rattle.c_grammar.specs.declared.statements.Statement.{Statement}
use Rattle.c_grammar.specs.declared.statements.Statement.TheVariants as node
use Rattle.c_grammar.specs.Tokens.{kind_at, place_at, IsMark, IsWord}
use Rattle.c_grammar.specs.Scope.{Scope}
use Rattle.c_grammar.specs.Operators.{tightness}
use Rattle.c_grammar.specs.Phrases.{IsExpression}
use Rattle.c_grammar.specs.Initialisers.{IsDeclaration, of_no_name, of_names}
use Rattle.c_grammar.specs.Statements as g
use Rattle.c_grammar.specs.Statements.{IsOptional, IsForStart, IsBlock, AreItems, IsStatement}
use Rattle.grammar_descent.specs.Reading.{State, Reading, Readers}
use Rattle.grammar_descent.specs.Follow.{ends}
use Rattle.grammar_descent.specs.Exact.{Exact}
use Rattle.grammar_descent.specs.Types.{begins_specs}
use Rattle.grammar_descent.specs.InitialiserSteps.{expression_at, declaration}
use Rattle.grammar_descent.specs.StatementSteps as step
use Rattle.grammar_descent.specs.StatementSteps.{back}
use Rattle.grammar_descent.proofs.Types.{specs_begin}
use Rattle.grammar_descent.proofs.Seen.{here, not_here, stands_within}
use Rattle.grammar_descent.proofs.Moves.{expression_moves}
use Rattle.grammar_descent.proofs.Starts.{begins_expression, expression_begins, expression_no_specs, expression_instead}
use Rattle.grammar_descent.proofs.InitialiserComplete.{state, declaration_moves, finds_expression, finds_declaration}

module _ (text : List ℕ) (ts : List Token) where
  no_specs-mark : (at : ℕ) (scope : Scope) (m : Mark) → IsMark ts at m → begins_specs text ts scope at ≡ false
  unfolding begins_specs
  no_specs-mark at scope m is = rw is refl

  -- a closing brace begins no specifiers
  pub specs_open : (at : ℕ) (scope : Scope) → begins_specs text ts scope at ≡ true → kind_at ts at ≢ Some (k.Mark mark.RightBrace)
  specs_open at scope begins h = let none = no_specs-mark at scope mark.RightBrace h in cc

module _ {text : List ℕ} {ts : List Token} where
  -- ---- tokens are taken

  optional_moves : {depth from to : ℕ} {scope after : Scope} {e : Option Expression} → IsOptional text ts depth scope after from to e → from ≤ to
  optional_moves g.absent = omega arith
  optional_moves (g.present is) = let i = expression_moves text ts is in omega arith

  start_moves : {depth from to : ℕ} {scope after : Scope} {f : ForStart} → IsForStart text ts depth scope after from to f → from < to
  start_moves (g.declaration is) = declaration_moves is
  start_moves (g.expression is end) = let i = optional_moves is in omega arith

  mutual
    pub block_moves : {depth from to : ℕ} {scope : Scope} {b : Block} → IsBlock text ts depth scope from to b → from < to
    block_moves (g.block opens all closes) = let i = items_move all in omega arith

    pub items_move : {depth from to : ℕ} {scope : Scope} {all : List BlockItem} → AreItems text ts depth scope from to all → from + length all ≤ to
    items_move g.no_items = omega arith
    items_move (g.declaration_first is rest) = let i = declaration_moves is in let j = items_move rest in omega arith
    items_move (g.statement_first is rest) = let i = statement_moves is in let j = items_move rest in omega arith

    pub statement_moves : {depth from to : ℕ} {scope after : Scope} {s : Statement} → IsStatement text ts depth scope after from to s → from < to
    statement_moves (g.of_block is) = block_moves is
    statement_moves (g.empty is) = omega arith
    statement_moves (g.expression is end) = let i = expression_moves text ts is in omega arith
    statement_moves (g.if_alone word opens is closes body alone) = let i = expression_moves text ts is in let j = statement_moves body in omega arith
    statement_moves (g.if_else word opens is closes body else other) =
        let i = expression_moves text ts is in let j = statement_moves body in let l = statement_moves other in omega arith
    statement_moves (g.while word opens is closes body) = let i = expression_moves text ts is in let j = statement_moves body in omega arith
    statement_moves (g.do_while word body while opens is closes end) = let i = expression_moves text ts is in let j = statement_moves body in omega arith
    statement_moves (g.for word opens start test end step closes body) =
        let h = start_moves start in let i = optional_moves test in let j = optional_moves step in let l = statement_moves body in omega arith
    statement_moves (g.switch word opens is closes body) = let i = expression_moves text ts is in let j = block_moves body in omega arith
    statement_moves (g.case word is end) = let i = expression_moves text ts is in omega arith
    statement_moves (g.default word end) = omega arith
    statement_moves (g.break word end) = omega arith
    statement_moves (g.continue word end) = omega arith
    statement_moves (g.return word is end) = let i = optional_moves is in omega arith

  -- ---- depth

  block_counts : {depth from to : ℕ} {scope : Scope} {b : Block} → IsBlock text ts depth scope from to b → 1 ≤ depth
  block_counts (g.block opens all closes) = omega arith

  statement_counts : {depth from to : ℕ} {scope after : Scope} {s : Statement} → IsStatement text ts depth scope after from to s → 1 ≤ depth
  statement_counts (g.of_block is) = block_counts is
  statement_counts _ = omega arith

  -- ---- how statements and declarations begin

  pub block_opens : {depth from to : ℕ} {scope : Scope} {b : Block} → IsBlock text ts depth scope from to b → IsMark ts from mark.LeftBrace
  block_opens (g.block opens all closes) = opens

  pub declaration_begins : {depth from to : ℕ} {scope after : Scope} {d : Declaration} → IsDeclaration text ts depth scope after from to d →
      begins_specs text ts scope from ≡ true
  declaration_begins (of_no_name is end) = specs_begin text ts is
  declaration_begins (of_names is all end) = specs_begin text ts is

  optional_no_specs : {depth from to : ℕ} {scope after : Scope} {e : Option Expression} → IsOptional text ts depth scope after from to e →
      IsMark ts to mark.Semicolon → begins_specs text ts scope from ≡ false
  optional_no_specs (g.absent {at} {scope}) end = no_specs-mark text ts at scope mark.Semicolon end
  optional_no_specs (g.present is) end = expression_no_specs is

  statement_no_specs : {depth from to : ℕ} {scope after : Scope} {s : Statement} → IsStatement text ts depth scope after from to s →
      begins_specs text ts scope from ≡ false
  unfolding begins_specs
  statement_no_specs (g.of_block (g.block opens all closes)) = rw opens refl
  statement_no_specs (g.empty is) = rw is refl
  statement_no_specs (g.expression is end) = expression_no_specs is
  statement_no_specs (g.if_alone word opens is closes body alone) = rw word refl
  statement_no_specs (g.if_else word opens is closes body else other) = rw word refl
  statement_no_specs (g.while word opens is closes body) = rw word refl
  statement_no_specs (g.do_while word body while opens is closes end) = rw word refl
  statement_no_specs (g.for word opens start test end step closes body) = rw word refl
  statement_no_specs (g.switch word opens is closes body) = rw word refl
  statement_no_specs (g.case word is end) = rw word refl
  statement_no_specs (g.default word end) = rw word refl
  statement_no_specs (g.break word end) = rw word refl
  statement_no_specs (g.continue word end) = rw word refl
  statement_no_specs (g.return word is end) = rw word refl

  statement_open : {depth from to : ℕ} {scope after : Scope} {s : Statement} → IsStatement text ts depth scope after from to s →
      kind_at ts from ≢ Some (k.Mark mark.RightBrace)
  statement_open (g.of_block (g.block opens all closes)) h = cc
  statement_open (g.empty is) h = cc
  statement_open (g.expression is end) h = expression_instead is (k.Mark mark.RightBrace) refl h
  statement_open (g.if_alone word opens is closes body alone) h = cc
  statement_open (g.if_else word opens is closes body else other) h = cc
  statement_open (g.while word opens is closes body) h = cc
  statement_open (g.do_while word body while opens is closes end) h = cc
  statement_open (g.for word opens start test end step closes body) h = cc
  statement_open (g.switch word opens is closes body) h = cc
  statement_open (g.case word is end) h = cc
  statement_open (g.default word end) h = cc
  statement_open (g.break word end) h = cc
  statement_open (g.continue word end) h = cc
  statement_open (g.return word is end) h = cc

-- ---- steps of the readers

module _ (text : List ℕ) (ts : List Token) (phrases : ℕ → Readers) (depth : ℕ) where
  closed_is : (level from to : ℕ) (scope after : Scope) (e : Expression) (m : Mark) →
      expression_at ts phrases depth level (state from scope) ≡ Some (e, state to after) → IsMark ts to m →
      step.expression_before text ts phrases depth level m (state from scope) ≡ Some (e, state (to + 1) after)
  unfolding step.expression_before
  closed_is level from to scope after e m found is = rw (found, here ts to _ is) refl

  optional-nothing : (at : ℕ) (scope : Scope) (m : Mark) → IsMark ts at m →
      step.optional_before text ts phrases depth m (state at scope) ≡ Some (None, state (at + 1) scope)
  unfolding step.optional_before
  optional-nothing at scope m is = rw (here ts at _ is) refl

  optional-some : (from : ℕ) (scope : Scope) (m : Mark) (e : Expression) (t : State) → kind_at ts from ≢ Some (k.Mark m) →
      step.expression_before text ts phrases depth (tightness of.Comma) m (state from scope) ≡ Some (e, t) → step.optional_before text ts phrases depth m (state from scope) ≡ Some (Some e, t)
  unfolding step.optional_before
  optional-some from scope m e t other found = rw (not_here ts from _ other, found) refl

  condition_is : (from : ℕ) (scope : Scope) (e : Expression) (t : State) → IsMark ts (from + 1) mark.LeftParen →
      step.expression_before text ts phrases depth (tightness of.Comma) mark.RightParen (state (from + 2) scope) ≡ Some (e, t) →
      step.condition text ts phrases depth (state from scope) ≡ Some (e, t)
  unfolding step.condition
  condition_is from scope e t opens found = rw (here ts (from + 1) _ opens, found) refl

  start-declaration : (from : ℕ) (scope : Scope) (d : Declaration) (t : State) → begins_specs text ts scope from ≡ true →
      declaration ts phrases depth (state from scope) ≡ Some (d, t) → step.for_start text ts phrases depth (state from scope) ≡ Some (begin.Declaration d, t)
  unfolding step.for_start
  start-declaration from scope d t begins found = rw (begins, found) refl

  start-expression : (from : ℕ) (scope : Scope) (e : Option Expression) (t : State) → begins_specs text ts scope from ≡ false →
      step.optional_before text ts phrases depth mark.Semicolon (state from scope) ≡ Some (e, t) →
      step.for_start text ts phrases depth (state from scope) ≡ Some (begin.Expression e, t)
  unfolding step.for_start
  start-expression from scope e t other found = rw (other, found) refl

  by_itself_is : (from : ℕ) (scope : Scope) (m : Mark) (whole : Statement) → IsMark ts (from + 1) m →
      step.word_before text ts phrases depth m whole (state from scope) ≡ Some (whole, state (from + 2) scope)
  unfolding step.word_before
  by_itself_is from scope m whole is = rw (here ts (from + 1) _ is) refl

  of_expression_is : (from : ℕ) (scope : Scope) (e : Expression) (t : State) →
      step.expression_before text ts phrases depth (tightness of.Comma) mark.Semicolon (state from scope) ≡ Some (e, t) →
      step.expression_statement text ts phrases depth (state from scope) ≡ Some (node.Expression (place_at ts from) e, t)
  unfolding step.expression_statement
  of_expression_is from scope e t found = rw found refl

  case_is : (from : ℕ) (scope : Scope) (e : Expression) (t : State) →
      step.expression_before text ts phrases depth (tightness of.Conditional) mark.Colon (state (from + 1) scope) ≡ Some (e, t) →
      step.case_label text ts phrases depth (state from scope) ≡ Some (node.Case (place_at ts from) e, t)
  unfolding step.case_label
  case_is from scope e t found = rw found refl

  return_is : (from : ℕ) (scope : Scope) (e : Option Expression) (t : State) →
      step.optional_before text ts phrases depth mark.Semicolon (state (from + 1) scope) ≡ Some (e, t) →
      step.return_statement text ts phrases depth (state from scope) ≡ Some (node.Return (place_at ts from) e, t)
  unfolding step.return_statement
  return_is from scope e t found = rw found refl

  switch_is : (block : Reading Block) (from at to : ℕ) (scope one after : Scope) (e : Expression) (b : Block) →
      step.condition text ts phrases depth (state from scope) ≡ Some (e, state at one) → block (state at one) ≡ Some (b, state to after) →
      step.switch_statement text ts phrases depth block (state from scope) ≡ Some (node.Switch (place_at ts from) e b, state to scope)
  unfolding step.switch_statement
  switch_is block from at to scope one after e b found body = rw (found, body) refl

  module _ (inner : Reading Statement) where
    item-declaration : (from : ℕ) (scope : Scope) (d : Declaration) (t : State) → begins_specs text ts scope from ≡ true →
        declaration ts phrases depth (state from scope) ≡ Some (d, t) →
        step.item_of text ts phrases depth inner (state from scope) ≡ Some (item.Declaration d, t)
    unfolding step.item_of
    item-declaration from scope d t begins found = rw (begins, found) refl

    item-statement : (from : ℕ) (scope : Scope) (s : Statement) (t : State) → begins_specs text ts scope from ≡ false → inner (state from scope) ≡ Some (s, t) →
        step.item_of text ts phrases depth inner (state from scope) ≡ Some (item.Statement s, t)
    unfolding step.item_of
    item-statement from scope s t other found = rw (other, found) refl

    items_end : (n : ℕ) (found : List BlockItem) (at : ℕ) (scope : Scope) → IsMark ts at mark.RightBrace →
        step.items text ts phrases depth inner (suc n) found (state at scope) ≡ Some (found, state (at + 1) scope)
    unfolding step.items
    items_end n found at scope closes = rw (here ts at _ closes) refl

    items_more : (n : ℕ) (found : List BlockItem) (from : ℕ) (scope : Scope) (x : BlockItem) (t : State) → kind_at ts from ≢ Some (k.Mark mark.RightBrace) →
        step.item_of text ts phrases depth inner (state from scope) ≡ Some (x, t) →
        step.items text ts phrases depth inner (suc n) found (state from scope) ≡ step.items text ts phrases depth inner n (found ++ x ∷ []) t
    unfolding step.items
    items_more n found from scope x t other is = rw (not_here ts from _ other, is) refl

    block_of_is : (from to : ℕ) (scope after : Scope) (all : List BlockItem) → IsMark ts from mark.LeftBrace →
        step.items text ts phrases depth inner (length ts) [] (state (from + 1) scope) ≡ Some (all, state to after) →
        step.block_of text ts phrases depth inner (state from scope) ≡ Some (record { place = place_at ts from; items = all }, state to scope)
    unfolding step.block_of
    block_of_is from to scope after all opens found = rw (here ts from _ opens, found) refl

    whole_block_is : (s : State) (b : Block) (t : State) → step.block_of text ts phrases depth inner s ≡ Some (b, t) →
        step.block_statement text ts phrases depth inner s ≡ Some (node.Block b, t)
    unfolding step.block_statement
    whole_block_is s b t found = rw found refl

    alone_is : (from at to : ℕ) (scope one two : Scope) (e : Expression) (s : Statement) →
        step.condition text ts phrases depth (state from scope) ≡ Some (e, state at one) → inner (state at one) ≡ Some (s, state to two) →
        (IsWord ts to word.Else → ⊥) → step.if_statement text ts phrases depth inner (state from scope) ≡ Some (node.If (place_at ts from) e s, state to scope)
    unfolding step.if_statement step.else_after
    alone_is from at to scope one two e s found body other = rw (found, body, not_here ts to (k.Word word.Else) other) refl

    else_is : (from at middle to : ℕ) (scope one two three : Scope) (e : Expression) (s other : Statement) →
        step.condition text ts phrases depth (state from scope) ≡ Some (e, state at one) → inner (state at one) ≡ Some (s, state middle two) →
        IsWord ts middle word.Else → inner (state (middle + 1) one) ≡ Some (other, state to three) →
        step.if_statement text ts phrases depth inner (state from scope) ≡ Some (node.IfElse (place_at ts from) e s other, state to scope)
    unfolding step.if_statement step.else_after
    else_is from at middle to scope one two three e s other found body else rest = rw (found, body, here ts middle _ else, rest) refl

    while_is : (from at to : ℕ) (scope one two : Scope) (e : Expression) (s : Statement) →
        step.condition text ts phrases depth (state from scope) ≡ Some (e, state at one) → inner (state at one) ≡ Some (s, state to two) →
        step.while_statement text ts phrases depth inner (state from scope) ≡ Some (node.While (place_at ts from) e s, state to scope)
    unfolding step.while_statement
    while_is from at to scope one two e s found body = rw (found, body) refl

    do_is : (from at to : ℕ) (scope one two : Scope) (s : Statement) (e : Expression) → inner (state (from + 1) scope) ≡ Some (s, state at one) →
        IsWord ts at word.While → step.condition text ts phrases depth (state at scope) ≡ Some (e, state (to + 1) two) → IsMark ts (to + 1) mark.Semicolon →
        step.do_statement text ts phrases depth inner (state from scope) ≡ Some (node.Do (place_at ts from) s e, state (to + 2) scope)
    unfolding step.do_statement
    do_is from at to scope one two s e body word found end =
        let same : to + 1 + 1 ≡ to + 2 = omega arith in
        rw (body, here ts at _ word, found, here ts (to + 1) _ end) (ap (λ n. Some (node.Do (place_at ts from) s e, state n scope)) same)

    for_is : (from to : ℕ) (scope four : Scope) (one two three : State) (start : ForStart) (test move : Option Expression) (s : Statement) →
        IsMark ts (from + 1) mark.LeftParen → step.for_start text ts phrases depth (state (from + 2) scope) ≡ Some (start, one) →
        step.optional_before text ts phrases depth mark.Semicolon one ≡ Some (test, two) → step.optional_before text ts phrases depth mark.RightParen two ≡ Some (move, three) →
        inner three ≡ Some (s, state to four) →
        step.for_statement text ts phrases depth inner (state from scope) ≡ Some (node.For (place_at ts from) start test move s, state to scope)
    unfolding step.for_statement
    for_is from to scope four one two three start test move s opens a b c body = rw (here ts (from + 1) _ opens, a, b, c, body) refl

  -- what begins an expression begins a statement of an expression
  expression_by : (inner : Reading Statement) (block : Reading Block) (s : State) (kind : Option Kind) → begins_expression kind ≡ true →
      step.statement_by text ts phrases depth inner block s kind ≡ step.expression_statement text ts phrases depth s
  expression_by inner block s (Some (k.Word word.Sizeof)) h = refl
  expression_by inner block s (Some (k.Word w)) h = absurd cc
  expression_by inner block s (Some (k.Mark mark.LeftBrace)) h = absurd cc
  expression_by inner block s (Some (k.Mark mark.Semicolon)) h = absurd cc
  expression_by inner block s (Some (k.Mark m)) h = refl
  expression_by inner block s (Some _) h = refl
  expression_by inner block s None h = absurd cc

module _ (text : List ℕ) (ts : List Token) (phrases : ℕ → Readers) where
  statement_at : (depth from : ℕ) (scope : Scope) (kind : Option Kind) → kind_at ts from ≡ kind →
      step.statement text ts phrases (suc depth) (state from scope)
      ≡ step.statement_by text ts phrases depth (step.statement text ts phrases depth) (step.block text ts phrases depth) (state from scope) kind
  unfolding step.statement
  statement_at depth from scope kind is = rw is refl

  block-suc : (depth : ℕ) (s : State) → step.block text ts phrases (suc depth) s ≡ step.block_of text ts phrases depth (step.statement text ts phrases depth) s
  unfolding step.block
  block-suc depth s = refl

module _ (text : List ℕ) (ts : List Token) (phrases : ℕ → Readers) (exact : (d : ℕ) → Exact text ts d (phrases d)) where
  finds_closed : {d level from to : ℕ} {scope after : Scope} {e : Expression} → IsExpression text ts d level scope after from to e →
      (depth : ℕ) → d ≤ depth → (m : Mark) → IsMark ts to m → ends level (Some (k.Mark m)) ≡ true →
      step.expression_before text ts phrases depth level m (state from scope) ≡ Some (e, state (to + 1) after)
  finds_closed {level} {from} {to} {scope} {after} {e} is depth low m closes kind_level =
      closed_is text ts phrases depth level from to scope after e m (finds_expression text ts phrases exact is depth low (rw closes kind_level)) closes

  finds_optional : {d from to : ℕ} {scope after : Scope} {e : Option Expression} → IsOptional text ts d scope after from to e →
      (depth : ℕ) → d ≤ depth → (m : Mark) → IsMark ts to m → ends (tightness of.Comma) (Some (k.Mark m)) ≡ true → begins_expression (Some (k.Mark m)) ≡ false →
      step.optional_before text ts phrases depth m (state from scope) ≡ Some (e, state (to + 1) after)
  finds_optional (g.absent {at} {scope}) depth low m closes kind_level other = optional-nothing text ts phrases depth at scope m closes
  finds_optional (g.present {from} {to} {scope} {after} {value} is) depth low m closes kind_level other =
      optional-some text ts phrases depth from scope m value (state (to + 1) after) (expression_instead is (k.Mark m) other)
      (finds_closed is depth low m closes kind_level)

  finds_condition : (from : ℕ) {d at : ℕ} {scope one : Scope} {e : Expression} → IsMark ts (from + 1) mark.LeftParen →
      IsExpression text ts d (tightness of.Comma) scope one (from + 2) at e → IsMark ts at mark.RightParen → (depth : ℕ) → d ≤ depth →
      step.condition text ts phrases depth (state from scope) ≡ Some (e, state (at + 1) one)
  finds_condition from {at} {scope} {one} {e} opens is closes depth low =
      condition_is text ts phrases depth from scope e (state (at + 1) one) opens (finds_closed is depth low mark.RightParen closes refl)

  finds_start : {d from to : ℕ} {scope after : Scope} {f : ForStart} → IsForStart text ts d scope after from to f → (depth : ℕ) → d ≤ depth →
      step.for_start text ts phrases depth (state from scope) ≡ Some (f, state to after)
  finds_start (g.declaration {from} {to} {scope} {after} {first} is) depth low =
      start-declaration text ts phrases depth from scope first (state to after) (declaration_begins is) (finds_declaration text ts phrases exact is depth low)
  finds_start (g.expression {from} {to} {scope} {after} {first} is end) depth low =
      start-expression text ts phrases depth from scope first (state (to + 1) after) (optional_no_specs is end)
      (finds_optional is depth low mark.Semicolon end refl refl)

  mutual
    pub finds_statement : {d from to : ℕ} {scope after : Scope} {s : Statement} → IsStatement text ts d scope after from to s →
        (depth : ℕ) → d ≤ depth → step.statement text ts phrases depth (state from scope) ≡ Some (s, state to after)
    finds_statement is zero low = absurd (let some = statement_counts is in omega arith)
    finds_statement (g.of_block {from} {to} {scope} {inner} is) (suc depth) low =
        statement_at text ts phrases depth from scope (Some (k.Mark mark.LeftBrace)) (block_opens is)
        ∙ whole_block_is text ts phrases depth (step.statement text ts phrases depth) (state from scope) inner (state to scope)
        (sym (block-suc text ts phrases depth (state from scope)) ∙ finds_block is (suc depth) low)
    finds_statement (g.empty {from} {scope} is) (suc depth) low = statement_at text ts phrases depth from scope _ is
    finds_statement (g.expression {from} {to} {scope} {after} {value} is end) (suc depth) low =
        statement_at text ts phrases depth from scope (kind_at ts from) refl
        ∙ expression_by text ts phrases depth (step.statement text ts phrases depth) (step.block text ts phrases depth) (state from scope) (kind_at ts from) (expression_begins is)
        ∙ of_expression_is text ts phrases depth from scope value (state (to + 1) after) (finds_closed is depth (omega arith) mark.Semicolon end refl)
    finds_statement (g.if_alone {from} {at} {to} {scope} {one} {two} {test} {then = first} word opens is closes body alone) (suc depth) low =
        statement_at text ts phrases depth from scope _ word
        ∙ alone_is text ts phrases depth (step.statement text ts phrases depth) from (at + 1) to scope one two test first
        (finds_condition from opens is closes depth (omega arith)) (finds_statement body depth (omega arith)) alone
    finds_statement (g.if_else {from} {at} {middle} {to} {scope} {one} {two} {three} {test} {then = first} {otherwise} word opens is closes body else other) (suc depth) low =
        statement_at text ts phrases depth from scope _ word
        ∙ else_is text ts phrases depth (step.statement text ts phrases depth) from (at + 1) middle to scope one two three test first otherwise
        (finds_condition from opens is closes depth (omega arith)) (finds_statement body depth (omega arith)) else (finds_statement other depth (omega arith))
    finds_statement (g.while {from} {at} {to} {scope} {one} {two} {test} {body = inner} word opens is closes body) (suc depth) low =
        statement_at text ts phrases depth from scope _ word
        ∙ while_is text ts phrases depth (step.statement text ts phrases depth) from (at + 1) to scope one two test inner
        (finds_condition from opens is closes depth (omega arith)) (finds_statement body depth (omega arith))
    finds_statement (g.do_while {from} {at} {to} {scope} {one} {two} {body = inner} {test} word body while opens is closes end) (suc depth) low =
        statement_at text ts phrases depth from scope _ word
        ∙ do_is text ts phrases depth (step.statement text ts phrases depth) from at to scope one two inner test
        (finds_statement body depth (omega arith)) while (finds_condition at opens is closes depth (omega arith)) end
    finds_statement (g.for {from} {at} {middle} {last} {to} {scope} {one} {two} {three} {four} {start} {test = second} {step = third} {body = inner} word opens first test end move closes body)
        (suc depth) low =
        statement_at text ts phrases depth from scope _ word
        ∙ for_is text ts phrases depth (step.statement text ts phrases depth) from to scope four (state at one) (state (middle + 1) two) (state (last + 1) three) start second third inner
        opens (finds_start first depth (omega arith)) (finds_optional test depth (omega arith) mark.Semicolon end refl refl)
        (finds_optional move depth (omega arith) mark.RightParen closes refl refl) (finds_statement body depth (omega arith))
    finds_statement (g.switch {from} {at} {to} {scope} {one} {value} {body = inner} word opens is closes body) (suc depth) low =
        statement_at text ts phrases depth from scope _ word
        ∙ switch_is text ts phrases depth (step.block text ts phrases depth) from (at + 1) to scope one one value inner
        (finds_condition from opens is closes depth (omega arith)) (finds_block body depth (omega arith))
    finds_statement (g.case {from} {to} {scope} {after} {value} word is end) (suc depth) low =
        statement_at text ts phrases depth from scope _ word
        ∙ case_is text ts phrases depth from scope value (state (to + 1) after) (finds_closed is depth (omega arith) mark.Colon end refl)
    finds_statement (g.default {from} {scope} word end) (suc depth) low =
        statement_at text ts phrases depth from scope _ word ∙ by_itself_is text ts phrases depth from scope mark.Colon (node.Default (place_at ts from)) end
    finds_statement (g.break {from} {scope} word end) (suc depth) low =
        statement_at text ts phrases depth from scope _ word ∙ by_itself_is text ts phrases depth from scope mark.Semicolon (node.Break (place_at ts from)) end
    finds_statement (g.continue {from} {scope} word end) (suc depth) low =
        statement_at text ts phrases depth from scope _ word ∙ by_itself_is text ts phrases depth from scope mark.Semicolon (node.Continue (place_at ts from)) end
    finds_statement (g.return {from} {to} {scope} {after} {value} word is end) (suc depth) low =
        statement_at text ts phrases depth from scope _ word
        ∙ return_is text ts phrases depth from scope value (state (to + 1) after) (finds_optional is depth (omega arith) mark.Semicolon end refl refl)

    pub finds_block : {d from to : ℕ} {scope : Scope} {b : Block} → IsBlock text ts d scope from to b → (depth : ℕ) → d ≤ depth →
        step.block text ts phrases depth (state from scope) ≡ Some (b, state to scope)
    finds_block is zero low = absurd (let some = block_counts is in omega arith)
    finds_block (g.block {from} {to} {scope} {all = list} opens all closes) (suc depth) low =
        let room : length list + 1 ≤ length ts = (let i = items_move all in let j = stands_within ts to _ closes in omega arith) in
        let (after, found) = finds_items all depth (omega arith) closes (length ts) [] room in
        block-suc text ts phrases depth (state from scope)
        ∙ block_of_is text ts phrases depth (step.statement text ts phrases depth) from (to + 1) scope after list opens found

    finds_items : {d from to : ℕ} {scope : Scope} {all : List BlockItem} → AreItems text ts d scope from to all → (depth : ℕ) → d ≤ depth →
        IsMark ts to mark.RightBrace → (n : ℕ) (found : List BlockItem) → length all + 1 ≤ n →
        (after : Scope) × (step.items text ts phrases depth (step.statement text ts phrases depth) n found (state from scope) ≡ Some (found ++ all, state (to + 1) after))
    finds_items is depth low closes zero found room = absurd (omega arith)
    finds_items (g.no_items {at} {scope}) depth low closes (suc n) found room = (
      scope,
      items_end text ts phrases depth (step.statement text ts phrases depth) n found at scope closes
          ∙ ap (λ l. Some (l, state (at + 1) scope)) (sym (append-nil found)),
    )
    finds_items (g.declaration_first {from} {at} {to} {scope} {between} {first} {rest = list} is rest) depth low closes (suc n) found room =
        let (after, others) = finds_items rest depth low closes n (found ++ item.Declaration first ∷ []) (omega arith) in (
          after,
          items_more text ts phrases depth (step.statement text ts phrases depth) n found from scope (item.Declaration first) (state at between)
              (specs_open text ts from scope (declaration_begins is))
              (item-declaration text ts phrases depth (step.statement text ts phrases depth) from scope first (state at between) (declaration_begins is)
              (finds_declaration text ts phrases exact is depth low))
              ∙ others ∙ ap (λ l. Some (l, state (to + 1) after)) (append_assoc found (item.Declaration first ∷ []) list),
        )
    finds_items (g.statement_first {from} {at} {to} {scope} {between} {first} {rest = list} is rest) depth low closes (suc n) found room =
        let (after, others) = finds_items rest depth low closes n (found ++ item.Statement first ∷ []) (omega arith) in (
          after,
          items_more text ts phrases depth (step.statement text ts phrases depth) n found from scope (item.Statement first) (state at between) (statement_open is)
              (item-statement text ts phrases depth (step.statement text ts phrases depth) from scope first (state at between) (statement_no_specs is) (finds_statement is depth low))
              ∙ others ∙ ap (λ l. Some (l, state (to + 1) after)) (append_assoc found (item.Statement first ∷ []) list),
        )
