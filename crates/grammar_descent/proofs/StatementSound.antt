-- What is read is a statement or a block.
use Rattle.std.proofs.Common.{◌≡◌, ℕ, zero, suc, ◌+◌, List, [], ◌∷◌, ◌++◌, length, Option, Some, None, inl, inr, refl, sym, subst, ◌∙◌, arith, append_assoc, append-nil}
use Rattle.c_tokens.specs.declared.token.Token.{Token}
use Rattle.c_tokens.specs.declared.kind.Kind.{Kind}
use Rattle.c_tokens.specs.declared.kind.Kind.TheVariants as k
use Rattle.c_tokens.specs.declared.kind.Keyword.TheVariants as word
use Rattle.c_tokens.specs.declared.kind.Mark.{Mark}
use Rattle.c_tokens.specs.declared.kind.Mark.TheVariants as mark
use Rattle.c_grammar.specs.declared.words.Level.TheVariants as of
use Rattle.c_grammar.specs.declared.phrases.Expression.{Expression}
use Rattle.c_grammar.specs.declared.statements.Block.{Block}
use Rattle.c_grammar.specs.declared.statements.BlockItem.{BlockItem}
use Rattle.c_grammar.specs.declared.statements.BlockItem.TheVariants as item
use Rattle.c_grammar.specs.declared.statements.ForStart.{ForStart}
use Rattle.c_grammar.specs.declared.statements.ForStart.TheVariants as begin
use Rattle.c_grammar.specs.declared.statements.Statement.{Statement}
use Rattle.c_grammar.specs.declared.statements.Statement.TheVariants as node
use Rattle.c_grammar.specs.Tokens.{kind_at, place_at, IsMark, IsWord}
use Rattle.c_grammar.specs.Scope.{Scope}
use Rattle.c_grammar.specs.Operators.{tightness}
use Rattle.c_grammar.specs.Phrases.{IsExpression}
use Rattle.c_grammar.specs.Statements as g
use Rattle.c_grammar.specs.Statements.{IsOptional, IsForStart, IsBlock, AreItems, IsStatement}
use Rattle.grammar_descent.specs.Reading.{State, Reading, mark_at, word_at, past, Readers}
use Rattle.grammar_descent.specs.Exact.{Exact}
use Rattle.grammar_descent.specs.Types.{begins_specs}
use Rattle.grammar_descent.specs.InitialiserSteps.{expression_at, declaration}
use Rattle.grammar_descent.specs.StatementSteps as step
use Rattle.grammar_descent.specs.StatementSteps.{back}
use Rattle.grammar_descent.proofs.Seen.{stands, stands_not, bind_some, chosen, seen}
use Rattle.grammar_descent.proofs.InitialiserSound.{sound_expression, sound_declaration}

module _ (text : List ℕ) (ts : List Token) (depth : ℕ) where
  -- a statement, a block, from the one state up to the other
  abbrev pub SomeStatement : State → Statement × State → Type 0
  SomeStatement s f = IsStatement text ts depth s.scope f.1.scope s.at f.1.at f.0

  pub record SomeBlock (s : State) (f : Block × State) : Type 0 where
    pub is : IsBlock text ts depth s.scope s.at f.1.at f.0
    pub scope : f.1.scope ≡ s.scope

  -- an expression, and the mark after it
  record Closed (level : ℕ) (m : Mark) (s : State) (f : Expression × State) : Type 0 where
    pub middle : ℕ
    pub is : IsExpression text ts depth level s.scope f.1.scope s.at middle f.0
    pub closes : IsMark ts middle m
    pub next : f.1.at ≡ middle + 1

  record OptionalClosed (m : Mark) (s : State) (f : Option Expression × State) : Type 0 where
    pub middle : ℕ
    pub is : IsOptional text ts depth s.scope f.1.scope s.at middle f.0
    pub closes : IsMark ts middle m
    pub next : f.1.at ≡ middle + 1

  record InParentheses (s : State) (f : Expression × State) : Type 0 where
    pub middle : ℕ
    pub opens : IsMark ts (s.at + 1) mark.LeftParen
    pub is : IsExpression text ts depth (tightness of.Comma) s.scope f.1.scope (s.at + 2) middle f.0
    pub closes : IsMark ts middle mark.RightParen
    pub next : f.1.at ≡ middle + 1

  -- what was found before, and then items up to the brace
  record ItemsFound (found : List BlockItem) (s : State) (f : List BlockItem × State) : Type 0 where
    pub rest : List BlockItem
    pub middle : ℕ
    pub all : f.0 ≡ found ++ rest
    pub each : AreItems text ts depth s.scope s.at middle rest
    pub closes : IsMark ts middle mark.RightBrace
    pub next : f.1.at ≡ middle + 1

-- the same statement or phrase at a place that is given otherwise
module _ {text : List ℕ} {ts : List Token} {depth : ℕ} where
  from_there : {scope after : Scope} {to : ℕ} {s : Statement} (from other : ℕ) → from ≡ other → IsStatement text ts depth scope after from to s →
      IsStatement text ts depth scope after other to s
  from_there {scope} {after} {to} {s} from other same is = subst (λ n. IsStatement text ts depth scope after n to s) same is

  up_to : {scope after : Scope} {from : ℕ} {s : Statement} (to other : ℕ) → to ≡ other → IsStatement text ts depth scope after from to s →
      IsStatement text ts depth scope after from other s
  up_to {scope} {after} {from} {s} to other same is = subst (λ n. IsStatement text ts depth scope after from n s) same is

module _ (text : List ℕ) (ts : List Token) (phrases : ℕ → Readers) (exact : (d : ℕ) → Exact text ts d (phrases d)) (depth : ℕ) where
  sound_expression_before : (level : ℕ) (m : Mark) (s : State) (f : Expression × State) → step.expression_before text ts phrases depth level m s ≡ Some f → Closed text ts depth level m s f
  unfolding step.expression_before
  sound_expression_before level m s f h =
      let (value, found, h1) = bind_some (expression_at ts phrases depth level s) _ f h in
      let (closes, h2) = seen ts value.1.at (k.Mark m) _ f h1 in
      let e : (value.0, past value.1 1) ≡ f = cc in
      subst (λ f. Closed text ts depth level m s f) e
      (record { middle = value.1.at; is = sound_expression text ts phrases exact depth level s value found; closes = closes; next = refl })

  sound_optional : (m : Mark) (s : State) (f : Option Expression × State) → step.optional_before text ts phrases depth m s ≡ Some f → OptionalClosed text ts depth m s f
  unfolding step.optional_before
  sound_optional m s f h =
      elim (chosen (mark_at ts s.at m) (Some (None, past s 1)) _ (Some f) h) [
        | inl c ↦ (
            let e : (None, past s 1) ≡ f = (let i = c.1 in cc) in
            subst (λ f. OptionalClosed text ts depth m s f) e (record { middle = s.at; is = g.absent; closes = stands ts s.at _ c.0; next = refl }))
        | inr c ↦ (
            let (value, found, h1) = bind_some (step.expression_before text ts phrases depth (tightness of.Comma) m s) _ f c.1 in
            let r = sound_expression_before (tightness of.Comma) m s value found in
            let e : (Some value.0, value.1) ≡ f = cc in
            subst (λ f. OptionalClosed text ts depth m s f) e (record { middle = r.middle; is = g.present r.is; closes = r.closes; next = r.next }))
      ]

  sound_condition : (s : State) (f : Expression × State) → step.condition text ts phrases depth s ≡ Some f → InParentheses text ts depth s f
  unfolding step.condition
  sound_condition s f h =
      let (opens, h1) = seen ts (s.at + 1) (k.Mark mark.LeftParen) _ f h in
      let r = sound_expression_before (tightness of.Comma) mark.RightParen (past s 2) f h1 in
      record { middle = r.middle; opens = opens; is = r.is; closes = r.closes; next = r.next }

  sound_start : (s : State) (f : ForStart × State) → step.for_start text ts phrases depth s ≡ Some f → IsForStart text ts depth s.scope f.1.scope s.at f.1.at f.0
  unfolding step.for_start
  sound_start s f h =
      elim (chosen (begins_specs text ts s.scope s.at) _ _ (Some f) h) [
        | inl c ↦ (
            let (d, found, h1) = bind_some (declaration ts phrases depth s) _ f c.1 in
            let e : (begin.Declaration d.0, d.1) ≡ f = cc in
            subst (λ f. IsForStart text ts depth s.scope f.1.scope s.at f.1.at f.0) e (g.declaration (sound_declaration text ts phrases exact depth s d found)))
        | inr c ↦ (
            let (value, found, h1) = bind_some (step.optional_before text ts phrases depth mark.Semicolon s) _ f c.1 in
            let r = sound_optional mark.Semicolon s value found in
            let e : (begin.Expression value.0, value.1) ≡ f = cc in
            subst (λ f. IsForStart text ts depth s.scope f.1.scope s.at f.1.at f.0) e
            (subst (λ n. IsForStart text ts depth s.scope value.1.scope s.at n (begin.Expression value.0)) (sym r.next) (g.expression r.is r.closes)))
      ]

  sound_of_expression : (s : State) (f : Statement × State) → step.expression_statement text ts phrases depth s ≡ Some f → SomeStatement text ts (suc depth) s f
  unfolding step.expression_statement
  sound_of_expression s f h =
      let (value, found, h1) = bind_some (step.expression_before text ts phrases depth (tightness of.Comma) mark.Semicolon s) _ f h in
      let r = sound_expression_before (tightness of.Comma) mark.Semicolon s value found in
      let e : (node.Expression (place_at ts s.at) value.0, value.1) ≡ f = cc in
      subst (λ f. SomeStatement text ts (suc depth) s f) e (up_to (r.middle + 1) value.1.at (sym r.next) (g.expression r.is r.closes))

  sound_case : (s : State) (f : Statement × State) → IsWord ts s.at word.Case → step.case_label text ts phrases depth s ≡ Some f → SomeStatement text ts (suc depth) s f
  unfolding step.case_label
  sound_case s f first h =
      let (value, found, h1) = bind_some (step.expression_before text ts phrases depth (tightness of.Conditional) mark.Colon (past s 1)) _ f h in
      let r = sound_expression_before (tightness of.Conditional) mark.Colon (past s 1) value found in
      let e : (node.Case (place_at ts s.at) value.0, value.1) ≡ f = cc in
      subst (λ f. SomeStatement text ts (suc depth) s f) e (up_to (r.middle + 1) value.1.at (sym r.next) (g.case first r.is r.closes))

  sound_return : (s : State) (f : Statement × State) → IsWord ts s.at word.Return → step.return_statement text ts phrases depth s ≡ Some f → SomeStatement text ts (suc depth) s f
  unfolding step.return_statement
  sound_return s f first h =
      let (value, found, h1) = bind_some (step.optional_before text ts phrases depth mark.Semicolon (past s 1)) _ f h in
      let r = sound_optional mark.Semicolon (past s 1) value found in
      let e : (node.Return (place_at ts s.at) value.0, value.1) ≡ f = cc in
      subst (λ f. SomeStatement text ts (suc depth) s f) e (up_to (r.middle + 1) value.1.at (sym r.next) (g.return first r.is r.closes))

  sound_by_itself : (m : Mark) (whole : Statement) (s : State) (f : Statement × State) →
      (IsMark ts (s.at + 1) m → SomeStatement text ts (suc depth) s (whole, past s 2)) → step.word_before text ts phrases depth m whole s ≡ Some f →
      SomeStatement text ts (suc depth) s f
  unfolding step.word_before
  sound_by_itself m whole s f is h =
      let (closes, h1) = seen ts (s.at + 1) (k.Mark m) _ f h in
      let e : (whole, past s 2) ≡ f = cc in
      subst (λ f. SomeStatement text ts (suc depth) s f) e (is closes)

  sound_switch : (block : Reading Block) (is_block : (s : State) (f : Block × State) → block s ≡ Some f → SomeBlock text ts depth s f)
      (s : State) (f : Statement × State) → IsWord ts s.at word.Switch → step.switch_statement text ts phrases depth block s ≡ Some f → SomeStatement text ts (suc depth) s f
  unfolding step.switch_statement
  sound_switch block is_block s f first h =
      let (value, asked, h1) = bind_some (step.condition text ts phrases depth s) _ f h in
      let (body, found, h2) = bind_some (block value.1) _ f h1 in
      let c = sound_condition s value asked in
      let b = is_block value.1 body found in
      let e : (node.Switch (place_at ts s.at) value.0 body.0, back s body.1) ≡ f = cc in
      subst (λ f. SomeStatement text ts (suc depth) s f) e
      (g.switch first c.opens c.is c.closes (subst (λ n. IsBlock text ts depth value.1.scope n body.1.at body.0) c.next b.is))

  module _ (inner : Reading Statement) (is_inner : (s : State) (f : Statement × State) → inner s ≡ Some f → SomeStatement text ts depth s f) where
    item_before : (found : List BlockItem) (s : State) (next : BlockItem × State) (f : List BlockItem × State) →
        ((to : ℕ) (rest : List BlockItem) → AreItems text ts depth next.1.scope next.1.at to rest → AreItems text ts depth s.scope s.at to (next.0 ∷ rest)) →
        ItemsFound text ts depth (found ++ next.0 ∷ []) next.1 f → ItemsFound text ts depth found s f
    item_before found s next f is r = record {
      rest = next.0 ∷ r.rest;
      middle = r.middle;
      all = r.all ∙ append_assoc found (next.0 ∷ []) r.rest;
      each = is r.middle r.rest r.each;
      closes = r.closes;
      next = r.next;
    }

    sound_item : (s : State) (f : BlockItem × State) → step.item_of text ts phrases depth inner s ≡ Some f → (to : ℕ) (rest : List BlockItem) →
        AreItems text ts depth f.1.scope f.1.at to rest → AreItems text ts depth s.scope s.at to (f.0 ∷ rest)
    unfolding step.item_of
    sound_item s f h to rest others =
        elim (chosen (begins_specs text ts s.scope s.at) _ _ (Some f) h) [
          | inl c ↦ (
              let (d, found, h1) = bind_some (declaration ts phrases depth s) _ f c.1 in
              let e : f ≡ (item.Declaration d.0, d.1) = cc in
              let part = subst (λ (f : BlockItem × State). AreItems text ts depth f.1.scope f.1.at to rest) e others in
              subst (λ (f : BlockItem × State). AreItems text ts depth s.scope s.at to (f.0 ∷ rest)) (sym e)
              (g.declaration_first (sound_declaration text ts phrases exact depth s d found) part))
          | inr c ↦ (
              let (d, found, h1) = bind_some (inner s) _ f c.1 in
              let e : f ≡ (item.Statement d.0, d.1) = cc in
              let part = subst (λ (f : BlockItem × State). AreItems text ts depth f.1.scope f.1.at to rest) e others in
              subst (λ (f : BlockItem × State). AreItems text ts depth s.scope s.at to (f.0 ∷ rest)) (sym e) (g.statement_first (is_inner s d found) part))
        ]

    sound_items : (n : ℕ) (found : List BlockItem) (s : State) (f : List BlockItem × State) → step.items text ts phrases depth inner n found s ≡ Some f →
        ItemsFound text ts depth found s f
    unfolding step.items
    sound_items zero found s f h = absurd cc
    sound_items (suc n) found s f h =
        elim (chosen (mark_at ts s.at mark.RightBrace) (Some (found, past s 1)) _ (Some f) h) [
          | inl c ↦ (
              let e : (found, past s 1) ≡ f = (let i = c.1 in cc) in
              subst (λ f. ItemsFound text ts depth found s f) e
              (record { rest = []; middle = s.at; all = sym (append-nil found); each = g.no_items; closes = stands ts s.at _ c.0; next = refl }))
          | inr c ↦ (
              let (next, is, h1) = bind_some (step.item_of text ts phrases depth inner s) _ f c.1 in
              item_before found s next f (sound_item s next is) (sound_items n (found ++ next.0 ∷ []) next.1 f h1))
        ]

    sound_block_of : (s : State) (f : Block × State) → step.block_of text ts phrases depth inner s ≡ Some f → SomeBlock text ts (suc depth) s f
    unfolding step.block_of
    sound_block_of s f h =
        let (opens, h1) = seen ts s.at (k.Mark mark.LeftBrace) _ f h in
        let (all, found, h2) = bind_some (step.items text ts phrases depth inner (length ts) [] (past s 1)) _ f h1 in
        let r = sound_items (length ts) [] (past s 1) all found in
        let e : (record { place = place_at ts s.at; items = r.rest }, back s all.1) ≡ f = (let a = r.all in cc) in
        subst (λ f. SomeBlock text ts (suc depth) s f) e (record {
          is = subst (λ n. IsBlock text ts (suc depth) s.scope s.at n (record { place = place_at ts s.at; items = r.rest })) (sym r.next) (g.block opens r.each r.closes);
          scope = refl;
        })

    sound_whole_block : (s : State) (f : Statement × State) → step.block_statement text ts phrases depth inner s ≡ Some f → SomeStatement text ts (suc depth) s f
    unfolding step.block_statement
    sound_whole_block s f h =
        let (b, found, h1) = bind_some (step.block_of text ts phrases depth inner s) _ f h in
        let r = sound_block_of s b found in
        let e : (node.Block b.0, b.1) ≡ f = cc in
        subst (λ f. SomeStatement text ts (suc depth) s f) e
        (subst (λ l. IsStatement text ts (suc depth) s.scope l s.at b.1.at (node.Block b.0)) (sym r.scope) (g.of_block r.is))

    sound_if : (s : State) (f : Statement × State) → IsWord ts s.at word.If → step.if_statement text ts phrases depth inner s ≡ Some f → SomeStatement text ts (suc depth) s f
    unfolding step.if_statement step.else_after
    sound_if s f first h =
        let (test, asked, h1) = bind_some (step.condition text ts phrases depth s) _ f h in
        let (body, found, h2) = bind_some (inner test.1) _ f h1 in
        let c = sound_condition s test asked in
        let part = from_there test.1.at (c.middle + 1) c.next (is_inner test.1 body found) in
        elim (chosen (word_at ts body.1.at word.Else) _ _ (Some f) h2) [
          | inl d ↦ (
              let (other, found_other, h3) = bind_some (inner (past (back test.1 body.1) 1)) _ f d.1 in
              let e : (node.IfElse (place_at ts s.at) test.0 body.0 other.0, back s other.1) ≡ f = cc in
              subst (λ f. SomeStatement text ts (suc depth) s f) e
              (g.if_else first c.opens c.is c.closes part (stands ts body.1.at _ d.0) (is_inner (past (back test.1 body.1) 1) other found_other)))
          | inr d ↦ (
              let e : (node.If (place_at ts s.at) test.0 body.0, back s body.1) ≡ f = (let i = d.1 in cc) in
              subst (λ f. SomeStatement text ts (suc depth) s f) e
              (g.if_alone first c.opens c.is c.closes part (stands_not ts body.1.at (k.Word word.Else) d.0)))
        ]

    sound_while : (s : State) (f : Statement × State) → IsWord ts s.at word.While → step.while_statement text ts phrases depth inner s ≡ Some f →
        SomeStatement text ts (suc depth) s f
    unfolding step.while_statement
    sound_while s f first h =
        let (test, asked, h1) = bind_some (step.condition text ts phrases depth s) _ f h in
        let (body, found, h2) = bind_some (inner test.1) _ f h1 in
        let c = sound_condition s test asked in
        let e : (node.While (place_at ts s.at) test.0 body.0, back s body.1) ≡ f = cc in
        subst (λ f. SomeStatement text ts (suc depth) s f) e
        (g.while first c.opens c.is c.closes (from_there test.1.at (c.middle + 1) c.next (is_inner test.1 body found)))

    sound_do : (s : State) (f : Statement × State) → IsWord ts s.at word.Do → step.do_statement text ts phrases depth inner s ≡ Some f → SomeStatement text ts (suc depth) s f
    unfolding step.do_statement
    sound_do s f first h =
        let (body, found, h1) = bind_some (inner (past s 1)) _ f h in
        let (while, h2) = seen ts body.1.at (k.Word word.While) _ f h1 in
        let (test, asked, h3) = bind_some (step.condition text ts phrases depth (back s body.1)) _ f h2 in
        let (end, h4) = seen ts test.1.at (k.Mark mark.Semicolon) _ f h3 in
        let c = sound_condition (back s body.1) test asked in
        let e : (node.Do (place_at ts s.at) body.0 test.0, back s (past test.1 1)) ≡ f = cc in
        let next = c.next in
        subst (λ f. SomeStatement text ts (suc depth) s f) e
        (up_to (c.middle + 2) (test.1.at + 1) (omega arith)
        (g.do_while first (is_inner (past s 1) body found) while c.opens c.is c.closes (subst (λ n. IsMark ts n mark.Semicolon) next end)))

    sound_for : (s : State) (f : Statement × State) → IsWord ts s.at word.For → step.for_statement text ts phrases depth inner s ≡ Some f → SomeStatement text ts (suc depth) s f
    unfolding step.for_statement
    sound_for s f first h =
        let (opens, h1) = seen ts (s.at + 1) (k.Mark mark.LeftParen) _ f h in
        let (start, begun, h2) = bind_some (step.for_start text ts phrases depth (past s 2)) _ f h1 in
        let (test, asked, h3) = bind_some (step.optional_before text ts phrases depth mark.Semicolon start.1) _ f h2 in
        let (move, moved, h4) = bind_some (step.optional_before text ts phrases depth mark.RightParen test.1) _ f h3 in
        let (body, found, h5) = bind_some (inner move.1) _ f h4 in
        let a = sound_start (past s 2) start begun in
        let b = sound_optional mark.Semicolon start.1 test asked in
        let c = sound_optional mark.RightParen test.1 move moved in
        let e : (node.For (place_at ts s.at) start.0 test.0 move.0 body.0, back s body.1) ≡ f = cc in
        subst (λ f. SomeStatement text ts (suc depth) s f) e
        (g.for first opens a b.is b.closes (subst (λ n. IsOptional text ts depth test.1.scope move.1.scope n c.middle move.0) b.next c.is) c.closes
        (from_there move.1.at (c.middle + 1) c.next (is_inner move.1 body found)))

    sound_by : (block : Reading Block) (is_block : (s : State) (f : Block × State) → block s ≡ Some f → SomeBlock text ts depth s f)
        (s : State) (kind : Option Kind) (f : Statement × State) → kind_at ts s.at ≡ kind → step.statement_by text ts phrases depth inner block s kind ≡ Some f →
        SomeStatement text ts (suc depth) s f
    sound_by block is_block s (Some (k.Mark mark.LeftBrace)) f is h = sound_whole_block s f h
    sound_by block is_block s (Some (k.Mark mark.Semicolon)) f is h =
        let e : (node.Empty (place_at ts s.at), past s 1) ≡ f = cc in subst (λ f. SomeStatement text ts (suc depth) s f) e (g.empty is)
    sound_by block is_block s (Some (k.Word word.If)) f is h = sound_if s f is h
    sound_by block is_block s (Some (k.Word word.While)) f is h = sound_while s f is h
    sound_by block is_block s (Some (k.Word word.Do)) f is h = sound_do s f is h
    sound_by block is_block s (Some (k.Word word.For)) f is h = sound_for s f is h
    sound_by block is_block s (Some (k.Word word.Switch)) f is h = sound_switch block is_block s f is h
    sound_by block is_block s (Some (k.Word word.Case)) f is h = sound_case s f is h
    sound_by block is_block s (Some (k.Word word.Default)) f is h =
        sound_by_itself mark.Colon (node.Default (place_at ts s.at)) s f (λ c. g.default is c) h
    sound_by block is_block s (Some (k.Word word.Break)) f is h =
        sound_by_itself mark.Semicolon (node.Break (place_at ts s.at)) s f (λ c. g.break is c) h
    sound_by block is_block s (Some (k.Word word.Continue)) f is h =
        sound_by_itself mark.Semicolon (node.Continue (place_at ts s.at)) s f (λ c. g.continue is c) h
    sound_by block is_block s (Some (k.Word word.Return)) f is h = sound_return s f is h
    sound_by block is_block s _ f is h = sound_of_expression s f h

module _ (text : List ℕ) (ts : List Token) (phrases : ℕ → Readers) (exact : (d : ℕ) → Exact text ts d (phrases d)) where
  mutual
    unfolding step.statement

    pub sound_statement : (depth : ℕ) (s : State) (f : Statement × State) → step.statement text ts phrases depth s ≡ Some f → SomeStatement text ts depth s f
    sound_statement zero s f h = absurd cc
    sound_statement (suc depth) s f h =
        sound_by text ts phrases exact depth (step.statement text ts phrases depth) (sound_statement depth) (step.block text ts phrases depth) (sound_block depth)
        s (kind_at ts s.at) f refl h

    pub sound_block : (depth : ℕ) (s : State) (f : Block × State) → step.block text ts phrases depth s ≡ Some f → SomeBlock text ts depth s f
    sound_block zero s f h = absurd cc
    sound_block (suc depth) s f h = sound_block_of text ts phrases exact depth (step.statement text ts phrases depth) (sound_statement depth) s f h
