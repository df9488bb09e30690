-- The readers of statements, one step on.
use Rattle.std.proofs.Common.{◌≡◌, ℕ, zero, suc, ◌+◌, ◌-◌, ◌<◌, true, false, List, ◌++◌, ◌∷◌, [], Option, Some, None, refl, ap, ◌∙◌, sym, Bool, if◌then◌else◌, arith}
use Rattle.c_tokens.specs.declared.token.Token.{Token}
use Rattle.c_tokens.specs.declared.kind.Keyword.TheVariants as word
use Rattle.c_tokens.specs.declared.kind.Mark.TheVariants as mark
use Rattle.c_grammar.specs.declared.statements.Statement.{Statement}
use Rattle.c_grammar.specs.declared.statements.Statement.TheVariants as node
use Rattle.c_grammar.specs.declared.statements.BlockItem.{BlockItem}
use Rattle.c_grammar.specs.declared.statements.ForStart.{ForStart}
use Rattle.c_grammar.specs.declared.phrases.Expression.{Expression}
use Rattle.c_grammar.specs.Tokens.{kind_at, place_at}
use Rattle.grammar_descent.specs.StatementSteps.{back}
use Rattle.grammar_descent.specs.Reading.{State, Reading, ◌>>=◌, mark_at, word_at, past, Readers}
use Rattle.grammar_descent.specs.StatementSteps as step
use Rattle.c_parser.specs.ForHeader as h

-- a reading in two steps, and then a third
bind_bind : {A B C : Type 0} (a : Option A) (f : A → Option B) (g : B → Option C) → ((a >>= f) >>= g) ≡ (a >>= λ x. f x >>= g)
bind_bind (Some x) f g = refl
bind_bind None f g = refl

bind_same : {A B : Type 0} (a : Option A) (f g : A → Option B) → ((x : A) → f x ≡ g x) → (a >>= f) ≡ (a >>= g)
bind_same (Some x) f g e = e x
bind_same None f g e = refl

if_bind : {A B : Type 0} (b : Bool) (a : Option A) (f : A → Option B) → ((if b then a else None) >>= f) ≡ (if b then (a >>= f) else None)
if_bind true a f = refl
if_bind false a f = refl

-- what stands between `for` and its body
abbrev pub Header : Type 0
Header = ForStart × Option Expression × Option Expression

module _ (text : List ℕ) (ts : List Token) (phrases : ℕ → Readers) where
  pub statement-zero : (depth : ℕ) (s : State) → depth ≡ 0 → step.statement text ts phrases depth s ≡ None
  unfolding step.statement
  statement-zero depth s e = rw e refl

  pub statement-suc : (depth : ℕ) (s : State) → 0 < depth → step.statement text ts phrases depth s ≡
      step.statement_by text ts phrases (depth - 1) (step.statement text ts phrases (depth - 1)) (step.block text ts phrases (depth - 1)) s (kind_at ts s.at)
  unfolding step.statement
  statement-suc zero s some = absurd (omega arith)
  statement-suc (suc depth) s some = let e : suc depth - 1 ≡ depth = omega arith in rw e refl

  pub block-zero : (depth : ℕ) (s : State) → depth ≡ 0 → step.block text ts phrases depth s ≡ None
  unfolding step.block
  block-zero depth s e = rw e refl

  pub block-suc : (depth : ℕ) (s : State) → 0 < depth → step.block text ts phrases depth s ≡
      step.block_of text ts phrases (depth - 1) (step.statement text ts phrases (depth - 1)) s
  unfolding step.block
  block-suc zero s some = absurd (omega arith)
  block-suc (suc depth) s some = let e : suc depth - 1 ≡ depth = omega arith in rw e refl

  module _ (depth : ℕ) (inner : Reading Statement) where
    pub items-end : (n : ℕ) (found : List BlockItem) (s : State) → mark_at ts s.at mark.RightBrace ≡ true →
        step.items text ts phrases depth inner (suc n) found s ≡ Some (found, past s 1)
    unfolding step.items
    items-end n found s a = rw a refl

    pub items-none : (n : ℕ) (found : List BlockItem) (s : State) → mark_at ts s.at mark.RightBrace ≡ false → step.item_of text ts phrases depth inner s ≡ None →
        step.items text ts phrases depth inner (suc n) found s ≡ None
    unfolding step.items
    items-none n found s a b = rw (a, b) refl

    pub items-more : (n : ℕ) (found : List BlockItem) (s t : State) (next : BlockItem) → mark_at ts s.at mark.RightBrace ≡ false →
        step.item_of text ts phrases depth inner s ≡ Some (next, t) →
        step.items text ts phrases depth inner (suc n) found s ≡ step.items text ts phrases depth inner n (found ++ next ∷ []) t
    unfolding step.items
    items-more n found s t next a b = rw (a, b) refl

    pub items-over : (found : List BlockItem) (s : State) → step.items text ts phrases depth inner 0 found s ≡ None
    unfolding step.items
    items-over found s = refl

    -- a `for` by what stands before its body
    abbrev for_rest : State → Header × State → Option (Statement × State)
    for_rest s x = inner x.1 >>= λ body. Some (node.For (place_at ts s.at) x.0.0 x.0.1 x.0.2 body.0, back s body.1)

    for_statement_by : (s : State) → (h.for_header text ts phrases depth s >>= for_rest s) ≡ step.for_statement text ts phrases depth inner s
    unfolding h.for_header h.for_controls step.for_statement
    for_statement_by s =
        if_bind (mark_at ts (s.at + 1) mark.LeftParen) _ (for_rest s) ∙
        ap (λ (a : Option (Statement × State)). if mark_at ts (s.at + 1) mark.LeftParen then a else None)
        (bind_bind (step.for_start text ts phrases depth (past s 2)) _ (for_rest s) ∙
        bind_same (step.for_start text ts phrases depth (past s 2)) _ _ (λ start.
        bind_bind (h.for_controls text ts phrases depth start.1) _ (for_rest s) ∙
        bind_bind (step.optional_before text ts phrases depth mark.Semicolon start.1) _ _ ∙
        bind_same (step.optional_before text ts phrases depth mark.Semicolon start.1) _ _ (λ test.
        bind_bind (step.optional_before text ts phrases depth mark.RightParen test.1) _ _)))

    pub for_statement-headless : (s : State) → h.for_header text ts phrases depth s ≡ None → step.for_statement text ts phrases depth inner s ≡ None
    for_statement-headless s a = sym (for_statement_by s) ∙ ap (λ (l : Option (Header × State)). l >>= for_rest s) a

    pub for_statement-none : (s t : State) (x : Header) → h.for_header text ts phrases depth s ≡ Some (x, t) → inner t ≡ None →
        step.for_statement text ts phrases depth inner s ≡ None
    for_statement-none s t x a b = sym (for_statement_by s) ∙ ap (λ (l : Option (Header × State)). l >>= for_rest s) a ∙
        ap (λ (l : Option (Statement × State)). l >>= λ body. Some (node.For (place_at ts s.at) x.0 x.1 x.2 body.0, back s body.1)) b

    pub for_statement-found : (s t u : State) (x : Header) (y : Statement) → h.for_header text ts phrases depth s ≡ Some (x, t) → inner t ≡ Some (y, u) →
        step.for_statement text ts phrases depth inner s ≡ Some (node.For (place_at ts s.at) x.0 x.1 x.2 y, back s u)
    for_statement-found s t u x y a b = sym (for_statement_by s) ∙ ap (λ (l : Option (Header × State)). l >>= for_rest s) a ∙
        ap (λ (l : Option (Statement × State)). l >>= λ body. Some (node.For (place_at ts s.at) x.0 x.1 x.2 body.0, back s body.1)) b

    pub do_statement-bodiless : (s a : State) → a ≡ past s 1 → inner a ≡ None → step.do_statement text ts phrases depth inner s ≡ None
    unfolding step.do_statement
    do_statement-bodiless s a e f = let f1 : inner (past s 1) ≡ None = ap inner (sym e) ∙ f in rw f1 refl

    pub do_statement-wordless : (s a b : State) (x : Statement) → a ≡ past s 1 → inner a ≡ Some (x, b) → word_at ts b.at word.While ≡ false →
        step.do_statement text ts phrases depth inner s ≡ None
    unfolding step.do_statement
    do_statement-wordless s a b x e f w = let f1 : inner (past s 1) ≡ Some (x, b) = ap inner (sym e) ∙ f in rw (f1, w) refl

    pub do_statement-testless : (s a b c : State) (x : Statement) → a ≡ past s 1 → inner a ≡ Some (x, b) → word_at ts b.at word.While ≡ true → c ≡ back s b →
        step.condition text ts phrases depth c ≡ None → step.do_statement text ts phrases depth inner s ≡ None
    unfolding step.do_statement
    do_statement-testless s a b c x e f w h t =
        let f1 : inner (past s 1) ≡ Some (x, b) = ap inner (sym e) ∙ f in
        let t1 : step.condition text ts phrases depth (back s b) ≡ None = ap (step.condition text ts phrases depth) (sym h) ∙ t in
        rw (f1, w, t1) refl

    pub do_statement-open : (s a b c d : State) (x : Statement) (y : Expression) → a ≡ past s 1 → inner a ≡ Some (x, b) → word_at ts b.at word.While ≡ true → c ≡ back s b →
        step.condition text ts phrases depth c ≡ Some (y, d) → mark_at ts d.at mark.Semicolon ≡ false → step.do_statement text ts phrases depth inner s ≡ None
    unfolding step.do_statement
    do_statement-open s a b c d x y e f w h t m =
        let f1 : inner (past s 1) ≡ Some (x, b) = ap inner (sym e) ∙ f in
        let t1 : step.condition text ts phrases depth (back s b) ≡ Some (y, d) = ap (step.condition text ts phrases depth) (sym h) ∙ t in
        rw (f1, w, t1, m) refl

    pub do_statement-found : (s a b c d : State) (x : Statement) (y : Expression) → a ≡ past s 1 → inner a ≡ Some (x, b) → word_at ts b.at word.While ≡ true → c ≡ back s b →
        step.condition text ts phrases depth c ≡ Some (y, d) → mark_at ts d.at mark.Semicolon ≡ true →
        step.do_statement text ts phrases depth inner s ≡ Some (node.Do (place_at ts s.at) x y, back s (past d 1))
    unfolding step.do_statement
    do_statement-found s a b c d x y e f w h t m =
        let f1 : inner (past s 1) ≡ Some (x, b) = ap inner (sym e) ∙ f in
        let t1 : step.condition text ts phrases depth (back s b) ≡ Some (y, d) = ap (step.condition text ts phrases depth) (sym h) ∙ t in
        rw (f1, w, t1, m) refl

    pub if_statement-none : (s t b a : State) (x : Expression) (y : Statement) → step.condition text ts phrases depth s ≡ Some (x, t) → inner t ≡ Some (y, b) →
        word_at ts b.at word.Else ≡ true → a ≡ past (back t b) 1 → inner a ≡ None → step.if_statement text ts phrases depth inner s ≡ None
    unfolding step.if_statement step.else_after
    if_statement-none s t b a x y e f w h i = let i1 : inner (past (back t b) 1) ≡ None = ap inner (sym h) ∙ i in rw (e, f, w, i1) refl

    pub if_statement-both : (s t b a d : State) (x : Expression) (y z : Statement) → step.condition text ts phrases depth s ≡ Some (x, t) → inner t ≡ Some (y, b) →
        word_at ts b.at word.Else ≡ true → a ≡ past (back t b) 1 → inner a ≡ Some (z, d) →
        step.if_statement text ts phrases depth inner s ≡ Some (node.IfElse (place_at ts s.at) x y z, back s d)
    unfolding step.if_statement step.else_after
    if_statement-both s t b a d x y z e f w h i = let i1 : inner (past (back t b) 1) ≡ Some (z, d) = ap inner (sym h) ∙ i in rw (e, f, w, i1) refl
