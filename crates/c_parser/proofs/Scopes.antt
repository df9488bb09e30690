-- What is in scope after a phrase is what was before, and what the phrase declares.
use Rattle.std.proofs.Common.{◌≡◌, ℕ, zero, suc, ◌+◌, ◌-◌, Bool, true, false, List, [], ◌∷◌, ◌++◌, length, drop, Option, Some, None, refl, sym, subst, ap, ◌∙◌, append_assoc, arith, length-append, if◌then◌else◌}
use Rattle.c_tokens.specs.declared.token.Token.{Token}
use Rattle.c_tokens.specs.declared.kind.Kind.{Kind}
use Rattle.c_tokens.specs.declared.kind.Kind.TheVariants as k
use Rattle.c_tokens.specs.declared.kind.Keyword.TheVariants as word
use Rattle.c_tokens.specs.declared.kind.Mark.{Mark}
use Rattle.c_tokens.specs.declared.kind.Mark.TheVariants as mark
use Rattle.c_grammar.specs.declared.phrases.Specs.{Specs}
use Rattle.c_grammar.specs.declared.phrases.Declarator.{Declarator}
use Rattle.c_grammar.specs.declared.statements.Initialiser.{Initialiser}
use Rattle.c_grammar.specs.declared.statements.InitDeclarator.{InitDeclarator}
use Rattle.c_grammar.specs.declared.statements.Statement.{Statement}
use Rattle.c_grammar.specs.declared.statements.Block.{Block}
use Rattle.c_grammar.specs.declared.statements.BlockItem.{BlockItem}
use Rattle.c_grammar.specs.Tokens.{kind_at}
use Rattle.c_grammar.specs.Words.{Role}
use Rattle.c_grammar.specs.Scope.{Scope, declared_kind}
use Rattle.c_grammar.specs.Operators.{tightness}
use Rattle.c_grammar.specs.declared.words.Level.TheVariants as of
use Rattle.c_grammar.specs.declared.words.NameKind.{NameKind}
use Rattle.c_grammar.specs.declared.words.Naming.TheVariants as naming
use Rattle.c_tokens.specs.Names.{Name}
use Rattle.grammar_descent.specs.Reading.{State, Reading, ◌>>=◌, mark_at, word_at, past, Readers}
use Rattle.grammar_descent.specs.Types.{begins_specs}
use Rattle.grammar_descent.specs.Exact.{Exact, Grows}
use Rattle.grammar_descent.specs.InitialiserSteps as i
use Rattle.grammar_descent.specs.InitialiserSteps.{NamedDeclarator, declare, with_its_name}
use Rattle.grammar_descent.specs.StatementSteps as st
use Rattle.grammar_descent.specs.StatementSteps.{back}
use Rattle.c_parser.specs.ForHeader as h

pub stays : (scope : Scope) → Grows scope scope
stays scope = record { new = []; is = refl }

pub grows_on : (one two three : Scope) → Grows one two → Grows two three → Grows one three
grows_on one two three a b = record { new = b.new ++ a.new; is = b.is ∙ ap (λ l. b.new ++ l) a.is ∙ sym (append_assoc b.new a.new one) }

drop_new : (new before : Scope) → drop (length new) (new ++ before) ≡ before
drop_new [] before = refl
drop_new (d ∷ new) before = drop_new new before

-- A scope that is closed at the count of the names before is what it was.
pub closed_again : (before after : Scope) → Grows before after → drop (length after - length before) after ≡ before
closed_again before after g =
    let long : length after ≡ length g.new + length before = ap length g.is ∙ length-append g.new before in
    let count : length after - length before ≡ length g.new = omega arith in
    rw (count, g.is) (drop_new g.new before)

-- what is read, if anything is, has grown the scope
abbrev pub Grown : {A : Type 0} → Scope → Option (A × State) → Type 0
Grown scope (Some f) = Grows scope f.1.scope
Grown scope None = Unit {0}

pub grown_found : {A : Type 0} (scope : Scope) (answer : Option (A × State)) (f : A × State) → Grown scope answer → answer ≡ Some f → Grows scope f.1.scope
grown_found {A} scope answer f g e = let P : Option (A × State) → Type 0 = λ a. Grown scope a in subst P e g

from_found : {A : Type 0} (scope : Scope) (answer : Option (A × State)) → ((f : A × State) → answer ≡ Some f → Grows scope f.1.scope) → Grown scope answer
from_found scope (Some f) g = g f refl
from_found scope None g = tt

bind : {A B : Type 0} (scope : Scope) (answer : Option (A × State)) (next : A × State → Option (B × State)) → Grown scope answer →
    ((f : A × State) → Grown f.1.scope (next f)) → Grown scope (answer >>= next)
bind {A} {B} scope (Some f) next g h = further (next f) (h f)
  where
    further : (more : Option (B × State)) → Grown f.1.scope more → Grown scope more
    further (Some m) later = grows_on scope f.1.scope m.1.scope g later
    further None later = tt
bind scope None next g h = tt

-- whatever is read first
anyway : {A B : Type 0} (scope : Scope) (answer : Option (A × State)) (next : A × State → Option (B × State)) → ((f : A × State) → Grown scope (next f)) →
    Grown scope (answer >>= next)
anyway scope (Some f) next h = h f
anyway scope None next h = tt

either : {A : Type 0} (scope : Scope) (b : Bool) (one other : Option (A × State)) → Grown scope one → Grown scope other →
    Grown scope (if b then one else other)
either scope true one other g h = g
either scope false one other g h = h

-- a part that begins in a scope that has grown
later : {A : Type 0} (one two : Scope) (answer : Option (A × State)) → Grows one two → Grown two answer → Grown one answer
later one two (Some f) g h = grows_on one two f.1.scope g h
later one two None g h = tt

declared_more : (scope : Scope) (d : Name × NameKind) → Grows scope (d ∷ scope)
declared_more scope d = record { new = d ∷ []; is = refl }

named_grown : (name : Option Name) (d : Declarator) (own : Option Scope) (s : State) → Grown s.scope (with_its_name name d own s)
named_grown (Some name) d own s = stays s.scope
named_grown None d own s = tt

module _ (text : List ℕ) (ts : List Token) (phrases : ℕ → Readers) (exact : (d : ℕ) → Exact text ts d (phrases d)) where
  read_specs : (depth : ℕ) (s : State) → Grown s.scope ((phrases depth).specs s)
  read_specs depth s = from_found s.scope ((phrases depth).specs s) (λ f e. (exact depth).specs_sound.grows s f.1 f.0.0 f.0.1 f.0.2 e)

  expression : (depth level : ℕ) (s : State) → Grown s.scope (i.expression_at ts phrases depth level s)
  unfolding i.expression_at
  expression depth level s =
      bind s.scope ((phrases depth).expression level s) (λ f. Some (f.0.0, f.1))
      (from_found s.scope ((phrases depth).expression level s) (λ f e. (exact depth).expression_sound.grows level s f.1 f.0.0 f.0.1 e)) (λ f. stays f.1.scope)

  named_declarator : (depth : ℕ) (s : State) → Grown s.scope (i.named_declarator ts phrases depth s)
  unfolding i.named_declarator
  named_declarator depth s =
      bind s.scope ((phrases depth).declarator naming.Named s) (λ f. with_its_name f.0.name f.0.node f.0.own f.1)
      (from_found s.scope ((phrases depth).declarator naming.Named s) (λ f e. (exact depth).declarator_sound.grows naming.Named s f.1 f.0 e))
      (λ f. named_grown f.0.name f.0.node f.0.own f.1)

  value : (depth : ℕ) (s : State) → Grown s.scope (i.value ts phrases depth s)
  unfolding i.value
  value depth s = bind s.scope (i.expression_at ts phrases depth (tightness of.Assignment) s) _ (expression depth (tightness of.Assignment) s) (λ f. stays f.1.scope)

  initialisers : (inner : Reading Initialiser) → ((s : State) → Grown s.scope (inner s)) → (n : ℕ) (found : List Initialiser) (s : State) →
      Grown s.scope (i.initialisers ts phrases inner n found s)
  unfolding i.initialisers
  initialisers inner g zero found s = tt
  initialisers inner g (suc n) found s = bind s.scope (inner s) _ (g s) (λ next.
      either next.1.scope (mark_at ts next.1.at mark.RightBrace) _ _ (stays next.1.scope)
      (either next.1.scope (mark_at ts next.1.at mark.Comma) _ _
      (either next.1.scope (mark_at ts (next.1.at + 1) mark.RightBrace) _ _ (stays next.1.scope) (initialisers inner g n (found ++ next.0 ∷ []) (past next.1 1))) tt))

  braces : (inner : Reading Initialiser) → ((s : State) → Grown s.scope (inner s)) → (s : State) → Grown s.scope (i.braces ts phrases inner s)
  unfolding i.braces
  braces inner g s = bind s.scope (i.initialisers ts phrases inner (length ts) [] (past s 1)) _ (initialisers inner g (length ts) [] (past s 1)) (λ f. stays f.1.scope)

  initialiser : (depth : ℕ) (s : State) → Grown s.scope (i.initialiser ts phrases depth s)
  unfolding i.initialiser
  initialiser zero s = either s.scope (mark_at ts s.at mark.LeftBrace) None (i.value ts phrases zero s) tt (value zero s)
  initialiser (suc depth) s = either s.scope (mark_at ts s.at mark.LeftBrace) _ _ (braces (i.initialiser ts phrases depth) (initialiser depth) s) (value (suc depth) s)

  initialiser_after : (depth : ℕ) (s : State) → Grown s.scope (i.initialiser_after ts phrases depth s)
  unfolding i.initialiser_after
  initialiser_after depth s = either s.scope (mark_at ts s.at mark.Equal) _ _
      (bind s.scope (i.initialiser ts phrases depth (past s 1)) _ (initialiser depth (past s 1)) (λ f. stays f.1.scope)) (stays s.scope)

  with_initialiser : (depth : ℕ) (kind : NameKind) (from : ℕ) (f : NamedDeclarator × State) → Grown f.1.scope (i.with_initialiser ts phrases depth kind from f)
  unfolding i.with_initialiser
  with_initialiser depth kind from f = bind f.1.scope (i.initialiser_after ts phrases depth (declare f.1 f.0.name kind)) _
      (later f.1.scope ((f.0.name, kind) ∷ f.1.scope) (i.initialiser_after ts phrases depth (declare f.1 f.0.name kind)) (declared_more f.1.scope (f.0.name, kind)) (initialiser_after depth (declare f.1 f.0.name kind)))
      (λ v. stays v.1.scope)

  init_declarator : (depth : ℕ) (kind : NameKind) (s : State) → Grown s.scope (i.init_declarator ts phrases depth kind s)
  unfolding i.init_declarator
  init_declarator depth kind s = bind s.scope (i.named_declarator ts phrases depth s) (i.with_initialiser ts phrases depth kind s.at) (named_declarator depth s) (with_initialiser depth kind s.at)

  more_declarators : (depth : ℕ) (kind : NameKind) (n : ℕ) (found : List InitDeclarator) (s : State) → Grown s.scope (i.more_declarators ts phrases depth kind n found s)
  unfolding i.more_declarators
  more_declarators depth kind zero found s = tt
  more_declarators depth kind (suc n) found s = either s.scope (mark_at ts s.at mark.Comma) _ _
      (bind s.scope (i.init_declarator ts phrases depth kind (past s 1)) _ (init_declarator depth kind (past s 1)) (λ next. more_declarators depth kind n (found ++ next.0 ∷ []) next.1))
      (either s.scope (mark_at ts s.at mark.Semicolon) _ _ (stays s.scope) tt)

  init_declarators : (depth : ℕ) (kind : NameKind) (from : ℕ) (f : NamedDeclarator × State) → Grown f.1.scope (i.init_declarators ts phrases depth kind from f)
  unfolding i.init_declarators
  init_declarators depth kind from f = bind f.1.scope (i.with_initialiser ts phrases depth kind from f) _ (with_initialiser depth kind from f)
      (λ first. more_declarators depth kind (length ts) (first.0 ∷ []) first.1)

  declaration_of_names : (depth start : ℕ) (specs : Specs) (roles : List Role) (from : ℕ) (f : NamedDeclarator × State) → Grown f.1.scope (i.declaration_of_names ts phrases depth start specs roles from f)
  unfolding i.declaration_of_names
  declaration_of_names depth start specs roles from f = bind f.1.scope (i.init_declarators ts phrases depth (declared_kind roles) from f) _ (init_declarators depth (declared_kind roles) from f) (λ all. stays all.1.scope)

  declaration : (depth : ℕ) (s : State) → Grown s.scope (i.declaration ts phrases depth s)
  unfolding i.declaration
  declaration depth s = bind s.scope ((phrases depth).specs s) _ (read_specs depth s) (λ f.
      either f.1.scope (mark_at ts f.1.at mark.Semicolon) _ _ (stays f.1.scope)
      (bind f.1.scope (i.named_declarator ts phrases depth f.1) (i.declaration_of_names ts phrases depth s.at f.0.0 f.0.1 f.1.at) (named_declarator depth f.1) (declaration_of_names depth s.at f.0.0 f.0.1 f.1.at)))

  module _ (depth : ℕ) where
    expression_before : (level : ℕ) (m : Mark) (s : State) → Grown s.scope (st.expression_before text ts phrases depth level m s)
    unfolding st.expression_before
    expression_before level m s = bind s.scope (i.expression_at ts phrases depth level s) _ (expression depth level s)
        (λ f. either f.1.scope (mark_at ts f.1.at m) _ _ (stays f.1.scope) tt)

    pub optional_before : (m : Mark) (s : State) → Grown s.scope (st.optional_before text ts phrases depth m s)
    unfolding st.optional_before
    optional_before m s = either s.scope (mark_at ts s.at m) _ _ (stays s.scope)
        (bind s.scope (st.expression_before text ts phrases depth (tightness of.Comma) m s) _ (expression_before (tightness of.Comma) m s) (λ f. stays f.1.scope))

    pub condition : (s : State) → Grown s.scope (st.condition text ts phrases depth s)
    unfolding st.condition
    condition s = either s.scope (mark_at ts (s.at + 1) mark.LeftParen) _ _ (expression_before (tightness of.Comma) mark.RightParen (past s 2)) tt

    pub for_start : (s : State) → Grown s.scope (st.for_start text ts phrases depth s)
    unfolding st.for_start
    for_start s = either s.scope (begins_specs text ts s.scope s.at) _ _
        (bind s.scope (i.declaration ts phrases depth s) _ (declaration depth s) (λ f. stays f.1.scope))
        (bind s.scope (st.optional_before text ts phrases depth mark.Semicolon s) _ (optional_before mark.Semicolon s) (λ f. stays f.1.scope))

    pub for_header : (s : State) → Grown s.scope (h.for_header text ts phrases depth s)
    unfolding h.for_header h.for_controls
    for_header s = either s.scope (mark_at ts (s.at + 1) mark.LeftParen) _ _
        (bind s.scope (st.for_start text ts phrases depth (past s 2)) _ (for_start (past s 2)) (λ start.
        bind start.1.scope (h.for_controls text ts phrases depth start.1) _
        (bind start.1.scope (st.optional_before text ts phrases depth mark.Semicolon start.1) _ (optional_before mark.Semicolon start.1) (λ test.
        bind test.1.scope (st.optional_before text ts phrases depth mark.RightParen test.1) _ (optional_before mark.RightParen test.1) (λ step. stays step.1.scope)))
        (λ rest. stays rest.1.scope))) tt

    module _ (inner : Reading Statement) (g : (s : State) → Grown s.scope (inner s)) where
      item : (s : State) → Grown s.scope (st.item_of text ts phrases depth inner s)
      unfolding st.item_of
      item s = either s.scope (begins_specs text ts s.scope s.at) _ _
          (bind s.scope (i.declaration ts phrases depth s) _ (declaration depth s) (λ f. stays f.1.scope))
          (bind s.scope (inner s) _ (g s) (λ f. stays f.1.scope))

      pub items : (n : ℕ) (found : List BlockItem) (s : State) → Grown s.scope (st.items text ts phrases depth inner n found s)
      unfolding st.items
      items zero found s = tt
      items (suc n) found s = either s.scope (mark_at ts s.at mark.RightBrace) _ _ (stays s.scope)
          (bind s.scope (st.item_of text ts phrases depth inner s) _ (item s) (λ next. items n (found ++ next.0 ∷ []) next.1))

    block_of : (inner : Reading Statement) (s : State) → Grown s.scope (st.block_of text ts phrases depth inner s)
    unfolding st.block_of
    block_of inner s = either s.scope (mark_at ts s.at mark.LeftBrace) _ _
        (anyway s.scope (st.items text ts phrases depth inner (length ts) [] (past s 1)) _ (λ f. stays s.scope)) tt

    by_word : (inner : Reading Statement) (block : Reading Block) (s : State) (kind : Option Kind) → Grown s.scope (st.statement_by text ts phrases depth inner block s kind)
    unfolding st.block_statement st.if_statement st.else_after st.while_statement st.do_statement st.for_statement st.switch_statement st.case_label st.word_before st.return_statement st.expression_statement
    by_word inner block s (Some (k.Mark mark.LeftBrace)) = bind s.scope (st.block_of text ts phrases depth inner s) _ (block_of inner s) (λ f. stays f.1.scope)
    by_word inner block s (Some (k.Mark mark.Semicolon)) = stays s.scope
    by_word inner block s (Some (k.Word word.If)) = anyway s.scope (st.condition text ts phrases depth s) _ (λ test. anyway s.scope (inner test.1) _ (λ first.
        either s.scope (word_at ts first.1.at word.Else) _ _ (anyway s.scope (inner (past (back test.1 first.1) 1)) _ (λ other. stays s.scope)) (stays s.scope)))
    by_word inner block s (Some (k.Word word.While)) = anyway s.scope (st.condition text ts phrases depth s) _ (λ test. anyway s.scope (inner test.1) _ (λ body. stays s.scope))
    by_word inner block s (Some (k.Word word.Do)) = anyway s.scope (inner (past s 1)) _ (λ body. either s.scope (word_at ts body.1.at word.While) _ _
        (anyway s.scope (st.condition text ts phrases depth (back s body.1)) _ (λ test. either s.scope (mark_at ts test.1.at mark.Semicolon) _ _ (stays s.scope) tt)) tt)
    by_word inner block s (Some (k.Word word.For)) = either s.scope (mark_at ts (s.at + 1) mark.LeftParen) _ _
        (anyway s.scope (st.for_start text ts phrases depth (past s 2)) _ (λ start. anyway s.scope (st.optional_before text ts phrases depth mark.Semicolon start.1) _ (λ test.
        anyway s.scope (st.optional_before text ts phrases depth mark.RightParen test.1) _ (λ step. anyway s.scope (inner step.1) _ (λ body. stays s.scope))))) tt
    by_word inner block s (Some (k.Word word.Switch)) = anyway s.scope (st.condition text ts phrases depth s) _ (λ value. anyway s.scope (block value.1) _ (λ body. stays s.scope))
    by_word inner block s (Some (k.Word word.Case)) = bind s.scope (st.expression_before text ts phrases depth (tightness of.Conditional) mark.Colon (past s 1)) _ (expression_before (tightness of.Conditional) mark.Colon (past s 1)) (λ f. stays f.1.scope)
    by_word inner block s (Some (k.Word word.Default)) = either s.scope (mark_at ts (s.at + 1) mark.Colon) _ _ (stays s.scope) tt
    by_word inner block s (Some (k.Word word.Break)) = either s.scope (mark_at ts (s.at + 1) mark.Semicolon) _ _ (stays s.scope) tt
    by_word inner block s (Some (k.Word word.Continue)) = either s.scope (mark_at ts (s.at + 1) mark.Semicolon) _ _ (stays s.scope) tt
    by_word inner block s (Some (k.Word word.Return)) =
        bind s.scope (st.optional_before text ts phrases depth mark.Semicolon (past s 1)) _ (optional_before mark.Semicolon (past s 1)) (λ f. stays f.1.scope)
    by_word inner block s _ = bind s.scope (st.expression_before text ts phrases depth (tightness of.Comma) mark.Semicolon s) _ (expression_before (tightness of.Comma) mark.Semicolon s) (λ f. stays f.1.scope)

  pub statement : (depth : ℕ) (s : State) → Grown s.scope (st.statement text ts phrases depth s)
  unfolding st.statement
  statement zero s = tt
  statement (suc depth) s = by_word depth (st.statement text ts phrases depth) (st.block text ts phrases depth) s (kind_at ts s.at)

  pub block : (depth : ℕ) (s : State) → Grown s.scope (st.block text ts phrases depth s)
  unfolding st.block
  block zero s = tt
  block (suc depth) s = block_of depth (st.statement text ts phrases depth) s
