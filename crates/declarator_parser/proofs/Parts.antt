-- Declarators part by part, and loops beside recursions on the count of their turns.
use Rattle.std.proofs.Common.{◌≡◌, ◌∙◌, ℕ, suc, ◌+◌, ◌-◌, ◌<◌, ◌≤◌, max, nat_lt, Bool, true, false, List, [], ◌∷◌, ◌++◌, length, drop, Option, Some, None, Result, if◌then◌else◌, refl, sym, ap, subst, arith}
use Rattle.std.proofs.lemmas.Grind.{common_steps}
use Rattle.std.proofs.lemmas.Bool.Decides.{nat_tests}
use Rattle.c_tokens.specs.declared.kind.Kind.TheVariants as token_kind
use Rattle.c_tokens.specs.declared.kind.Keyword.TheVariants as word
use Rattle.c_tokens.specs.declared.kind.Mark.TheVariants as mark
use Rattle.c_tokens.specs.declared.token.Token.{Token}
use Rattle.c_grammar.specs.declared.words.Qualifier.{Qualifier}
use Rattle.c_grammar.specs.declared.words.Qualifier.TheVariants as q
use Rattle.c_grammar.specs.declared.phrases.Declarator.{Declarator}
use Rattle.c_grammar.specs.declared.phrases.Expression.{Expression}
use Rattle.c_grammar.specs.declared.phrases.Parameter.{Parameter}
use Rattle.c_tokens.specs.Names.{Name}
use Rattle.c_grammar.specs.Tokens.{kind_at, place_at}
use Rattle.c_grammar.specs.declared.phrases.Declarator.TheVariants as d
use Rattle.c_grammar.specs.declared.words.Level.TheVariants as of
use Rattle.c_grammar.specs.Operators.{tightness}
use Rattle.c_grammar.specs.Scope.{Scope, first_of}
use Rattle.grammar_descent.specs.Reading.{State, Reading, Readers, FoundDeclarator, ◌>>=◌, sees, word_at, mark_at, past}
use Rattle.grammar_descent.proofs.Seen.{stands}
use Rattle.grammar_descent.specs.Exact.{Grows}
use Rattle.grammar_descent.specs.DeclaratorSteps.{qualifiers, with_parameter, parts_after, array_after, function_after, declarator_within, parameters_at, new_since}
use Rattle.declarator_parser.specs.Parts.{qualifier_at, part_at, part_after}
use Rattle.declarator_parser.specs.declared.declarators.Part.{Part}
use Rattle.declarator_parser.specs.declared.declarators.Part.TheVariants as part
use Rattle.token_reader.specs.declared.error.ParseError.{ParseError}
use Rattle.token_reader.specs.Input.{Input, Gives, Reads}
use Rattle.token_reader.specs.Reader.{moved}
use Rattle.token_reader.specs.Found.{spelled_found}
use Rattle.token_reader.specs.declared.found.FoundDeclarator.{FoundDeclarator as Numbered}
use Rattle.token_texts.specs.Texts.{Texts}

pub one_more : {X : Type 0} {x : X} (f : ℕ → X) (n at : ℕ) → at < n → x ≡ f (n - at) → x ≡ f (suc (n - (at + 1)))
one_more f n at below e = let turn : n - at ≡ suc (n - (at + 1)) = omega arith in e ∙ ap f turn

pub no_more : {X : Type 0} {x : X} (f : ℕ → X) (n at : ℕ) → n ≤ at → x ≡ f (n - at) → x ≡ f 0
no_more f n at done e = let none : n - at ≡ 0 = omega arith in e ∙ ap f none

-- a name that is seen
pub name_there : (ts : List Token) (at : ℕ) → sees ts at token_kind.Name ≡ true → kind_at ts at ≡ Some token_kind.Name
name_there ts at h = stands ts at token_kind.Name h

-- ---- qualifiers

abbrev pub qualified : List Token → ℕ → List Qualifier → State → Option Qualifier → List Qualifier × State
qualified ts n found s (Some which) = qualifiers ts n (found ++ which ∷ []) (past s 1)
qualified ts n found s None = (found, s)

pub qualifiers-suc : (ts : List Token) (n : ℕ) (found : List Qualifier) (s : State) →
    qualifiers ts (suc n) found s ≡ qualified ts n found s (qualifier_at ts s.at)
unfolding qualifiers qualifier_at
qualifiers-suc ts n found s = by_tests (word_at ts s.at word.Const) (word_at ts s.at word.Restrict) ts n found s
  where
    by_tests : (a b : Bool) (ts : List Token) (n : ℕ) (found : List Qualifier) (s : State) →
        (if a then qualifiers ts n (found ++ q.Const ∷ []) (past s 1) else if b then qualifiers ts n (found ++ q.Restrict ∷ []) (past s 1) else (found, s))
        ≡ qualified ts n found s (if a then Some q.Const else if b then Some q.Restrict else None)
    by_tests true b ts n found s = refl
    by_tests false true ts n found s = refl
    by_tests false false ts n found s = refl

pub qualifiers-zero : (ts : List Token) (found : List Qualifier) (s : State) → qualifiers ts 0 found s ≡ (found, s)
unfolding qualifiers
qualifiers-zero ts found s = refl

-- ---- scopes

pub grows_on : (a b c : Scope) → Grows a b → Grows b c → Grows a c
grows_on a b c h k = record { new = k.new ++ h.new; is = grind (arith, common_steps) }

pub grows_not : (a : Scope) → Grows a a
grows_not a = record { new = []; is = refl }

pub grows_parameter : (name : Option Name) (s : State) → Grows s.scope (with_parameter name s).scope
grows_parameter (Some name) s = record { new = _ ∷ []; is = refl }
grows_parameter None s = record { new = []; is = refl }

pub grows_moved : (before : Scope) (i j : Input) (name : Option Name) → Grows before i.state.scope → j ≡ moved i (with_parameter name i.state) → Grows before j.state.scope
grows_moved before i j name h e =
    subst (λ (x : Input). Grows before x.state.scope) (sym e) (grows_on before i.state.scope (with_parameter name i.state).scope h (grows_parameter name i.state))

pub taken : (before after : Scope) → Grows before after → drop (length after - length before) after ≡ before
taken before after h = along after h.new h.is
  where
    along : (all more : Scope) → all ≡ more ++ before → drop (length all - length before) all ≡ before
    along all more e = grind (arith, common_steps)

pub qualifiers_more : (x : List Qualifier × State) (ts : List Token) (n : ℕ) (found : List Qualifier) (s : State) (which : Qualifier) →
    x ≡ qualifiers ts (suc n) found s → qualifier_at ts s.at ≡ Some which → x ≡ qualifiers ts n (found ++ which ∷ []) (past s 1)
qualifiers_more x ts n found s which e is = e ∙ qualifiers-suc ts n found s ∙ ap (qualified ts n found s) is

pub qualifiers_done : (x : List Qualifier × State) (ts : List Token) (n : ℕ) (found : List Qualifier) (s : State) →
    x ≡ qualifiers ts (suc n) found s → qualifier_at ts s.at ≡ None → x ≡ (found, s)
qualifiers_done x ts n found s e is = e ∙ qualifiers-suc ts n found s ∙ ap (qualified ts n found s) is

-- ---- what is too high is not read on

bind-none : {A B : Type 0} (o : Option A) (f : A → Option B) → ((x : A) → f x ≡ None) → (o >>= f) ≡ None
bind-none (Some x) f none = none x
bind-none None f none = refl

both-none : {A : Type 0} (b : Bool) (x y : Option A) → x ≡ None → y ≡ None → (if b then x else y) ≡ None
both-none true x y e k = e
both-none false x y e k = k

within-high : (depth : ℕ) (node : Declarator) (name : Option Name) (own : Option Scope) (high : ℕ) (s : State) → depth ≤ high →
    declarator_within depth node name own high s ≡ None
within-high depth node name own high s h = let below : nat_lt high depth ≡ false = grind (arith, nat_tests) in
    ap (λ b. if b then Some (let f : FoundDeclarator = record { node = node; name = name; own = own; height = high + 1 } in (f, s)) else None) below

module _ (text : List ℕ) (ts : List Token) (inner : Readers) (depth start : ℕ) where
  pub array-high : (f : FoundDeclarator) (s : State) → depth ≤ f.height → array_after text ts inner depth start f s ≡ None
  unfolding array_after
  array-high f s h = both-none (mark_at ts (s.at + 1) mark.RightBracket) _ _ (within-high depth _ _ _ f.height _ h)
      (bind-none (inner.expression (tightness of.Conditional) (past s 1)) _ (λ (size : (Expression × ℕ) × State). both-none (mark_at ts size.1.at mark.RightBracket) _ _
      (let k : depth ≤ max f.height size.0.1 = omega arith in
      within-high depth (d.Array (place_at ts start) f.node (Some size.0.0)) f.name f.own (max f.height size.0.1) (past size.1 1) k) refl))

  pub function-high : (f : FoundDeclarator) (s : State) → depth ≤ f.height → function_after text ts inner depth start f s ≡ None
  unfolding function_after
  function-high f s h = bind-none (parameters_at text ts inner (past s 1)) _ (λ (p : (List Parameter × ℕ) × State). both-none (mark_at ts p.1.at mark.RightParen) _ _
      (let k : depth ≤ max f.height p.0.1 = omega arith in
      within-high depth (d.Function (place_at ts start) f.node p.0.0) f.name (first_of f.own (new_since s.scope p.1.scope)) (max f.height p.0.1)
      (record { at = p.1.at + 1; scope = s.scope }) k) refl)

  abbrev pub parted : ℕ → FoundDeclarator → State → Option Part → Option (FoundDeclarator × State)
  parted n f s (Some part) = part_after part text ts inner depth start f s >>= λ g. parts_after text ts inner depth start n g.0 g.1
  parted n f s None = Some (f, s)

  parts-suc : (n : ℕ) (f : FoundDeclarator) (s : State) → parts_after text ts inner depth start (suc n) f s ≡ parted n f s (part_at ts s.at)
  unfolding parts_after part_at
  parts-suc n f s = by_tests (mark_at ts s.at mark.LeftBracket) (mark_at ts s.at mark.LeftParen)
    where
      by_tests : (a b : Bool) →
          (if a then (array_after text ts inner depth start f s >>= λ g. parts_after text ts inner depth start n g.0 g.1)
          else if b then (function_after text ts inner depth start f s >>= λ g. parts_after text ts inner depth start n g.0 g.1)
          else Some (f, s)) ≡ parted n f s (if a then Some part.Array else if b then Some part.Function else None)
      by_tests true b = refl
      by_tests false true = refl
      by_tests false false = refl

  pub parts_done : (x : Option (FoundDeclarator × State)) (n : ℕ) (f : FoundDeclarator) (s : State) → x ≡ parts_after text ts inner depth start (suc n) f s →
      part_at ts s.at ≡ None → x ≡ Some (f, s)
  parts_done x n f s e is = e ∙ parts-suc n f s ∙ ap (parted n f s) is

  pub parts_fail : (x : Option (FoundDeclarator × State)) (n : ℕ) (f : FoundDeclarator) (s : State) (part : Part) → x ≡ parts_after text ts inner depth start (suc n) f s →
      part_at ts s.at ≡ Some part → part_after part text ts inner depth start f s ≡ None → x ≡ None
  parts_fail x n f s part e is none = e ∙ parts-suc n f s ∙ ap (parted n f s) is
      ∙ ap (λ o. o >>= λ (g : FoundDeclarator × State). parts_after text ts inner depth start n g.0 g.1) none

  pub parts_more : (x : Option (FoundDeclarator × State)) (n : ℕ) (f g : FoundDeclarator) (s t : State) (part : Part) → x ≡ parts_after text ts inner depth start (suc n) f s →
      part_at ts s.at ≡ Some part → part_after part text ts inner depth start f s ≡ Some (g, t) → x ≡ parts_after text ts inner depth start n g t
  parts_more x n f g s t part e is some = e ∙ parts-suc n f s ∙ ap (parted n f s) is
      ∙ ap (λ o. o >>= λ (h : FoundDeclarator × State). parts_after text ts inner depth start n h.0 h.1) some

  pub parts-zero : (f : FoundDeclarator) (s : State) → parts_after text ts inner depth start 0 f s ≡ Some (f, s)
  unfolding parts_after
  parts-zero f s = refl

-- what is read from a reader whose text is known
pub reads-at : {A : Type 0} (read : List ℕ → List Token → Reading A) (before after : Input) (r : Result A ParseError) (text : List ℕ) (ts : List Token) →
    before.text ≡ text → before.tokens ≡ ts → Reads read before r after → Gives r after.state (read text ts before.state)
reads-at read before after r text ts e k h =
    subst (λ (y : List Token). Gives r after.state (read text y before.state)) k
    (subst (λ (x : List ℕ). Gives r after.state (read x before.tokens before.state)) e h.answer)

-- the same of a declarator, which is read from a reader with a known table of names
pub declarator_reads-at : (read : Texts → List ℕ → List Token → Reading FoundDeclarator) (before after : Input) (r : Result Numbered ParseError)
    (text : List ℕ) (ts : List Token) (texts : Texts) → before.text ≡ text → before.tokens ≡ ts → before.texts ≡ texts →
    Reads (read before.texts) before (spelled_found before.texts r) after → Gives (spelled_found texts r) after.state (read texts text ts before.state)
declarator_reads-at read before after r text ts texts e k same h =
    subst (λ (x : Texts). Gives (spelled_found x r) after.state (read x text ts before.state)) same
    (reads-at (read before.texts) before after (spelled_found before.texts r) text ts e k h)
