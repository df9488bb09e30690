-- What is an initialiser or a declaration is read.
use Rattle.std.proofs.Common.{◌≡◌, ◌≢◌, ℕ, zero, suc, ◌+◌, ◌<◌, ◌≤◌, List, [], ◌∷◌, ◌++◌, length, Option, Some, None, true, ◌⊎◌, inl, inr, refl, ap, ◌∙◌, arith, append_assoc}
use Rattle.c_tokens.specs.declared.token.Token.{Token}
use Rattle.c_tokens.specs.declared.kind.Kind.TheVariants as k
use Rattle.c_tokens.specs.declared.kind.Mark.TheVariants as mark
use Rattle.c_grammar.specs.declared.words.Naming.TheVariants as naming
use Rattle.c_grammar.specs.declared.words.Level.TheVariants as of
use Rattle.c_grammar.specs.declared.words.NameKind.{NameKind}
use Rattle.c_grammar.specs.declared.phrases.Expression.{Expression}
use Rattle.c_grammar.specs.declared.phrases.Specs.{Specs}
use Rattle.c_grammar.specs.declared.phrases.Declarator.{Declarator}
use Rattle.c_grammar.specs.declared.statements.Initialiser.{Initialiser}
use Rattle.c_grammar.specs.declared.statements.Initialiser.TheVariants as i
use Rattle.c_grammar.specs.declared.statements.InitDeclarator.{InitDeclarator}
use Rattle.c_grammar.specs.declared.statements.Declaration.{Declaration}
use Rattle.c_tokens.specs.Names.{Name}
use Rattle.c_grammar.specs.Tokens.{kind_at, place_at, IsMark, ClosesList, brace, comma_and_brace}
use Rattle.c_grammar.specs.Words.{Role}
use Rattle.c_grammar.specs.Scope.{Scope, declared_kind}
use Rattle.c_grammar.specs.Operators.{tightness}
use Rattle.c_grammar.specs.Phrases.{IsExpression, IsSpecs, IsDeclarator, whole}
use Rattle.c_grammar.specs.Initialisers as g
use Rattle.c_grammar.specs.Initialisers.{IsInitialiser, AreInitialisers, IsInitDeclarator, AreInitDeclarators, IsDeclaration}
use Rattle.grammar_descent.specs.Reading.{State, Reading, ◌>>=◌, Readers}
use Rattle.grammar_descent.specs.Follow.{ends, ends_specs, ends_declarator}
use Rattle.grammar_descent.specs.Exact.{Exact}
use Rattle.grammar_descent.specs.InitialiserSteps as step
use Rattle.grammar_descent.specs.InitialiserSteps.{NamedDeclarator, declare}
use Rattle.grammar_descent.proofs.Seen.{here, not_here, instead, stands_within}
use Rattle.grammar_descent.proofs.Moves.{expression_moves, specs_move, closing_moves}
use Rattle.grammar_descent.proofs.Starts.{expression_instead, named_moves, specs_end, no_semicolon}

abbrev pub state : ℕ → Scope → State
state at scope = record { at = at; scope = scope }

abbrev pub with_name_found : Declarator → Name → Option Scope → NamedDeclarator
with_name_found node name own = record { node = node; name = name; own = own }

-- ---- tokens are taken

module _ {text : List ℕ} {ts : List Token} where
  mutual
    pub initialiser_moves : {depth from to : ℕ} {scope after : Scope} {v : Initialiser} → IsInitialiser text ts depth scope after from to v → from < to
    initialiser_moves (g.value is) = expression_moves text ts is
    initialiser_moves (g.braces opens all closes) = let i = initialisers_move all in let j = closing_moves ts closes in omega arith

    pub initialisers_move : {depth from to : ℕ} {scope after : Scope} {all : List Initialiser} → AreInitialisers text ts depth scope after from to all →
        from + length all ≤ to
    initialisers_move (g.last_initialiser is) = let i = initialiser_moves is in omega arith
    initialisers_move (g.more_initialisers is comma rest) = let i = initialiser_moves is in let j = initialisers_move rest in omega arith

  pub init_declarator_moves : {depth from to : ℕ} {what : NameKind} {scope after : Scope} {d : InitDeclarator} →
      IsInitDeclarator text ts depth what scope after from to d → from < to
  init_declarator_moves (g.without_value is) = named_moves is
  init_declarator_moves (g.with_value is equal v) = let i = named_moves is in let j = initialiser_moves v in omega arith

  pub init_declarators_move : {depth from to : ℕ} {what : NameKind} {scope after : Scope} {all : List InitDeclarator} →
      AreInitDeclarators text ts depth what scope after from to all → from + length all ≤ to
  init_declarators_move (g.last is) = let i = init_declarator_moves is in omega arith
  init_declarators_move (g.more is comma rest) = let i = init_declarator_moves is in let j = init_declarators_move rest in omega arith

  pub declaration_moves : {depth from to : ℕ} {scope after : Scope} {d : Declaration} → IsDeclaration text ts depth scope after from to d → from < to
  declaration_moves (g.of_no_name is ends) = let i = specs_move text ts is in omega arith
  declaration_moves (g.of_names is all ends) = let i = specs_move text ts is in let j = init_declarators_move all in omega arith

  pub names_begin : {d from to : ℕ} {what : NameKind} {scope after : Scope} {all : List InitDeclarator} → AreInitDeclarators text ts d what scope after from to all →
      (ends_specs (kind_at ts from) ≡ true) × (kind_at ts from ≢ Some (k.Mark mark.Semicolon))
  names_begin (g.last (g.without_value is)) = (specs_end is, no_semicolon is)
  names_begin (g.last (g.with_value is equal v)) = (specs_end is, no_semicolon is)
  names_begin (g.more (g.without_value is) comma rest) = (specs_end is, no_semicolon is)
  names_begin (g.more (g.with_value is equal v) comma rest) = (specs_end is, no_semicolon is)

  -- no brace closes where initialisers begin
  initialiser_open : {depth from to : ℕ} {scope after : Scope} {v : Initialiser} → IsInitialiser text ts depth scope after from to v →
      kind_at ts from ≢ Some (k.Mark mark.RightBrace)
  initialiser_open (g.value is) h = expression_instead is (k.Mark mark.RightBrace) refl h
  initialiser_open (g.braces opens all closes) h = cc

  initialisers_open : {depth from to : ℕ} {scope after : Scope} {all : List Initialiser} → AreInitialisers text ts depth scope after from to all →
      kind_at ts from ≢ Some (k.Mark mark.RightBrace)
  initialisers_open (g.last_initialiser is) h = initialiser_open is h
  initialisers_open (g.more_initialisers is comma rest) h = initialiser_open is h

module _ (ts : List Token) (phrases : ℕ → Readers) where
  -- the declarator of a name, and what is declared with it
  pub record IsRead (depth : ℕ) (what : NameKind) (s : State) (d : InitDeclarator) (t : State) : Type 0 where
    pub first : NamedDeclarator × State
    pub is : step.named_declarator ts phrases depth s ≡ Some first
    pub rest : step.with_initialiser ts phrases depth what s.at first ≡ Some (d, t)
    pub no_body : kind_at ts first.1.at ≢ Some (k.Mark mark.LeftBrace)

  -- the declarator of a first name, and all that is declared with it
  pub record AreRead (depth : ℕ) (what : NameKind) (s : State) (all : List InitDeclarator) (t : State) : Type 0 where
    pub first : NamedDeclarator × State
    pub is : step.named_declarator ts phrases depth s ≡ Some first
    pub rest : step.init_declarators ts phrases depth what s.at first ≡ Some (all, t)
    pub no_body : kind_at ts first.1.at ≢ Some (k.Mark mark.LeftBrace)

closing_ends : {ts : List Token} {at to : ℕ} → ClosesList ts at to → ends (tightness of.Assignment) (kind_at ts at) ≡ true
closing_ends (brace is) = rw is refl
closing_ends (comma_and_brace is after) = rw is refl

separated : (ts : List Token) (at : ℕ) → IsMark ts at mark.Comma ⊎ IsMark ts at mark.Semicolon →
    (ends (tightness of.Assignment) (kind_at ts at) ≡ true) × (ends_declarator (kind_at ts at) ≡ true) × (kind_at ts at ≢ Some (k.Mark mark.Equal)) × (kind_at ts at ≢ Some (k.Mark mark.LeftBrace))
separated ts at (inl is) = (rw is refl, rw is refl, λ h. cc, λ h. cc)
separated ts at (inr is) = (rw is refl, rw is refl, λ h. cc, λ h. cc)

closing_within : {ts : List Token} {at to : ℕ} → ClosesList ts at to → at < length ts
closing_within {ts} (brace {at} is) = stands_within ts at _ is
closing_within {ts} (comma_and_brace {at} is after) = stands_within ts at _ is

module _ (text : List ℕ) (ts : List Token) (phrases : ℕ → Readers) (exact : (d : ℕ) → Exact text ts d (phrases d)) where
  pub finds_expression : {d level from to : ℕ} {scope after : Scope} {e : Expression} → IsExpression text ts d level scope after from to e →
      (depth : ℕ) → d ≤ depth → ends level (kind_at ts to) ≡ true → step.expression_at ts phrases depth level (state from scope) ≡ Some (e, state to after)
  unfolding step.expression_at
  finds_expression {d} {level} {from} {to} {scope} {after} {e} is depth low closes =
      let f = (exact depth).expression_complete level d (state from scope) (state to after) e low is closes in rw f.is refl

  pub finds_declarator : {d from to : ℕ} {scope after : Scope} {name : Name} {own : Option Scope} {found : Declarator} →
      IsDeclarator text ts naming.Named whole d scope after from to (Some name) own found → (depth : ℕ) → d ≤ depth → ends_declarator (kind_at ts to) ≡ true →
      step.named_declarator ts phrases depth (state from scope) ≡ Some (with_name_found found name own, state to after)
  unfolding step.named_declarator
  finds_declarator {d} {from} {to} {scope} {after} {name} {own} {found} is depth low closes =
      let f = (exact depth).declarator_complete naming.Named d (state from scope) (state to after) found (Some name) own low is closes in rw f.is refl

  -- ---- initialisers

  initialiser-value : (depth from : ℕ) (scope : Scope) → kind_at ts from ≢ Some (k.Mark mark.LeftBrace) →
      step.initialiser ts phrases depth (state from scope) ≡ step.value ts phrases depth (state from scope)
  unfolding step.initialiser
  initialiser-value zero from scope other = rw (not_here ts from _ other) refl
  initialiser-value (suc depth) from scope other = rw (not_here ts from _ other) refl

  value_is : (depth from to : ℕ) (scope after : Scope) (e : Expression) → step.expression_at ts phrases depth (tightness of.Assignment) (state from scope) ≡ Some (e, state to after) →
      step.value ts phrases depth (state from scope) ≡ Some (i.Value e, state to after)
  unfolding step.value
  value_is depth from to scope after e found = rw found refl

  initialiser-braces : (depth from to : ℕ) (scope after : Scope) (all : List Initialiser) → IsMark ts from mark.LeftBrace →
      step.initialisers ts phrases (step.initialiser ts phrases depth) (length ts) [] (state (from + 1) scope) ≡ Some (all, state to after) →
      step.initialiser ts phrases (suc depth) (state from scope) ≡ Some (i.Braces (place_at ts from) all, state to after)
  unfolding step.initialiser step.braces
  initialiser-braces depth from to scope after all opens found = rw (here ts from _ opens, found) refl

  module _ (inner : Reading Initialiser) (n : ℕ) (found : List Initialiser) (v : Initialiser) (s : State) (at : ℕ) (scope : Scope)
      (is : inner s ≡ Some (v, state at scope)) where
    closes_brace : IsMark ts at mark.RightBrace → step.initialisers ts phrases inner (suc n) found s ≡ Some (found ++ v ∷ [], state (at + 1) scope)
    unfolding step.initialisers
    closes_brace closes = rw (is, here ts at _ closes) refl

    closes_comma : IsMark ts at mark.Comma → IsMark ts (at + 1) mark.RightBrace →
        step.initialisers ts phrases inner (suc n) found s ≡ Some (found ++ v ∷ [], state (at + 2) scope)
    unfolding step.initialisers
    closes_comma comma closes = rw (is, instead ts at (k.Mark mark.RightBrace) (k.Mark mark.Comma) comma (λ h. cc), here ts at _ comma, here ts (at + 1) _ closes) refl

    goes_on : IsMark ts at mark.Comma → kind_at ts (at + 1) ≢ Some (k.Mark mark.RightBrace) →
        step.initialisers ts phrases inner (suc n) found s ≡ step.initialisers ts phrases inner n (found ++ v ∷ []) (state (at + 1) scope)
    unfolding step.initialisers
    goes_on comma other = rw (is, instead ts at (k.Mark mark.RightBrace) (k.Mark mark.Comma) comma (λ h. cc), here ts at _ comma, not_here ts (at + 1) _ other) refl

    closed : {to : ℕ} → ClosesList ts at to → step.initialisers ts phrases inner (suc n) found s ≡ Some (found ++ v ∷ [], state to scope)
    closed (brace closes) = closes_brace closes
    closed (comma_and_brace comma closes) = closes_comma comma closes

  mutual
    pub finds_initialiser : {d from to : ℕ} {scope after : Scope} {v : Initialiser} → IsInitialiser text ts d scope after from to v →
        (depth : ℕ) → d ≤ depth → ends (tightness of.Assignment) (kind_at ts to) ≡ true → step.initialiser ts phrases depth (state from scope) ≡ Some (v, state to after)
    finds_initialiser (g.value {depth = d} {from} {to} {scope} {after} {e} is) depth low closes =
        initialiser-value depth from scope (expression_instead is (k.Mark mark.LeftBrace) refl)
        ∙ value_is depth from to scope after e (finds_expression is depth low closes)
    finds_initialiser (g.braces opens all closes) zero low ends = absurd (omega arith)
    finds_initialiser (g.braces {from} {at} {to} {scope} {after} {all = list} opens all closes) (suc depth) low ends =
        let room : length list ≤ length ts = (let i = initialisers_move all in let j = closing_within closes in omega arith) in
        initialiser-braces depth from to scope after list opens (finds_initialisers all depth (omega arith) closes (length ts) [] room)

    finds_initialisers : {d from at to : ℕ} {scope after : Scope} {all : List Initialiser} → AreInitialisers text ts d scope after from at all →
        (depth : ℕ) → d ≤ depth → ClosesList ts at to → (n : ℕ) (found : List Initialiser) → length all ≤ n →
        step.initialisers ts phrases (step.initialiser ts phrases depth) n found (state from scope) ≡ Some (found ++ all, state to after)
    finds_initialisers (g.last_initialiser is) depth low closes zero found room = absurd (omega arith)
    finds_initialisers (g.last_initialiser {from} {to} {scope} {after} {only} is) depth low closes (suc n) found room =
        closed (step.initialiser ts phrases depth) n found only (state from scope) to after (finds_initialiser is depth low (closing_ends closes)) closes
    finds_initialisers (g.more_initialisers is comma rest) depth low closes zero found room = absurd (omega arith)
    finds_initialisers {to = end} (g.more_initialisers {from} {at} {to} {scope} {between} {after} {first} {rest = list} is comma rest) depth low closes (suc n) found room =
        goes_on (step.initialiser ts phrases depth) n found first (state from scope) at between (finds_initialiser is depth low (rw comma refl)) comma (initialisers_open rest)
        ∙ finds_initialisers rest depth low closes n (found ++ first ∷ []) (omega arith)
        ∙ ap (λ l. Some (l, state end after)) (append_assoc found (first ∷ []) list)

  -- ---- declarators with initialisers

  after_equal-nothing : (depth at : ℕ) (scope : Scope) → kind_at ts at ≢ Some (k.Mark mark.Equal) → step.initialiser_after ts phrases depth (state at scope) ≡ Some (None, state at scope)
  unfolding step.initialiser_after
  after_equal-nothing depth at scope other = rw (not_here ts at _ other) refl

  after_equal-value : (depth at to : ℕ) (scope after : Scope) (v : Initialiser) → IsMark ts at mark.Equal →
      step.initialiser ts phrases depth (state (at + 1) scope) ≡ Some (v, state to after) →
      step.initialiser_after ts phrases depth (state at scope) ≡ Some (Some v, state to after)
  unfolding step.initialiser_after
  after_equal-value depth at to scope after v equal found = rw (here ts at _ equal, found) refl

  with_initialiser_is : (depth from : ℕ) (what : NameKind) (f : NamedDeclarator × State) (v : Option Initialiser) (t : State) →
      step.initialiser_after ts phrases depth (declare f.1 f.0.name what) ≡ Some (v, t) →
      step.with_initialiser ts phrases depth what from f ≡ Some (record { place = place_at ts from; declarator = f.0.node; value = v }, t)
  unfolding step.with_initialiser
  with_initialiser_is depth from what f v t found = rw found refl

  finds_init_declarator : {d from to : ℕ} {what : NameKind} {scope after : Scope} {found : InitDeclarator} →
      IsInitDeclarator text ts d what scope after from to found → (depth : ℕ) → d ≤ depth → IsMark ts to mark.Comma ⊎ IsMark ts to mark.Semicolon →
      IsRead ts phrases depth what (state from scope) found (state to after)
  finds_init_declarator (g.without_value {from} {to} {kind = what} {scope} {after} {name} {own} {declarator} is) depth low closes =
      let e = separated ts to closes in
      let f : NamedDeclarator × State = (with_name_found declarator name own, state to after) in
      record {
        first = f;
        is = finds_declarator is depth low e.1;
        rest = with_initialiser_is depth from what f None (state to ((name, what) ∷ after)) (after_equal-nothing depth to ((name, what) ∷ after) e.2);
        no_body = e.3;
      }
  finds_init_declarator (g.with_value {from} {at} {to} {kind = what} {scope} {between} {after} {name} {own} {declarator} {value} is equal v) depth low closes =
      let e = separated ts to closes in
      let f : NamedDeclarator × State = (with_name_found declarator name own, state at between) in
      record {
        first = f;
        is = finds_declarator is depth low (rw equal refl);
        rest = with_initialiser_is depth from what f (Some value) (state to after)
            (after_equal-value depth at to ((name, what) ∷ between) after value equal (finds_initialiser v depth low e.0));
        no_body = λ h. cc;
      }

  init_declarator_is : (depth : ℕ) (what : NameKind) (s t : State) (d : InitDeclarator) → IsRead ts phrases depth what s d t →
      step.init_declarator ts phrases depth what s ≡ Some (d, t)
  unfolding step.init_declarator
  init_declarator_is depth what s t d r = rw (r.is, r.rest) refl

  -- one more, and the others after it
  abbrev one_more : ℕ → NameKind → ℕ → List InitDeclarator → Reading (List InitDeclarator)
  one_more depth what n found s =
      step.init_declarator ts phrases depth what s >>= λ next. step.more_declarators ts phrases depth what n (found ++ next.0 ∷ []) next.1

  one_more_is : (depth : ℕ) (what : NameKind) (n : ℕ) (found : List InitDeclarator) (s t : State) (d : InitDeclarator) → IsRead ts phrases depth what s d t →
      one_more depth what n found s ≡ step.more_declarators ts phrases depth what n (found ++ d ∷ []) t
  one_more_is depth what n found s t d r = rw (init_declarator_is depth what s t d r) refl

  more_end : (depth : ℕ) (what : NameKind) (n : ℕ) (found : List InitDeclarator) (at : ℕ) (scope : Scope) → 1 ≤ n → IsMark ts at mark.Semicolon →
      step.more_declarators ts phrases depth what n found (state at scope) ≡ Some (found, state (at + 1) scope)
  unfolding step.more_declarators
  more_end depth what zero found at scope some ends = absurd (omega arith)
  more_end depth what (suc n) found at scope some ends =
      rw (instead ts at (k.Mark mark.Comma) (k.Mark mark.Semicolon) ends (λ h. cc), here ts at _ ends) refl

  more_more : (depth : ℕ) (what : NameKind) (n : ℕ) (found : List InitDeclarator) (at : ℕ) (scope : Scope) → IsMark ts at mark.Comma →
      step.more_declarators ts phrases depth what (suc n) found (state at scope) ≡ one_more depth what n found (state (at + 1) scope)
  unfolding step.more_declarators
  more_more depth what n found at scope comma = rw (here ts at _ comma) refl

  finds_more : {d from to : ℕ} {what : NameKind} {scope after : Scope} {all : List InitDeclarator} →
      AreInitDeclarators text ts d what scope after from to all → (depth : ℕ) → d ≤ depth → IsMark ts to mark.Semicolon → (n : ℕ) (found : List InitDeclarator) →
      length all ≤ n → one_more depth what n found (state from scope) ≡ Some (found ++ all, state (to + 1) after)
  finds_more (g.last {from} {to} {kind = what} {scope} {after} {only} is) depth low ends n found room =
      one_more_is depth what n found (state from scope) (state to after) only (finds_init_declarator is depth low (inr ends))
      ∙ more_end depth what n (found ++ only ∷ []) to after room ends
  finds_more (g.more is comma rest) depth low ends zero found room = absurd (omega arith)
  finds_more (g.more {from} {at} {to} {kind = what} {scope} {between} {after} {first} {rest = list} is comma rest) depth low ends (suc n) found room =
      one_more_is depth what (suc n) found (state from scope) (state at between) first (finds_init_declarator is depth low (inl comma))
      ∙ more_more depth what n (found ++ first ∷ []) at between comma
      ∙ finds_more rest depth low ends n (found ++ first ∷ []) (omega arith)
      ∙ ap (λ l. Some (l, state (to + 1) after)) (append_assoc found (first ∷ []) list)

  -- ---- declarations

  init_declarators_are : (depth : ℕ) (what : NameKind) (s between t : State) (d : InitDeclarator) (rest : List InitDeclarator) → IsRead ts phrases depth what s d between →
      step.more_declarators ts phrases depth what (length ts) (d ∷ []) between ≡ Some (d ∷ rest, t) → AreRead ts phrases depth what s (d ∷ rest) t
  unfolding step.init_declarators
  init_declarators_are depth what s between t d rest r found =
      record { first = r.first; is = r.is; rest = rw (r.rest, found) refl; no_body = r.no_body }

  more_are : (depth : ℕ) (what : NameKind) (n : ℕ) (found : List InitDeclarator) (at : ℕ) (scope : Scope) (answer : Option (List InitDeclarator × State)) →
      IsMark ts at mark.Comma → 1 ≤ n → ((m : ℕ) → n ≡ m + 1 → one_more depth what m found (state (at + 1) scope) ≡ answer) →
      step.more_declarators ts phrases depth what n found (state at scope) ≡ answer
  more_are depth what zero found at scope answer comma some rest = absurd (omega arith)
  more_are depth what (suc n) found at scope answer comma some rest = more_more depth what n found at scope comma ∙ rest n (omega arith)

  pub finds_init_declarators : {d from to : ℕ} {what : NameKind} {scope after : Scope} {all : List InitDeclarator} →
      AreInitDeclarators text ts d what scope after from to all → (depth : ℕ) → d ≤ depth → IsMark ts to mark.Semicolon →
      AreRead ts phrases depth what (state from scope) all (state (to + 1) after)
  finds_init_declarators (g.last {from} {to} {kind = what} {scope} {after} {only} is) depth low ends =
      let within = stands_within ts to _ ends in
      init_declarators_are depth what (state from scope) (state to after) (state (to + 1) after) only [] (finds_init_declarator is depth low (inr ends))
      (more_end depth what (length ts) (only ∷ []) to after (omega arith) ends)
  finds_init_declarators (g.more {from} {at} {to} {kind = what} {scope} {between} {after} {first} {rest = list} is comma rest) depth low ends =
      let within = stands_within ts to _ ends in
      let j = init_declarators_move rest in
      init_declarators_are depth what (state from scope) (state at between) (state (to + 1) after) first list (finds_init_declarator is depth low (inl comma))
      (more_are depth what (length ts) (first ∷ []) at between (Some (first ∷ list, state (to + 1) after)) comma (omega arith)
      (λ m same. finds_more rest depth low ends m (first ∷ []) (omega arith)))

  pub finds_specs : {d from to : ℕ} {scope after : Scope} {roles : List Role} {found : Specs} → IsSpecs text ts d scope after roles from to found →
      (depth : ℕ) → d ≤ depth → ends_specs (kind_at ts to) ≡ true →
      (height : ℕ) × ((phrases depth).specs (state from scope) ≡ Some ((found, roles, height), state to after))
  finds_specs {d} {from} {to} {scope} {after} {roles} {found} is depth low closes =
      let f = (exact depth).specs_complete d (state from scope) (state to after) found roles low is closes in (f.height, f.is)

  declaration-alone : (depth height from at : ℕ) (scope after : Scope) (specs : Specs) (roles : List Role) →
      (phrases depth).specs (state from scope) ≡ Some ((specs, roles, height), state at after) → IsMark ts at mark.Semicolon →
      step.declaration ts phrases depth (state from scope) ≡ Some (record { place = place_at ts from; specs = specs; declarators = [] }, state (at + 1) after)
  unfolding step.declaration
  declaration-alone depth height from at scope after specs roles found ends = rw (found, here ts at _ ends) refl

  declaration-names : (depth height from at : ℕ) (scope between : Scope) (specs : Specs) (roles : List Role) (all : List InitDeclarator) (t : State) →
      (phrases depth).specs (state from scope) ≡ Some ((specs, roles, height), state at between) → kind_at ts at ≢ Some (k.Mark mark.Semicolon) →
      AreRead ts phrases depth (declared_kind roles) (state at between) all t →
      step.declaration ts phrases depth (state from scope) ≡ Some (record { place = place_at ts from; specs = specs; declarators = all }, t)
  unfolding step.declaration step.declaration_of_names
  declaration-names depth height from at scope between specs roles all t found other r = rw (found, not_here ts at _ other, r.is, r.rest) refl

  pub finds_declaration : {d from to : ℕ} {scope after : Scope} {found : Declaration} → IsDeclaration text ts d scope after from to found →
      (depth : ℕ) → d ≤ depth → step.declaration ts phrases depth (state from scope) ≡ Some (found, state to after)
  finds_declaration (g.of_no_name {from} {at} {scope} {after} {roles} {specs} is ends) depth low =
      let (height, f) = finds_specs is depth low (rw ends refl) in declaration-alone depth height from at scope after specs roles f ends
  finds_declaration (g.of_names {from} {at} {to} {scope} {between} {after} {roles} {specs} {declarators} is all ends) depth low =
      let b = names_begin all in
      let (height, f) = finds_specs is depth low b.0 in
      declaration-names depth height from at scope between specs roles declarators (state (to + 1) after) f b.1 (finds_init_declarators all depth low ends)
