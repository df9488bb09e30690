-- What is read is an initialiser or a declaration.
use Rattle.std.proofs.Common.{◌≡◌, ℕ, zero, suc, ◌+◌, List, [], ◌∷◌, ◌++◌, length, Option, Some, None, ◌⊎◌, inl, inr, refl, sym, subst, ◌∙◌, append_assoc, append-nil}
use Rattle.c_tokens.specs.declared.token.Token.{Token}
use Rattle.c_tokens.specs.declared.kind.Kind.TheVariants as k
use Rattle.c_tokens.specs.declared.kind.Mark.TheVariants as mark
use Rattle.c_grammar.specs.declared.words.Naming.TheVariants as naming
use Rattle.c_grammar.specs.declared.words.Level.TheVariants as of
use Rattle.c_grammar.specs.declared.words.NameKind.{NameKind}
use Rattle.c_grammar.specs.declared.phrases.Expression.{Expression}
use Rattle.c_grammar.specs.declared.phrases.Specs.{Specs}
use Rattle.c_grammar.specs.declared.phrases.Declarator.{Declarator}
use Rattle.c_grammar.specs.declared.statements.Initialiser.{Initialiser}
use Rattle.c_grammar.specs.declared.statements.Initialiser.TheVariants as i
use Rattle.c_grammar.specs.declared.statements.InitDeclarator.{InitDeclarator}
use Rattle.c_grammar.specs.declared.statements.Declaration.{Declaration}
use Rattle.c_tokens.specs.Names.{Name}
use Rattle.c_grammar.specs.Tokens.{place_at, IsMark, ClosesList, brace, comma_and_brace}
use Rattle.c_grammar.specs.Words.{Role}
use Rattle.c_grammar.specs.Scope.{Scope, declared_kind}
use Rattle.c_grammar.specs.Operators.{tightness}
use Rattle.c_grammar.specs.Phrases.{IsExpression, IsSpecs, IsDeclarator, whole}
use Rattle.c_grammar.specs.Initialisers as g
use Rattle.c_grammar.specs.Initialisers.{IsInitialiser, AreInitialisers, IsInitDeclarator, AreInitDeclarators, IsDeclaration}
use Rattle.grammar_descent.specs.Reading.{State, Reading, mark_at, past, Readers}
use Rattle.grammar_descent.specs.Exact.{Exact}
use Rattle.grammar_descent.specs.InitialiserSteps as step
use Rattle.grammar_descent.specs.InitialiserSteps.{NamedDeclarator, declare, with_its_name}
use Rattle.grammar_descent.proofs.Seen.{stands, bind_some, chosen, seen}
use Rattle.grammar_descent.proofs.InitialiserComplete.{with_name_found}

module _ (text : List ℕ) (ts : List Token) where
  -- an expression, an initialiser, a declarator of a name, specifiers, from the one state up to the other
  abbrev pub SomeExpression : ℕ → ℕ → State → Expression × State → Type 0
  SomeExpression depth level s f = IsExpression text ts depth level s.scope f.1.scope s.at f.1.at f.0

  abbrev pub SomeInitialiser : ℕ → State → Initialiser × State → Type 0
  SomeInitialiser depth s f = IsInitialiser text ts depth s.scope f.1.scope s.at f.1.at f.0

  abbrev pub SomeDeclarator : ℕ → State → NamedDeclarator × State → Type 0
  SomeDeclarator depth s f = IsDeclarator text ts naming.Named whole depth s.scope f.1.scope s.at f.1.at (Some f.0.name) f.0.own f.0.node

  abbrev pub SomeInitDeclarator : ℕ → NameKind → State → InitDeclarator × State → Type 0
  SomeInitDeclarator depth what s f = IsInitDeclarator text ts depth what s.scope f.1.scope s.at f.1.at f.0

  abbrev pub SomeDeclaration : ℕ → State → Declaration × State → Type 0
  SomeDeclaration depth s f = IsDeclaration text ts depth s.scope f.1.scope s.at f.1.at f.0

  -- what was found before, and then initialisers up to the brace
  record InitialisersFound (depth : ℕ) (found : List Initialiser) (s : State) (f : List Initialiser × State) : Type 0 where
    pub rest : List Initialiser
    pub middle : ℕ
    pub all : f.0 ≡ found ++ rest
    pub each : AreInitialisers text ts depth s.scope f.1.scope s.at middle rest
    pub closes : ClosesList ts middle f.1.at

  -- a first declarator with its initialiser, what was found, the others, and the semicolon
  pub record AllDeclared (depth : ℕ) (what : NameKind) (start : State) (first : InitDeclarator) (found : List InitDeclarator) (f : List InitDeclarator × State) : Type 0 where
    pub rest : List InitDeclarator
    pub middle : ℕ
    pub all : f.0 ≡ found ++ rest
    pub each : AreInitDeclarators text ts depth what start.scope f.1.scope start.at middle (first ∷ rest)
    pub closes : IsMark ts middle mark.Semicolon
    pub next : f.1.at ≡ middle + 1

  declarator_named : (depth : ℕ) (s t : State) (name : Option Name) (own : Option Scope) (d : Declarator) (f : NamedDeclarator × State) → with_its_name name d own t ≡ Some f →
      IsDeclarator text ts naming.Named whole depth s.scope t.scope s.at t.at name own d → SomeDeclarator depth s f
  declarator_named depth s t (Some name) own d f h is = let e : (with_name_found d name own, t) ≡ f = cc in subst (λ f. SomeDeclarator depth s f) e is
  declarator_named depth s t None own d f h is = absurd cc

module _ (text : List ℕ) (ts : List Token) (phrases : ℕ → Readers) (exact : (d : ℕ) → Exact text ts d (phrases d)) where
  pub sound_expression : (depth level : ℕ) (s : State) (f : Expression × State) → step.expression_at ts phrases depth level s ≡ Some f → SomeExpression text ts depth level s f
  unfolding step.expression_at
  sound_expression depth level s f h =
      let (r, found, h1) = bind_some ((phrases depth).expression level s) _ f h in
      let low = (exact depth).expression_sound.low level s r.1 r.0.0 r.0.1 found in
      let e : (r.0.0, r.1) ≡ f = cc in
      subst (λ f. SomeExpression text ts depth level s f) e ((exact depth).expression_sound.derived level depth s r.1 r.0.0 r.0.1 found low)

  pub sound_declarator : (depth : ℕ) (s : State) (f : NamedDeclarator × State) → step.named_declarator ts phrases depth s ≡ Some f → SomeDeclarator text ts depth s f
  unfolding step.named_declarator
  sound_declarator depth s f h =
      let (r, found, h1) = bind_some ((phrases depth).declarator naming.Named s) _ f h in
      let low = (exact depth).declarator_sound.low naming.Named s r.1 r.0 found in
      declarator_named text ts depth s r.1 r.0.name r.0.own r.0.node f h1 ((exact depth).declarator_sound.derived naming.Named depth s r.1 r.0 found low)

  pub sound_specs : (depth : ℕ) (s : State) (f : (Specs × List Role × ℕ) × State) → (phrases depth).specs s ≡ Some f →
      IsSpecs text ts depth s.scope f.1.scope f.0.1 s.at f.1.at f.0.0
  sound_specs depth s f found =
      let low = (exact depth).specs_sound.low s f.1 f.0.0 f.0.1 f.0.2 found in
      (exact depth).specs_sound.derived depth s f.1 f.0.0 f.0.1 f.0.2 found low

  -- ---- initialisers

  sound_value : (depth : ℕ) (s : State) (f : Initialiser × State) → step.value ts phrases depth s ≡ Some f → SomeInitialiser text ts depth s f
  unfolding step.value
  sound_value depth s f h =
      let (v, found, h1) = bind_some (step.expression_at ts phrases depth (tightness of.Assignment) s) _ f h in
      let e : (i.Value v.0, v.1) ≡ f = cc in
      subst (λ f. SomeInitialiser text ts depth s f) e (g.value (sound_expression depth (tightness of.Assignment) s v found))

  module _ (depth : ℕ) (inner : Reading Initialiser) (is_inner : (s : State) (f : Initialiser × State) → inner s ≡ Some f → SomeInitialiser text ts depth s f) where
    sound_initialisers : (n : ℕ) (found : List Initialiser) (s : State) (f : List Initialiser × State) →
        step.initialisers ts phrases inner n found s ≡ Some f → InitialisersFound text ts depth found s f
    unfolding step.initialisers
    sound_initialisers zero found s f h = absurd cc
    sound_initialisers (suc n) found s f h =
        let (next, is, h1) = bind_some (inner s) _ f h in
        elim (chosen (mark_at ts next.1.at mark.RightBrace) _ _ (Some f) h1) [
          | inl c ↦ (
              let e : (found ++ next.0 ∷ [], past next.1 1) ≡ f = (let i = c.1 in cc) in
              subst (λ f. InitialisersFound text ts depth found s f) e (record {
                rest = next.0 ∷ [];
                middle = next.1.at;
                all = refl;
                each = g.last_initialiser (is_inner s next is);
                closes = brace (stands ts next.1.at _ c.0);
              }))
          | inr c ↦ (
              let (comma, h2) = seen ts next.1.at (k.Mark mark.Comma) _ f c.1 in
              elim (chosen (mark_at ts (next.1.at + 1) mark.RightBrace) _ _ (Some f) h2) [
                | inl d ↦ (
                    let e : (found ++ next.0 ∷ [], past next.1 2) ≡ f = (let i = d.1 in cc) in
                    subst (λ f. InitialisersFound text ts depth found s f) e (record {
                      rest = next.0 ∷ [];
                      middle = next.1.at;
                      all = refl;
                      each = g.last_initialiser (is_inner s next is);
                      closes = comma_and_brace comma (stands ts (next.1.at + 1) _ d.0);
                    }))
                | inr d ↦ (
                    let r = sound_initialisers n (found ++ next.0 ∷ []) (past next.1 1) f d.1 in
                    record {
                      rest = next.0 ∷ r.rest;
                      middle = r.middle;
                      all = r.all ∙ append_assoc found (next.0 ∷ []) r.rest;
                      each = g.more_initialisers (is_inner s next is) comma r.each;
                      closes = r.closes;
                    })
              ])
        ]

    sound_braces : (s : State) (f : Initialiser × State) → IsMark ts s.at mark.LeftBrace → step.braces ts phrases inner s ≡ Some f → SomeInitialiser text ts (suc depth) s f
    unfolding step.braces
    sound_braces s f opens h =
        let (all, found, h1) = bind_some (step.initialisers ts phrases inner (length ts) [] (past s 1)) _ f h in
        let r = sound_initialisers (length ts) [] (past s 1) all found in
        let e : (i.Braces (place_at ts s.at) r.rest, all.1) ≡ f = (let a = r.all in cc) in
        subst (λ f. SomeInitialiser text ts (suc depth) s f) e (g.braces opens r.each r.closes)

  pub sound_initialiser : (depth : ℕ) (s : State) (f : Initialiser × State) → step.initialiser ts phrases depth s ≡ Some f → SomeInitialiser text ts depth s f
  unfolding step.initialiser
  sound_initialiser zero s f h =
      elim (chosen (mark_at ts s.at mark.LeftBrace) None (step.value ts phrases zero s) (Some f) h) [
        | inl c ↦ absurd (let i = c.1 in cc)
        | inr c ↦ sound_value zero s f c.1
      ]
  sound_initialiser (suc depth) s f h =
      elim (chosen (mark_at ts s.at mark.LeftBrace) (step.braces ts phrases (step.initialiser ts phrases depth) s) (step.value ts phrases (suc depth) s) (Some f) h) [
        | inl c ↦ sound_braces depth (step.initialiser ts phrases depth) (sound_initialiser depth) s f (stands ts s.at _ c.0) c.1
        | inr c ↦ sound_value (suc depth) s f c.1
      ]

  -- ---- declarators with initialisers

  -- no initialiser, or one after `=`
  record IsAfterEqual (depth : ℕ) (s : State) (v : Initialiser) (t : State) : Type 0 where
    pub equal : IsMark ts s.at mark.Equal
    pub is : IsInitialiser text ts depth s.scope t.scope (s.at + 1) t.at v

  sound_initialiser_after : (depth : ℕ) (s : State) (f : Option Initialiser × State) → step.initialiser_after ts phrases depth s ≡ Some f →
      (◌≡◌ {A = Option Initialiser × State} (None, s) f) ⊎ ((v : Initialiser × State) × (◌≡◌ {A = Option Initialiser × State} (Some v.0, v.1) f) × IsAfterEqual depth s v.0 v.1)
  unfolding step.initialiser_after
  sound_initialiser_after depth s f h =
      elim (chosen (mark_at ts s.at mark.Equal) _ (Some (None, s)) (Some f) h) [
        | inl c ↦ (
            let (v, found, h1) = bind_some (step.initialiser ts phrases depth (past s 1)) _ f c.1 in
            inr (v, cc, record { equal = stands ts s.at _ c.0; is = sound_initialiser depth (past s 1) v found }))
        | inr c ↦ inl (let i = c.1 in cc)
      ]

  sound_with_initialiser : (depth : ℕ) (what : NameKind) (s : State) (d : NamedDeclarator × State) (f : InitDeclarator × State) → SomeDeclarator text ts depth s d →
      step.with_initialiser ts phrases depth what s.at d ≡ Some f → SomeInitDeclarator text ts depth what s f
  unfolding step.with_initialiser
  sound_with_initialiser depth what s d f is h =
      let (v, found, h1) = bind_some (step.initialiser_after ts phrases depth (declare d.1 d.0.name what)) _ f h in
      elim (sound_initialiser_after depth (declare d.1 d.0.name what) v found) [
        | inl none ↦ (
            let e : (record { place = place_at ts s.at; declarator = d.0.node; value = None }, declare d.1 d.0.name what) ≡ f = cc in
            subst (λ f. SomeInitDeclarator text ts depth what s f) e (g.without_value is))
        | inr some ↦ (
            let (x, same, r) = some in
            let e : (record { place = place_at ts s.at; declarator = d.0.node; value = Some x.0 }, x.1) ≡ f = cc in
            subst (λ f. SomeInitDeclarator text ts depth what s f) e (g.with_value is r.equal r.is))
      ]

  sound_init_declarator : (depth : ℕ) (what : NameKind) (s : State) (f : InitDeclarator × State) → step.init_declarator ts phrases depth what s ≡ Some f →
      SomeInitDeclarator text ts depth what s f
  unfolding step.init_declarator
  sound_init_declarator depth what s f h =
      let (d, found, h1) = bind_some (step.named_declarator ts phrases depth s) _ f h in
      sound_with_initialiser depth what s d f (sound_declarator depth s d found) h1

  sound_more : (depth : ℕ) (what : NameKind) (n : ℕ) (start : State) (first : InitDeclarator × State) (found : List InitDeclarator) (f : List InitDeclarator × State) →
      SomeInitDeclarator text ts depth what start first → step.more_declarators ts phrases depth what n found first.1 ≡ Some f →
      AllDeclared text ts depth what start first.0 found f
  unfolding step.more_declarators
  sound_more depth what zero start first found f is h = absurd cc
  sound_more depth what (suc n) start first found f is h =
      elim (chosen (mark_at ts first.1.at mark.Comma) _ _ (Some f) h) [
        | inl c ↦ (
            let (next, another, h1) = bind_some (step.init_declarator ts phrases depth what (past first.1 1)) _ f c.1 in
            let r = sound_more depth what n (past first.1 1) next (found ++ next.0 ∷ []) f (sound_init_declarator depth what (past first.1 1) next another) h1 in
            record {
              rest = next.0 ∷ r.rest;
              middle = r.middle;
              all = r.all ∙ append_assoc found (next.0 ∷ []) r.rest;
              each = g.more is (stands ts first.1.at _ c.0) r.each;
              closes = r.closes;
              next = r.next;
            })
        | inr c ↦ (
            let (closes, h1) = seen ts first.1.at (k.Mark mark.Semicolon) _ f c.1 in
            let e : (found, past first.1 1) ≡ f = cc in
            subst (λ f. AllDeclared text ts depth what start first.0 found f) e
            (record { rest = []; middle = first.1.at; all = sym (append-nil found); each = g.last is; closes = closes; next = refl }))
      ]

  -- ---- declarations

  pub sound_with_names : (depth : ℕ) (s : State) (specs : (Specs × List Role × ℕ) × State) (d : NamedDeclarator × State) (f : Declaration × State) →
      IsSpecs text ts depth s.scope specs.1.scope specs.0.1 s.at specs.1.at specs.0.0 → SomeDeclarator text ts depth specs.1 d →
      step.declaration_of_names ts phrases depth s.at specs.0.0 specs.0.1 specs.1.at d ≡ Some f → SomeDeclaration text ts depth s f
  unfolding step.declaration_of_names step.init_declarators
  sound_with_names depth s specs d f is called h =
      let what = declared_kind specs.0.1 in
      let (all, found, h1) = bind_some (step.init_declarators ts phrases depth what specs.1.at d) _ f h in
      let (first, one, h2) = bind_some (step.with_initialiser ts phrases depth what specs.1.at d) _ all found in
      let r = sound_more depth what (length ts) specs.1 first (first.0 ∷ []) all (sound_with_initialiser depth what specs.1 d first called one) h2 in
      let e : (record { place = place_at ts s.at; specs = specs.0.0; declarators = first.0 ∷ r.rest }, all.1) ≡ f = (let a = r.all in cc) in
      subst (λ f. SomeDeclaration text ts depth s f) e
      (subst (λ n. IsDeclaration text ts depth s.scope all.1.scope s.at n (record { place = place_at ts s.at; specs = specs.0.0; declarators = first.0 ∷ r.rest })) (sym r.next)
      (g.of_names is r.each r.closes))

  pub sound_alone : (depth : ℕ) (s : State) (specs : (Specs × List Role × ℕ) × State) → IsSpecs text ts depth s.scope specs.1.scope specs.0.1 s.at specs.1.at specs.0.0 →
      IsMark ts specs.1.at mark.Semicolon → SomeDeclaration text ts depth s (record { place = place_at ts s.at; specs = specs.0.0; declarators = [] }, past specs.1 1)
  sound_alone depth s specs is end = g.of_no_name is end

  pub sound_declaration : (depth : ℕ) (s : State) (f : Declaration × State) → step.declaration ts phrases depth s ≡ Some f → SomeDeclaration text ts depth s f
  unfolding step.declaration
  sound_declaration depth s f h =
      let (specs, found, h1) = bind_some ((phrases depth).specs s) _ f h in
      let is = sound_specs depth s specs found in
      elim (chosen (mark_at ts specs.1.at mark.Semicolon) _ _ (Some f) h1) [
        | inl c ↦ (
            let e : (record { place = place_at ts s.at; specs = specs.0.0; declarators = [] }, past specs.1 1) ≡ f = (let i = c.1 in cc) in
            subst (λ f. SomeDeclaration text ts depth s f) e (sound_alone depth s specs is (stands ts specs.1.at _ c.0)))
        | inr c ↦ (
            let (d, one, h2) = bind_some (step.named_declarator ts phrases depth specs.1) _ f c.1 in
            sound_with_names depth s specs d f is (sound_declarator depth specs.1 d one) h2)
      ]
