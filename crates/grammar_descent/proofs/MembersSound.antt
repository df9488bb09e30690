-- What is read as members or as enumeration constants is derived.
use Rattle.std.proofs.Common.{◌≡◌, ℕ, zero, suc, ◌+◌, ◌<◌, ◌≤◌, max, ◌&&◌, List, [], ◌∷◌, ◌++◌, length, Option, Some, None, refl, sym, ap, subst, ◌∙◌, arith, inl, inr}
use Rattle.std.proofs.lemmas.Bool.{cases_Bool}
use Rattle.c_tokens.specs.declared.kind.Mark.TheVariants as mark
use Rattle.c_tokens.specs.declared.kind.Kind.TheVariants as k
use Rattle.c_tokens.specs.declared.token.Token.{Token}
use Rattle.c_grammar.specs.declared.words.NameKind.TheVariants as declares
use Rattle.c_grammar.specs.declared.words.Naming.TheVariants as naming
use Rattle.c_grammar.specs.declared.words.Level.TheVariants as of
use Rattle.c_grammar.specs.declared.phrases.Expression.{Expression}
use Rattle.c_grammar.specs.declared.phrases.Member.{Member}
use Rattle.c_grammar.specs.declared.phrases.Enumerator.{Enumerator}
use Rattle.c_grammar.specs.declared.phrases.Declarator.{Declarator}
use Rattle.c_tokens.specs.Names.{Name}
use Rattle.token_texts.specs.Names.{name_at}
use Rattle.c_grammar.specs.Tokens.{place_at, IsMark, IsOptionalName, absent, present, ClosesList, brace, comma_and_brace}
use Rattle.c_grammar.specs.Scope.{Scope}
use Rattle.c_grammar.specs.Operators.{tightness}
use Rattle.c_grammar.specs.Phrases.{DeclaratorKind, whole, IsDeclarator, AreMembers, IsMember, AreDeclarators, AreEnumerators, IsEnumerator}
use Rattle.c_grammar.specs.Phrases as p
use Rattle.grammar_descent.specs.Reading.{State, Reading, FoundDeclarator, sees, mark_at, past, Readers}
use Rattle.grammar_descent.specs.Exact.{Grows, SoundExpression}
use Rattle.grammar_descent.specs.SpecifierSteps as step
use Rattle.grammar_descent.proofs.Seen.{stands, bind_some, chosen, seen, both}
use Rattle.grammar_descent.proofs.States.{added}
use Rattle.grammar_descent.proofs.Nested.{Sound}
use Rattle.grammar_descent.proofs.DeclaratorSound.{grows_on}

module _ (text : List ℕ) (ts : List Token) where
  pub optional_name_sound : (at : ℕ) → IsOptionalName ts at (step.optional_name text ts at).1 (step.optional_name text ts at).0
  unfolding step.optional_name
  optional_name_sound at = elim (cases_Bool (sees ts at k.Name)) [
    | inl c ↦ rw c (present (stands ts at k.Name c))
    | inr c ↦ rw c absent
  ]

  pub closing_sound : (at to : ℕ) → step.closing_at text ts at ≡ Some to → ClosesList ts at to
  unfolding step.closing_at
  closing_sound at to h = elim (chosen (mark_at ts at mark.RightBrace) _ _ (Some to) h) [
    | inl c ↦ (let e : at + 1 ≡ to = (let i = c.1 in cc) in subst (ClosesList ts at) e (brace (stands ts at _ c.0)))
    | inr c ↦ (
        let (is, h1) = seen ts at (k.Mark mark.Comma) _ to c.1 in
        let (closes, h2) = seen ts (at + 1) (k.Mark mark.RightBrace) _ to h1 in
        let e : at + 2 ≡ to = cc in
        subst (ClosesList ts at) e (comma_and_brace is closes))
  ]

  -- a declarator that has to have a name has one
  declared_name : {kind : DeclaratorKind} {d from to : ℕ} {scope after : Scope} {name : Option Name} {own : Option Scope} {node : Declarator} →
      IsDeclarator text ts naming.Named kind d scope after from to name own node → (n : Name) × (name ≡ Some n)
  declared_name (p.declared_name {from} is) = (name_at text ts from, refl)
  declared_name (p.pointer is all a) = declared_name a
  declared_name (p.in_parentheses opens may a some closes) = declared_name a
  declared_name (p.open_array a opens closes) = declared_name a
  declared_name (p.array a opens b closes) = declared_name a
  declared_name (p.function a opens all closes) = declared_name a

module _ (text : List ℕ) (ts : List Token) (depth : ℕ) (inner : Readers) (sound : Sound text ts depth inner) where
  -- What a loop reads is what it was given, and then declarators.
  record DeclaratorsRead (found : List Declarator) (high : ℕ) (s : State) (r : (List Declarator × ℕ) × State) : Type 0 where
    rest : List Declarator
    all : r.0.0 ≡ found ++ rest
    tall : high ≤ r.0.1
    low : high < depth → r.0.1 < depth
    derived : (d : ℕ) → r.0.1 ≤ d → AreDeclarators text ts d s.scope r.1.scope s.at r.1.at rest
    grows : Grows s.scope r.1.scope

  record OneDeclarator (s t : State) (node : Declarator) (height : ℕ) : Type 0 where
    name : Name
    own : Option Scope
    low : height < depth
    derived : (d : ℕ) → height ≤ d → IsDeclarator text ts naming.Named whole d s.scope t.scope s.at t.at (Some name) own node
    grows : Grows s.scope t.scope

  one_declarator : (s t : State) (found : FoundDeclarator) → inner.declarator naming.Named s ≡ Some (found, t) → OneDeclarator s t found.node found.height
  one_declarator s t found h =
      let f = sound.declarator naming.Named s t found h in
      let (n, is) = declared_name text ts (f.derived found.height (omega arith)) in
      record {
        name = n;
        own = found.own;
        low = f.low;
        derived = λ d deep. subst (λ l. IsDeclarator text ts naming.Named whole d s.scope t.scope s.at t.at l found.own found.node) is (f.derived d deep);
        grows = f.grows;
      }

  declarator_before : (found : List Declarator) (high : ℕ) (s t : State) (node : Declarator) (height : ℕ) (r : (List Declarator × ℕ) × State) →
      OneDeclarator s t node height → IsMark ts t.at mark.Comma → DeclaratorsRead (found ++ node ∷ []) (max high height) (past t 1) r →
      DeclaratorsRead found high s r
  declarator_before found high s t node height r one is more =
      let tall = more.tall in
      let low = one.low in
      record {
        rest = node ∷ more.rest;
        all = more.all ∙ added found node more.rest;
        tall = omega arith;
        low = λ small. more.low (omega arith);
        derived = λ d deep. p.more_declarators (one.derived d (omega arith)) is (more.derived d deep);
        grows = grows_on one.grows more.grows;
      }

  declarators_sound : (n : ℕ) (found : List Declarator) (high : ℕ) (s : State) (r : (List Declarator × ℕ) × State) →
      step.declarators text ts inner n found high s ≡ Some r → DeclaratorsRead found high s r
  unfolding step.declarators
  declarators_sound zero found high s r h = absurd cc
  declarators_sound (suc n) found high s r h =
      let (a, is, h1) = bind_some (inner.declarator naming.Named s) _ r h in
      let one = one_declarator s a.1 a.0 is in
      elim (chosen (mark_at ts a.1.at mark.Comma) _ _ (Some r) h1) [
        | inl c ↦ declarator_before found high s a.1 a.0.node a.0.height r one (stands ts a.1.at _ c.0)
            (declarators_sound n (found ++ a.0.node ∷ []) (max high a.0.height) (past a.1 1) r c.1)
        | inr c ↦ (
            let e : ((found ++ a.0.node ∷ [], max high a.0.height), a.1) ≡ r = (let i = c.1 in cc) in
            let low = one.low in
            subst (DeclaratorsRead found high s) e
            (record {
              rest = a.0.node ∷ [];
              all = refl;
              tall = omega arith;
              low = λ small. omega arith;
              derived = λ d deep. p.last_declarator (one.derived d (omega arith));
              grows = one.grows;
            }))
      ]

  record MemberRead (s : State) (r : (Member × ℕ) × State) : Type 0 where
    low : r.0.1 < depth
    derived : (d : ℕ) → r.0.1 ≤ d → IsMember text ts d s.scope r.1.scope s.at r.1.at r.0.0
    grows : Grows s.scope r.1.scope

  member_sound : (s : State) (r : (Member × ℕ) × State) → step.member_at text ts inner s ≡ Some r → MemberRead s r
  unfolding step.member_at
  member_sound s r h =
      let (a, found, h1) = bind_some (inner.specs s) _ r h in
      let (l, listed, h2) = bind_some (step.declarators text ts inner (length ts) [] 0 a.1) _ r h1 in
      let (closes, h3) = seen ts l.1.at (k.Mark mark.Semicolon) _ r h2 in
      let f = sound.specs s a.1 a.0.0 a.0.1 a.0.2 found in
      let g = declarators_sound (length ts) [] 0 a.1 l listed in
      let e : ((record { place = place_at ts s.at; specs = a.0.0; declarators = l.0.0 }, max a.0.2 l.0.1), past l.1 1) ≡ r = cc in
      let low = f.low in
      let low_too = g.low (omega arith) in
      subst (MemberRead s) e
      (record {
        low = omega arith;
        derived =
            λ d deep. p.member (f.derived d (omega arith))
            (subst (λ l1. AreDeclarators text ts d a.1.scope l.1.scope a.1.at l.1.at l1) (sym g.all) (g.derived d (omega arith))) closes;
        grows = grows_on f.grows g.grows;
      })

  -- What a loop reads is what it was given, and then members.
  pub record MembersRead (found : List Member) (high : ℕ) (s : State) (r : (List Member × ℕ) × State) : Type 0 where
    pub rest : List Member
    pub all : r.0.0 ≡ found ++ rest
    pub tall : high ≤ r.0.1
    pub some : 0 < depth
    pub low : high < depth → r.0.1 < depth
    pub derived : (d : ℕ) → r.0.1 ≤ d → AreMembers text ts d s.scope r.1.scope s.at r.1.at rest
    pub grows : Grows s.scope r.1.scope

  member_before : (found : List Member) (high : ℕ) (s : State) (a : (Member × ℕ) × State) (r : (List Member × ℕ) × State) → MemberRead s a →
      MembersRead (found ++ a.0.0 ∷ []) (max high a.0.1) a.1 r → MembersRead found high s r
  member_before found high s a r one more =
      let tall = more.tall in
      let low = one.low in
      record {
        rest = a.0.0 ∷ more.rest;
        all = more.all ∙ added found a.0.0 more.rest;
        tall = omega arith;
        some = more.some;
        low = λ small. more.low (omega arith);
        derived = λ d deep. p.more_members (one.derived d (omega arith)) (more.derived d deep);
        grows = grows_on one.grows more.grows;
      }

  pub members_sound : (n : ℕ) (found : List Member) (high : ℕ) (s : State) (r : (List Member × ℕ) × State) →
      step.members text ts inner n found high s ≡ Some r → MembersRead found high s r
  unfolding step.members
  members_sound zero found high s r h = absurd cc
  members_sound (suc n) found high s r h =
      let (a, is, h1) = bind_some (step.member_at text ts inner s) _ r h in
      let one = member_sound s a is in
      elim (chosen (mark_at ts a.1.at mark.RightBrace) _ _ (Some r) h1) [
        | inl c ↦ (
            let e : ((found ++ a.0.0 ∷ [], max high a.0.1), a.1) ≡ r = (let i = c.1 in cc) in
            let low = one.low in
            subst (MembersRead found high s) e
            (record {
              rest = a.0.0 ∷ [];
              all = refl;
              tall = omega arith;
              some = omega arith;
              low = λ small. omega arith;
              derived = λ d deep. p.last_member (one.derived d (omega arith));
              grows = one.grows;
            }))
        | inr c ↦ member_before found high s a r one (members_sound n (found ++ a.0.0 ∷ []) (max high a.0.1) a.1 r c.1)
      ]

module _ (text : List ℕ) (ts : List Token) (depth : ℕ) (expression : ℕ → Reading (Expression × ℕ)) (sound : SoundExpression text ts depth expression) where
  record EnumeratorRead (s : State) (r : (Enumerator × ℕ) × State) : Type 0 where
    low : r.0.1 ≤ depth
    derived : (d : ℕ) → r.0.1 ≤ d → IsEnumerator text ts d s.scope r.1.scope s.at r.1.at r.0.0
    grows : Grows s.scope r.1.scope

  enumerator_sound : (s : State) (r : (Enumerator × ℕ) × State) → step.enumerator_at text ts expression s ≡ Some r → EnumeratorRead s r
  unfolding step.enumerator_at
  enumerator_sound s r h =
      let (is, h1) = seen ts s.at k.Name _ r h in
      let name = name_at text ts s.at in
      elim (chosen (mark_at ts (s.at + 1) mark.Equal) _ _ (Some r) h1) [
        | inl c ↦ (
            let (v, found, h2) = bind_some (expression (tightness of.Conditional) (past s 2)) _ r c.1 in
            let next : State = record { at = v.1.at; scope = (name, declares.Ordinary) ∷ v.1.scope } in
            let e : ((record { place = place_at ts s.at; value = Some v.0.0 }, v.0.1), next) ≡ r = cc in
            let grew = sound.grows (tightness of.Conditional) (past s 2) v.1 v.0.0 v.0.1 found in
            subst (EnumeratorRead s) e
            (record {
              low = sound.low (tightness of.Conditional) (past s 2) v.1 v.0.0 v.0.1 found;
              derived =
                  λ d deep. p.with_value is (stands ts (s.at + 1) _ c.0) (sound.derived (tightness of.Conditional) d (past s 2) v.1 v.0.0 v.0.1 found deep);
              grows = record { new = (name, declares.Ordinary) ∷ grew.new; is = ap (λ l. (name, declares.Ordinary) ∷ l) grew.is };
            }))
        | inr c ↦ (
            let next : State = record { at = s.at + 1; scope = (name, declares.Ordinary) ∷ s.scope } in
            let e : ((record { place = place_at ts s.at; value = None }, 0), next) ≡ r = (let i = c.1 in cc) in
            subst (EnumeratorRead s) e
            (record {
              low = omega arith;
              derived = λ d deep. p.without_value is;
              grows = record { new = (name, declares.Ordinary) ∷ []; is = refl };
            }))
      ]

  -- What a loop reads is what it was given, and then enumeration constants.
  pub record EnumeratorsRead (found : List Enumerator) (high : ℕ) (s : State) (r : (List Enumerator × ℕ) × State) : Type 0 where
    pub rest : List Enumerator
    pub all : r.0.0 ≡ found ++ rest
    pub tall : high ≤ r.0.1
    pub low : high ≤ depth → r.0.1 ≤ depth
    pub derived : (d : ℕ) → r.0.1 ≤ d → AreEnumerators text ts d s.scope r.1.scope s.at r.1.at rest
    pub grows : Grows s.scope r.1.scope

  enumerator_before : (found : List Enumerator) (high : ℕ) (s : State) (a : (Enumerator × ℕ) × State) (r : (List Enumerator × ℕ) × State) → EnumeratorRead s a →
      IsMark ts a.1.at mark.Comma → EnumeratorsRead (found ++ a.0.0 ∷ []) (max high a.0.1) (past a.1 1) r → EnumeratorsRead found high s r
  enumerator_before found high s a r one is more =
      let tall = more.tall in
      let low = one.low in
      record {
        rest = a.0.0 ∷ more.rest;
        all = more.all ∙ added found a.0.0 more.rest;
        tall = omega arith;
        low = λ small. more.low (omega arith);
        derived = λ d deep. p.more_enumerators (one.derived d (omega arith)) is (more.derived d deep);
        grows = grows_on one.grows more.grows;
      }

  pub enumerators_sound : (n : ℕ) (found : List Enumerator) (high : ℕ) (s : State) (r : (List Enumerator × ℕ) × State) →
      step.enumerators text ts expression n found high s ≡ Some r → EnumeratorsRead found high s r
  unfolding step.enumerators
  enumerators_sound zero found high s r h = absurd cc
  enumerators_sound (suc n) found high s r h =
      let (a, is, h1) = bind_some (step.enumerator_at text ts expression s) _ r h in
      let one = enumerator_sound s a is in
      elim (chosen (mark_at ts a.1.at mark.Comma && sees ts (a.1.at + 1) k.Name) _ _ (Some r) h1) [
        | inl c ↦ (
            let (goes, then) = both (mark_at ts a.1.at mark.Comma) (sees ts (a.1.at + 1) k.Name) c.0 in
            enumerator_before found high s a r one (stands ts a.1.at _ goes)
            (enumerators_sound n (found ++ a.0.0 ∷ []) (max high a.0.1) (past a.1 1) r c.1))
        | inr c ↦ (
            let e : ((found ++ a.0.0 ∷ [], max high a.0.1), a.1) ≡ r = (let i = c.1 in cc) in
            let low = one.low in
            subst (EnumeratorsRead found high s) e
            (record {
              rest = a.0.0 ∷ [];
              all = refl;
              tall = omega arith;
              low = λ small. omega arith;
              derived = λ d deep. p.last_enumerator (one.derived d (omega arith));
              grows = one.grows;
            }))
      ]
