-- What is read as specifiers is derived.
use Rattle.std.proofs.Common.{◌≡◌, ℕ, zero, suc, ◌+◌, ◌≤◌, max, ◌&&◌, List, [], ◌∷◌, ◌++◌, length, Option, Some, None, refl, sym, subst, ◌∙◌, arith, append-nil, inl, inr, ◌⊎◌}
use Rattle.std.proofs.lemmas.Bool.{cases_Bool}
use Rattle.c_tokens.specs.declared.kind.Keyword.{Keyword}
use Rattle.c_tokens.specs.declared.kind.Keyword.TheVariants as word
use Rattle.c_tokens.specs.declared.kind.Mark.TheVariants as mark
use Rattle.c_tokens.specs.declared.kind.Kind.{Kind}
use Rattle.c_tokens.specs.declared.kind.Kind.TheVariants as k
use Rattle.c_tokens.specs.declared.token.Token.{Token}
use Rattle.c_grammar.specs.declared.words.Storage.TheVariants as st
use Rattle.c_grammar.specs.declared.words.Qualifier.TheVariants as q
use Rattle.c_grammar.specs.declared.words.BasicWord.TheVariants as b
use Rattle.c_grammar.specs.declared.words.Aggregate.{Aggregate}
use Rattle.c_grammar.specs.declared.words.Aggregate.TheVariants as ag
use Rattle.c_grammar.specs.declared.phrases.Expression.{Expression}
use Rattle.c_grammar.specs.declared.phrases.Specs.{Specs}
use Rattle.c_grammar.specs.declared.phrases.Specifier.{Specifier}
use Rattle.c_grammar.specs.declared.phrases.Specifier.TheVariants as made
use Rattle.c_grammar.specs.declared.phrases.Member.{Member}
use Rattle.c_grammar.specs.declared.phrases.Enumerator.{Enumerator}
use Rattle.token_texts.specs.Names.{name_at}
use Rattle.c_grammar.specs.Tokens.{kind_at, place_at, IsMark, IsWord, IsName, ClosesList}
use Rattle.c_grammar.specs.Words.{storage_word, qualifier_word, basic_word, aggregate_word, Role, modifies, spells, is_type, storage_role, HoldsNoType}
use Rattle.c_grammar.specs.Scope.{Scope, IsType}
use Rattle.c_grammar.specs.Phrases.{IsSpecs, AreSpecifiers, IsSpecifier, AreMembers, AreEnumerators}
use Rattle.c_grammar.specs.Phrases as p
use Rattle.grammar_descent.specs.Reading.{State, Reading, sees, mark_at, past, Readers}
use Rattle.grammar_descent.specs.Exact.{Grows, SoundExpression, SoundSpecs}
use Rattle.grammar_descent.specs.Types.{names_a_type}
use Rattle.grammar_descent.specs.TypeWords.{holds_no_type, holds_one_type}
use Rattle.grammar_descent.specs.SpecifierSteps as step
use Rattle.grammar_descent.specs.SpecifierSteps.{Lead, word_lead, lead_by, lead_or, tag_after, FoundSpecifier}
use Rattle.grammar_descent.proofs.Types.{type_sound}
use Rattle.grammar_descent.proofs.Seen.{stands, bind_some, chosen, seen, both}
use Rattle.grammar_descent.proofs.States.{added}
use Rattle.grammar_descent.proofs.Nested.{Sound}
use Rattle.grammar_descent.proofs.WordCounts.{one_type_sound, no_type_sound}
use Rattle.grammar_descent.proofs.DeclaratorSound.{stays, grows_on, under}
use Rattle.grammar_descent.proofs.MembersSound.{optional_name_sound, closing_sound, members_sound, enumerators_sound}

module _ (text : List ℕ) (ts : List Token) where
  -- ---- what begins a specifier

  -- what stands there where a specifier begins so
  abbrev Means : List Role → State → Lead → Type 0
  Means earlier s (step.storage_word which) = IsWord ts s.at (storage_word which)
  Means earlier s (step.qualifier_word which) = IsWord ts s.at (qualifier_word which)
  Means earlier s (step.basic_word which) = IsWord ts s.at (basic_word which)
  Means earlier s (step.aggregate_word which) = IsWord ts s.at (aggregate_word which)
  Means earlier s step.enum_word = IsWord ts s.at word.Enum
  Means earlier s step.typedef_name = IsName ts s.at × IsType s.scope (name_at text ts s.at) × HoldsNoType earlier

  word_means : (earlier : List Role) (s : State) (w : Keyword) (lead : Lead) → IsWord ts s.at w → word_lead w ≡ Some lead → Means earlier s lead
  word_means earlier s word.Typedef lead is h = let e : step.storage_word st.Typedef ≡ lead = cc in subst (Means earlier s) e is
  word_means earlier s word.Extern lead is h = let e : step.storage_word st.Extern ≡ lead = cc in subst (Means earlier s) e is
  word_means earlier s word.Static lead is h = let e : step.storage_word st.Static ≡ lead = cc in subst (Means earlier s) e is
  word_means earlier s word.Register lead is h = let e : step.storage_word st.Register ≡ lead = cc in subst (Means earlier s) e is
  word_means earlier s word.Auto lead is h = let e : step.storage_word st.Auto ≡ lead = cc in subst (Means earlier s) e is
  word_means earlier s word.Const lead is h = let e : step.qualifier_word q.Const ≡ lead = cc in subst (Means earlier s) e is
  word_means earlier s word.Restrict lead is h = let e : step.qualifier_word q.Restrict ≡ lead = cc in subst (Means earlier s) e is
  word_means earlier s word.Inline lead is h = let e : step.qualifier_word q.Inline ≡ lead = cc in subst (Means earlier s) e is
  word_means earlier s word.Void lead is h = let e : step.basic_word b.Void ≡ lead = cc in subst (Means earlier s) e is
  word_means earlier s word.Char lead is h = let e : step.basic_word b.Char ≡ lead = cc in subst (Means earlier s) e is
  word_means earlier s word.Short lead is h = let e : step.basic_word b.Short ≡ lead = cc in subst (Means earlier s) e is
  word_means earlier s word.Int lead is h = let e : step.basic_word b.Int ≡ lead = cc in subst (Means earlier s) e is
  word_means earlier s word.Long lead is h = let e : step.basic_word b.Long ≡ lead = cc in subst (Means earlier s) e is
  word_means earlier s word.Signed lead is h = let e : step.basic_word b.Signed ≡ lead = cc in subst (Means earlier s) e is
  word_means earlier s word.Unsigned lead is h = let e : step.basic_word b.Unsigned ≡ lead = cc in subst (Means earlier s) e is
  word_means earlier s word.Struct lead is h = let e : step.aggregate_word ag.Struct ≡ lead = cc in subst (Means earlier s) e is
  word_means earlier s word.Union lead is h = let e : step.aggregate_word ag.Union ≡ lead = cc in subst (Means earlier s) e is
  word_means earlier s word.Enum lead is h = let e : step.enum_word ≡ lead = cc in subst (Means earlier s) e is
  word_means earlier s _ lead is h = absurd cc

  kind_means : (earlier : List Role) (s : State) (kind : Option Kind) (lead : Lead) → kind_at ts s.at ≡ kind →
      lead_by kind (names_a_type s.scope (name_at text ts s.at) && holds_no_type earlier) ≡ Some lead → Means earlier s lead
  kind_means earlier s (Some (k.Word w)) lead is h = word_means earlier s w lead is h
  kind_means earlier s (Some k.Name) lead is h =
      elim (chosen (names_a_type s.scope (name_at text ts s.at) && holds_no_type earlier) (Some step.typedef_name) None (Some lead) h) [
        | inl c ↦ (
            let (known, none) = both (names_a_type s.scope (name_at text ts s.at)) (holds_no_type earlier) c.0 in
            let e : step.typedef_name ≡ lead = (let i = c.1 in cc) in
            subst (Means earlier s) e (is, type_sound s.scope (name_at text ts s.at) known, no_type_sound earlier none))
        | inr c ↦ absurd (let i = c.1 in cc)
      ]
  kind_means earlier s (Some (k.Number n t)) lead is h = absurd cc
  kind_means earlier s (Some (k.Char c)) lead is h = absurd cc
  kind_means earlier s (Some k.Str) lead is h = absurd cc
  kind_means earlier s (Some (k.Mark m)) lead is h = absurd cc
  kind_means earlier s None lead is h = absurd cc

  lead_means : (earlier : List Role) (s : State) (lead : Lead) → step.lead_at text ts earlier s ≡ Some lead → Means earlier s lead
  unfolding step.lead_at
  lead_means earlier s lead h = kind_means earlier s (kind_at ts s.at) lead refl h

  tag_sound : (node : ℕ → Specifier) (s : State) (r : FoundSpecifier × State) → tag_after node (step.optional_name text ts (s.at + 1)).0 s ≡ Some r →
      IsName ts (s.at + 1) × (((node (s.at + 1), is_type, 0), past s 2) ≡ r)
  unfolding step.optional_name
  tag_sound node s r h = elim (cases_Bool (sees ts (s.at + 1) k.Name)) [
    | inl c ↦ (let i = rw c at h in (stands ts (s.at + 1) k.Name c, cc))
    | inr c ↦ absurd (let i = rw c at h in cc)
  ]

module _ (text : List ℕ) (ts : List Token) (depth : ℕ) (expression : ℕ → Reading (Expression × ℕ)) (expressions : SoundExpression text ts depth expression)
    (inner : Readers) (sound : Sound text ts depth inner) where
  abbrev Derives : List Role → State → FoundSpecifier × State → ℕ → Type 0
  Derives earlier s r d = IsSpecifier text ts d s.scope r.1.scope earlier r.0.1 s.at r.1.at r.0.0

  record SpecifierRead (earlier : List Role) (s : State) (r : FoundSpecifier × State) : Type 0 where
    low : r.0.2 ≤ depth
    derived : (d : ℕ) → r.0.2 ≤ d → Derives earlier s r d
    grows : Grows s.scope r.1.scope

  members_after_sound : (which : Aggregate) (tag : Option ℕ) (earlier : List Role) (s t : State) (r : FoundSpecifier × State) → t.scope ≡ s.scope →
      ((d to : ℕ) (after : Scope) (all : List Member) → AreMembers text ts d s.scope after t.at to all → IsMark ts to mark.RightBrace →
      IsSpecifier text ts (suc d) s.scope after earlier is_type s.at (to + 1) (made.Members (place_at ts s.at) which tag all)) →
      step.members_after text ts inner which tag s.at t ≡ Some r → SpecifierRead earlier s r
  unfolding step.members_after
  members_after_sound which tag earlier s t r same made_of h =
      let (a, found, h1) = bind_some (step.members text ts inner (length ts) [] 0 t) _ r h in
      let (closes, h2) = seen ts a.1.at (k.Mark mark.RightBrace) _ r h1 in
      let g = members_sound text ts depth inner sound (length ts) [] 0 t a found in
      let e : ((made.Members (place_at ts s.at) which tag a.0.0, is_type, a.0.1 + 1), past a.1 1) ≡ r = cc in
      let low = g.low g.some in
      subst (SpecifierRead earlier s) e
      (record {
        low = omega arith;
        derived =
            λ d deep. under (Derives earlier s ((made.Members (place_at ts s.at) which tag a.0.0, is_type, a.0.1 + 1), past a.1 1)) a.0.1 d deep
            (λ d deep. made_of d a.1.at a.1.scope a.0.0
            (subst (λ l. AreMembers text ts d s.scope a.1.scope t.at a.1.at l) (sym g.all)
            (subst (λ l. AreMembers text ts d l a.1.scope t.at a.1.at g.rest) same (g.derived d deep)))
            closes);
        grows = subst (λ l. Grows l a.1.scope) same g.grows;
      })

  aggregate_sound : (which : Aggregate) (earlier : List Role) (s : State) (r : FoundSpecifier × State) → IsWord ts s.at (aggregate_word which) →
      step.aggregate_here text ts inner which s ≡ Some r → SpecifierRead earlier s r
  unfolding step.aggregate_here
  aggregate_sound which earlier s r is h =
      let tag = step.optional_name text ts (s.at + 1) in
      elim (chosen (mark_at ts tag.1 mark.LeftBrace) _ _ (Some r) h) [
        | inl c ↦ members_after_sound which tag.0 earlier s (record { at = tag.1 + 1; scope = s.scope }) r refl
            (λ d to after all list closes. p.members which is (optional_name_sound text ts (s.at + 1)) (stands ts tag.1 _ c.0) list closes) c.1
        | inr c ↦ (
            let (named, e) = tag_sound text ts (made.Tag (place_at ts s.at) which) s r c.1 in
            subst (SpecifierRead earlier s) e (record { low = omega arith; derived = λ d deep. p.tag which is named; grows = stays s.scope }))
      ]

  enumerators_after_sound : (tag : Option ℕ) (earlier : List Role) (s t : State) (r : FoundSpecifier × State) → t.scope ≡ s.scope →
      ((d middle to : ℕ) (after : Scope) (all : List Enumerator) → AreEnumerators text ts d s.scope after t.at middle all → ClosesList ts middle to →
      IsSpecifier text ts d s.scope after earlier is_type s.at to (made.Enumerators (place_at ts s.at) tag all)) →
      step.enumerators_after text ts expression tag s.at t ≡ Some r → SpecifierRead earlier s r
  unfolding step.enumerators_after
  enumerators_after_sound tag earlier s t r same made_of h =
      let (a, found, h1) = bind_some (step.enumerators text ts expression (length ts) [] 0 t) _ r h in
      let (to, ends, h2) = bind_some (step.closing_at text ts a.1.at) _ r h1 in
      let closes = closing_sound text ts a.1.at to ends in
      let g = enumerators_sound text ts depth expression expressions (length ts) [] 0 t a found in
      let e : ((made.Enumerators (place_at ts s.at) tag a.0.0, is_type, a.0.1), record { at = to; scope = a.1.scope }) ≡ r = cc in
      subst (SpecifierRead earlier s) e
      (record {
        low = g.low (omega arith);
        derived =
            λ d deep. made_of d a.1.at to a.1.scope a.0.0
            (subst (λ l. AreEnumerators text ts d s.scope a.1.scope t.at a.1.at l) (sym g.all)
            (subst (λ l. AreEnumerators text ts d l a.1.scope t.at a.1.at g.rest) same (g.derived d deep)))
            closes;
        grows = subst (λ l. Grows l a.1.scope) same g.grows;
      })

  enumeration_sound : (earlier : List Role) (s : State) (r : FoundSpecifier × State) → IsWord ts s.at word.Enum →
      step.enumeration_here text ts expression s ≡ Some r → SpecifierRead earlier s r
  unfolding step.enumeration_here
  enumeration_sound earlier s r is h =
      let tag = step.optional_name text ts (s.at + 1) in
      elim (chosen (mark_at ts tag.1 mark.LeftBrace) _ _ (Some r) h) [
        | inl c ↦ enumerators_after_sound tag.0 earlier s (record { at = tag.1 + 1; scope = s.scope }) r refl
            (λ d middle to after all list closes. p.enumerators is (optional_name_sound text ts (s.at + 1)) (stands ts tag.1 _ c.0) list closes) c.1
        | inr c ↦ (
            let (named, e) = tag_sound text ts (made.EnumTag (place_at ts s.at)) s r c.1 in
            subst (SpecifierRead earlier s) e (record { low = omega arith; derived = λ d deep. p.enum_tag is named; grows = stays s.scope }))
      ]

  specifier_sound : (lead : Lead) (earlier : List Role) (s : State) (r : FoundSpecifier × State) → Means text ts earlier s lead →
      step.one_specifier text ts expression inner lead s ≡ Some r → SpecifierRead earlier s r
  specifier_sound (step.storage_word which) earlier s r is h =
      let e : ((made.Storage (place_at ts s.at) which, storage_role which, 0), past s 1) ≡ r = cc in
      subst (SpecifierRead earlier s) e (record { low = omega arith; derived = λ d deep. p.storage which is; grows = stays s.scope })
  specifier_sound (step.qualifier_word which) earlier s r is h =
      let e : ((made.Qualifier (place_at ts s.at) which, modifies, 0), past s 1) ≡ r = cc in
      subst (SpecifierRead earlier s) e (record { low = omega arith; derived = λ d deep. p.qualifier which is; grows = stays s.scope })
  specifier_sound (step.basic_word which) earlier s r is h =
      let e : ((made.Basic (place_at ts s.at) which, spells which, 0), past s 1) ≡ r = cc in
      subst (SpecifierRead earlier s) e (record { low = omega arith; derived = λ d deep. p.basic which is; grows = stays s.scope })
  specifier_sound (step.aggregate_word which) earlier s r is h = aggregate_sound which earlier s r is h
  specifier_sound step.enum_word earlier s r is h = enumeration_sound earlier s r is h
  specifier_sound step.typedef_name earlier s r is h =
      let e : ((made.TypedefName (place_at ts s.at), is_type, 0), past s 1) ≡ r = cc in
      subst (SpecifierRead earlier s) e (record { low = omega arith; derived = λ d deep. p.named_type is.0 is.1 is.2; grows = stays s.scope })

  -- ---- the whole

  -- What a loop reads is what it was given, and then specifiers.
  record SpecifiersRead (earlier : List Role) (found : List Specifier) (high : ℕ) (s : State) (r : (List Specifier × List Role × ℕ) × State) : Type 0 where
    rest : List Specifier
    all : r.0.0 ≡ found ++ rest
    tall : high ≤ r.0.2
    low : high ≤ depth → r.0.2 ≤ depth
    derived : (d : ℕ) → r.0.2 ≤ d → AreSpecifiers text ts d s.scope r.1.scope earlier r.0.1 s.at r.1.at rest
    grows : Grows s.scope r.1.scope

  no_more : (earlier : List Role) (found : List Specifier) (high : ℕ) (s : State) (r : (List Specifier × List Role × ℕ) × State) →
      ((found, earlier, high), s) ≡ r → SpecifiersRead earlier found high s r
  no_more earlier found high s r e =
      subst (SpecifiersRead earlier found high s) e
      (record {
        rest = [];
        all = sym (append-nil found);
        tall = omega arith;
        low = λ small. small;
        derived = λ d deep. p.no_specifiers;
        grows = stays s.scope;
      })

  specifier_before : (earlier : List Role) (found : List Specifier) (high : ℕ) (s : State) (a : FoundSpecifier × State) (r : (List Specifier × List Role × ℕ) × State) →
      SpecifierRead earlier s a → SpecifiersRead (earlier ++ a.0.1 ∷ []) (found ++ a.0.0 ∷ []) (max high a.0.2) a.1 r → SpecifiersRead earlier found high s r
  specifier_before earlier found high s a r one more =
      let tall = more.tall in
      let low = one.low in
      record {
        rest = a.0.0 ∷ more.rest;
        all = more.all ∙ added found a.0.0 more.rest;
        tall = omega arith;
        low = λ small. more.low (omega arith);
        derived = λ d deep. p.more_specifiers (one.derived d (omega arith)) (more.derived d deep);
        grows = grows_on one.grows more.grows;
      }

  led_parts : {A : Type 0} (lead : Option Lead) (next : Lead → A) (stop y : A) → lead_or lead next stop ≡ y →
      ((l : Lead) × (lead ≡ Some l) × (next l ≡ y)) ⊎ (stop ≡ y)
  led_parts (Some l) next stop y h = inl (l, refl, h)
  led_parts None next stop y h = inr h

  specifiers_sound : (n : ℕ) (earlier : List Role) (found : List Specifier) (high : ℕ) (s : State) (r : (List Specifier × List Role × ℕ) × State) →
      step.specifiers text ts expression inner n earlier found high s ≡ Some r → SpecifiersRead earlier found high s r
  unfolding step.specifiers
  specifiers_sound zero earlier found high s r h = no_more earlier found high s r cc
  specifiers_sound (suc n) earlier found high s r h = elim (led_parts (step.lead_at text ts earlier s) _ _ (Some r) h) [
    | inl c ↦ (
        let (a, is, h1) = bind_some (step.one_specifier text ts expression inner c.0 s) _ r c.2 in
        specifier_before earlier found high s a r (specifier_sound c.0 earlier s a (lead_means text ts earlier s c.0 c.1) is)
        (specifiers_sound n (earlier ++ a.0.1 ∷ []) (found ++ a.0.0 ∷ []) (max high a.0.2) a.1 r h1))
    | inr c ↦ no_more earlier found high s r cc
  ]

  record SpecsRead (s : State) (r : (Specs × List Role × ℕ) × State) : Type 0 where
    low : r.0.2 ≤ depth
    derived : (d : ℕ) → r.0.2 ≤ d → IsSpecs text ts d s.scope r.1.scope r.0.1 s.at r.1.at r.0.0
    grows : Grows s.scope r.1.scope

  specs_read : (s : State) (r : (Specs × List Role × ℕ) × State) → step.specs text ts expression inner s ≡ Some r → SpecsRead s r
  unfolding step.specs
  specs_read s r h =
      let (a, found, h1) = bind_some (step.specifiers text ts expression inner (length ts) [] [] 0 s) _ r h in
      let g = specifiers_sound (length ts) [] [] 0 s a found in
      elim (chosen (holds_one_type a.0.1) _ None (Some r) h1) [
        | inl c ↦ (
            let e : ((record { place = place_at ts s.at; words = a.0.0 }, a.0.1, a.0.2), a.1) ≡ r = (let i = c.1 in cc) in
            subst (SpecsRead s) e
            (record {
              low = g.low (omega arith);
              derived =
                  λ d deep. p.specs (subst (λ l. AreSpecifiers text ts d s.scope a.1.scope [] a.0.1 s.at a.1.at l) (sym g.all) (g.derived d deep))
                  (one_type_sound a.0.1 c.0);
              grows = g.grows;
            }))
        | inr c ↦ absurd (let i = c.1 in cc)
      ]

  pub sound_specs : SoundSpecs text ts depth (step.specs text ts expression inner)
  sound_specs = record {
    low = λ s t found roles height h. (specs_read s ((found, roles, height), t) h).low;
    derived = λ d s t found roles height h deep. (specs_read s ((found, roles, height), t) h).derived d deep;
    grows = λ s t found roles height h. (specs_read s ((found, roles, height), t) h).grows;
  }
