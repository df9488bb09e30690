-- What is read as a declarator is derived.
use Rattle.std.proofs.Common.{◌≡◌, ◌≢◌, ℕ, zero, suc, ◌+◌, ◌<◌, ◌≤◌, max, true, false, ◌&&◌, List, [], ◌∷◌, ◌++◌, length, Option, Some, None, refl, sym, ap, subst, ◌∙◌, arith, append_assoc, append-nil, inl, inr, nat_lt, eq-or-lt_of_le}
use Rattle.std.proofs.lemmas.Bool.{ltb-true, cases_Bool}
use Rattle.c_tokens.specs.declared.kind.Keyword.TheVariants as word
use Rattle.c_tokens.specs.declared.kind.Mark.TheVariants as mark
use Rattle.c_tokens.specs.declared.kind.Kind.TheVariants as k
use Rattle.c_tokens.specs.declared.token.Token.{Token}
use Rattle.c_grammar.specs.declared.words.NameKind.TheVariants as declares
use Rattle.c_grammar.specs.declared.words.Naming.{Naming}
use Rattle.c_grammar.specs.declared.words.Naming.TheVariants as naming
use Rattle.c_grammar.specs.declared.words.Level.TheVariants as of
use Rattle.c_grammar.specs.declared.words.Qualifier.{Qualifier}
use Rattle.c_grammar.specs.declared.words.Qualifier.TheVariants as q
use Rattle.c_grammar.specs.declared.phrases.Specs.{Specs}
use Rattle.c_grammar.specs.declared.phrases.Declarator.{Declarator}
use Rattle.c_grammar.specs.declared.phrases.Declarator.TheVariants as made
use Rattle.c_grammar.specs.declared.phrases.Parameter.{Parameter}
use Rattle.c_tokens.specs.Names.{Name}
use Rattle.token_texts.specs.Names.{name_at}
use Rattle.c_grammar.specs.Tokens.{kind_at, place_at, IsMark, IsName}
use Rattle.c_grammar.specs.Words.{Role}
use Rattle.c_grammar.specs.Scope.{Scope, first_of}
use Rattle.c_grammar.specs.Operators.{tightness}
use Rattle.c_grammar.specs.Phrases.{DeclaratorKind, whole, direct, MayEnclose, with_a_name, in_a_parameter, without_a_name, AreQualifiers, IsSpecs, IsDeclarator, AreParameters, AreSomeParameters, IsParameter}
use Rattle.c_grammar.specs.Phrases as p
use Rattle.grammar_descent.specs.Reading.{State, sees, mark_at, word_at, past, FoundDeclarator, Readers}
use Rattle.grammar_descent.specs.Exact.{Grows, SoundDeclarator}
use Rattle.grammar_descent.specs.Types.{begins_specs}
use Rattle.grammar_descent.specs.DeclaratorSteps as step
use Rattle.grammar_descent.specs.DeclaratorSteps.{declarator_within, no_name, may_leave_out, opens_parameters, new_since, with_parameter}
use Rattle.grammar_descent.proofs.Seen.{here, stands, stands_not, bind_some, chosen, seen, both}
use Rattle.grammar_descent.proofs.States.{neither, not_both, added, as_found}
use Rattle.grammar_descent.proofs.Moves.{declarator_moves}
use Rattle.grammar_descent.proofs.FirstTokens.{BeginsDeclarator, nothing, star, opening, bracket, a_name, a_parameter, declarator_begins, type_begins}
use Rattle.grammar_descent.proofs.DeclaratorComplete.{own_is}
use Rattle.grammar_descent.proofs.Nested.{Sound}

-- ---- scopes grow

pub stays : (scope : Scope) → Grows scope scope
stays scope = record { new = []; is = refl }

pub grows_on : {one two three : Scope} → Grows one two → Grows two three → Grows one three
grows_on {one} a b = record { new = b.new ++ a.new; is = b.is ∙ ap (λ l. b.new ++ l) a.is ∙ sym (append_assoc b.new a.new one) }

-- what holds of one depth more than any from a height on holds from one more than the height on
pub under : (P : ℕ → Type 0) (high d : ℕ) → high + 1 ≤ d → ((d : ℕ) → high ≤ d → P (suc d)) → P d
under P high zero deep f = absurd (omega arith)
under P high (suc d) deep f = f d (omega arith)

pub joined_parts : (depth : ℕ) (node : Declarator) (name : Option Name) (own : Option Scope) (high : ℕ) (s : State) (r : FoundDeclarator × State) →
    declarator_within depth node name own high s ≡ Some r → (high < depth) × ((as_found node name own (high + 1), s) ≡ r)
joined_parts depth node name own high s r h = elim (chosen (nat_lt high depth) _ None (Some r) h) [
  | inl c ↦ (ltb-true _ _ c.0, (let e = c.1 in cc))
  | inr c ↦ absurd (let e = c.1 in cc)
]

module _ (ts : List Token) where
  record QualifiersRead (s : State) (found : List Qualifier) (r : List Qualifier × State) : Type 0 where
    rest : List Qualifier
    all : r.0 ≡ found ++ rest
    each : AreQualifiers ts s.at r.1.at rest
    same : r.1.scope ≡ s.scope

  qualifiers_sound : (n : ℕ) (found : List Qualifier) (s : State) → QualifiersRead s found (step.qualifiers ts n found s)
  unfolding step.qualifiers
  qualifiers_sound zero found s = record { rest = []; all = sym (append-nil found); each = p.none; same = refl }
  qualifiers_sound (suc n) found s = elim (cases_Bool (word_at ts s.at word.Const)) [
    | inl c ↦ rw c (let r = qualifiers_sound n (found ++ q.Const ∷ []) (past s 1) in
        record { rest = q.Const ∷ r.rest; all = r.all ∙ added found q.Const r.rest; each = p.const (stands ts s.at _ c) r.each; same = r.same })
    | inr c ↦ elim (cases_Bool (word_at ts s.at word.Restrict)) [
      | inl e ↦ rw (c, e) (let r = qualifiers_sound n (found ++ q.Restrict ∷ []) (past s 1) in
          record { rest = q.Restrict ∷ r.rest; all = r.all ∙ added found q.Restrict r.rest; each = p.restrict (stands ts s.at _ e) r.each; same = r.same })
      | inr e ↦ rw (c, e) record { rest = []; all = sym (append-nil found); each = p.none; same = refl }
    ]
  ]

module _ (text : List ℕ) (ts : List Token) (depth : ℕ) (inner : Readers) (sound : Sound text ts depth inner) where
  -- ---- parameters

  record ParameterRead (s : State) (r : (Parameter × ℕ) × State) : Type 0 where
    derived : (d : ℕ) → r.0.1 ≤ d → IsParameter text ts d s.scope r.1.scope s.at r.1.at r.0.0
    grows : Grows s.scope r.1.scope

  is_parameter : (d from at : ℕ) (scope between : Scope) (roles : List Role) (specs : Specs) (t : State) (node : Declarator) (name : Option Name) (own : Option Scope) →
      IsSpecs text ts d scope between roles from at specs → IsDeclarator text ts naming.NamedOrNot whole d between t.scope at t.at name own node →
      IsParameter text ts d scope (with_parameter name t).scope from (with_parameter name t).at (record { place = place_at ts from; specs = specs; declarator = node })
  is_parameter d from at scope between roles specs t node (Some name) own a b = p.with_name a b
  is_parameter d from at scope between roles specs t node None own a b = p.without_name a b

  named_grows : (scope : Scope) (name : Option Name) (t : State) → Grows scope t.scope → Grows scope (with_parameter name t).scope
  named_grows scope (Some name) t g = record { new = (name, declares.Ordinary) ∷ g.new; is = ap (λ l. (name, declares.Ordinary) ∷ l) g.is }
  named_grows scope None t g = g

  parameter_sound : (s : State) (r : (Parameter × ℕ) × State) → step.parameter_at text ts inner s ≡ Some r → ParameterRead s r
  unfolding step.parameter_at
  parameter_sound s r h =
      let (a, found, h1) = bind_some (inner.specs s) _ r h in
      let (b, found_too, h2) = bind_some (inner.declarator naming.NamedOrNot a.1) _ r h1 in
      let f = sound.specs s a.1 a.0.0 a.0.1 a.0.2 found in
      let g = sound.declarator naming.NamedOrNot a.1 b.1 b.0 found_too in
      let e : ((record { place = place_at ts s.at; specs = a.0.0; declarator = b.0.node }, max a.0.2 b.0.height), with_parameter b.0.name b.1) ≡ r = cc in
      subst (ParameterRead s) e
      (record {
        derived =
            λ d deep. is_parameter d s.at a.1.at s.scope a.1.scope a.0.1 a.0.0 b.1 b.0.node b.0.name b.0.own (f.derived d (omega arith)) (g.derived d (omega arith));
        grows = named_grows s.scope b.0.name b.1 (grows_on f.grows g.grows);
      })

  -- What a loop reads is what it was given, and then parameters.
  record ParametersRead (found : List Parameter) (high : ℕ) (s : State) (r : (List Parameter × ℕ) × State) : Type 0 where
    rest : List Parameter
    all : r.0.0 ≡ found ++ rest
    tall : high ≤ r.0.1
    derived : (d : ℕ) → r.0.1 ≤ d → AreSomeParameters text ts d s.scope r.1.scope s.at r.1.at rest
    grows : Grows s.scope r.1.scope

  parameter_before : (found : List Parameter) (high : ℕ) (s : State) (a : (Parameter × ℕ) × State) (r : (List Parameter × ℕ) × State) → ParameterRead s a →
      IsMark ts a.1.at mark.Comma → ParametersRead (found ++ a.0.0 ∷ []) (max high a.0.1) (past a.1 1) r → ParametersRead found high s r
  parameter_before found high s a r one is more =
      let tall = more.tall in
      record {
        rest = a.0.0 ∷ more.rest;
        all = more.all ∙ added found a.0.0 more.rest;
        tall = omega arith;
        derived = λ d deep. p.more_parameters (one.derived d (omega arith)) is (more.derived d deep);
        grows = grows_on one.grows more.grows;
      }

  some_parameters_sound : (n : ℕ) (found : List Parameter) (high : ℕ) (s : State) (r : (List Parameter × ℕ) × State) →
      step.some_parameters text ts inner n found high s ≡ Some r → ParametersRead found high s r
  unfolding step.some_parameters
  some_parameters_sound zero found high s r h = absurd cc
  some_parameters_sound (suc n) found high s r h =
      let (a, is, h1) = bind_some (step.parameter_at text ts inner s) _ r h in
      let one = parameter_sound s a is in
      elim (chosen (mark_at ts a.1.at mark.Comma) _ _ (Some r) h1) [
        | inl c ↦ parameter_before found high s a r one (stands ts a.1.at _ c.0) (some_parameters_sound n (found ++ a.0.0 ∷ []) (max high a.0.1) (past a.1 1) r c.1)
        | inr c ↦ (
            let e : ((found ++ a.0.0 ∷ [], max high a.0.1), a.1) ≡ r = (let i = c.1 in cc) in
            subst (ParametersRead found high s) e
            (record {
              rest = a.0.0 ∷ [];
              all = refl;
              tall = omega arith;
              derived = λ d deep. p.last_parameter (one.derived d (omega arith));
              grows = one.grows;
            }))
      ]

  -- the whole list, and what it declares
  record ListRead (s : State) (r : (List Parameter × ℕ) × State) : Type 0 where
    own : Scope
    declared : r.1.scope ≡ own ++ s.scope
    derived : (d : ℕ) → r.0.1 ≤ d → AreParameters text ts d s.scope own s.at r.1.at r.0.0

  several_sound : (s : State) (r : (List Parameter × ℕ) × State) → (word_at ts s.at word.Void && mark_at ts (s.at + 1) mark.RightParen) ≡ false →
      ParametersRead [] 0 s r → ListRead s r
  several_sound s r other f = record {
    own = f.grows.new;
    declared = f.grows.is;
    derived =
        λ d deep. p.parameters
        (λ is closes. let h = not_both (word_at ts s.at word.Void) _ other (here ts s.at _ is) in stands_not ts (s.at + 1) (k.Mark mark.RightParen) h closes)
        (subst (λ l. AreSomeParameters text ts d s.scope l s.at r.1.at r.0.0) f.grows.is
        (subst (λ l. AreSomeParameters text ts d s.scope r.1.scope s.at r.1.at l) (sym f.all) (f.derived d deep)));
  }

  parameters_sound : (s : State) (r : (List Parameter × ℕ) × State) → step.parameters_at text ts inner s ≡ Some r → ListRead s r
  unfolding step.parameters_at
  parameters_sound s r h = elim (chosen (mark_at ts s.at mark.RightParen) _ _ (Some r) h) [
    | inl c ↦ (
        let e : (([], 0), s) ≡ r = (let i = c.1 in cc) in
        subst (ListRead s) e (record { own = []; declared = refl; derived = λ d deep. p.no_parameters }))
    | inr c ↦ elim (chosen (word_at ts s.at word.Void && mark_at ts (s.at + 1) mark.RightParen) _ _ (Some r) c.1) [
      | inl c ↦ (
          let (is, closes) = both (word_at ts s.at word.Void) (mark_at ts (s.at + 1) mark.RightParen) c.0 in
          let e : (([], 0), past s 1) ≡ r = (let i = c.1 in cc) in
          subst (ListRead s) e (record { own = []; declared = refl; derived = λ d deep. p.only_void (stands ts s.at _ is) (stands ts (s.at + 1) _ closes) }))
      | inr c ↦ several_sound s r c.0 (some_parameters_sound (length ts) [] 0 s r c.1)
    ]
  ]

  -- ---- declarators

  abbrev Derives : Naming → DeclaratorKind → State → FoundDeclarator × State → ℕ → Type 0
  Derives how kind s r d = IsDeclarator text ts how kind d s.scope r.1.scope s.at r.1.at r.0.name r.0.own r.0.node

  record Read (how : Naming) (kind : DeclaratorKind) (s : State) (r : FoundDeclarator × State) : Type 0 where
    low : r.0.height ≤ depth
    derived : (d : ℕ) → r.0.height ≤ d → Derives how kind s r d
    grows : Grows s.scope r.1.scope

  array_sound : (how : Naming) (s t : State) (f : FoundDeclarator) (r : FoundDeclarator × State) → Read how direct s (f, t) → IsMark ts t.at mark.LeftBracket →
      step.array_after text ts inner depth s.at f t ≡ Some r → Read how direct s r
  unfolding step.array_after
  array_sound how s t f r inside opens h = elim (chosen (mark_at ts (t.at + 1) mark.RightBracket) _ _ (Some r) h) [
    | inl c ↦ (
        let (low, e) = joined_parts depth (made.Array (place_at ts s.at) f.node None) f.name f.own f.height (past t 2) r c.1 in
        subst (Read how direct s) e
        (record {
          low = omega arith;
          derived =
              λ d deep. under (Derives how direct s (as_found (made.Array (place_at ts s.at) f.node None) f.name f.own (f.height + 1), past t 2)) f.height d deep
              (λ d deep. p.open_array (inside.derived d deep) opens (stands ts (t.at + 1) _ c.0));
          grows = inside.grows;
        }))
    | inr c ↦ (
        let (b, found, h1) = bind_some (inner.expression (tightness of.Conditional) (past t 1)) _ r c.1 in
        let (closes, h2) = seen ts b.1.at (k.Mark mark.RightBracket) _ r h1 in
        let (low, e) = joined_parts depth (made.Array (place_at ts s.at) f.node (Some b.0.0)) f.name f.own (max f.height b.0.1) (past b.1 1) r h2 in
        let g = sound.expression (tightness of.Conditional) (past t 1) b.1 b.0.0 b.0.1 found in
        subst (Read how direct s) e
        (record {
          low = omega arith;
          derived =
              λ d deep. under (Derives how direct s (as_found (made.Array (place_at ts s.at) f.node (Some b.0.0)) f.name f.own (max f.height b.0.1 + 1), past b.1 1)) (max f.height b.0.1) d deep
              (λ d deep. p.array (inside.derived d (omega arith)) opens (g.derived d (omega arith)) closes);
          grows = grows_on inside.grows g.grows;
        }))
  ]

  function_sound : (how : Naming) (s t : State) (f : FoundDeclarator) (r : FoundDeclarator × State) → Read how direct s (f, t) → IsMark ts t.at mark.LeftParen →
      step.function_after text ts inner depth s.at f t ≡ Some r → Read how direct s r
  unfolding step.function_after
  function_sound how s t f r inside opens h =
      let (b, found, h1) = bind_some (step.parameters_at text ts inner (past t 1)) _ r h in
      let (closes, h2) = seen ts b.1.at (k.Mark mark.RightParen) _ r h1 in
      let next : State = record { at = b.1.at + 1; scope = t.scope } in
      let own = first_of f.own (new_since t.scope b.1.scope) in
      let (low, e) = joined_parts depth (made.Function (place_at ts s.at) f.node b.0.0) f.name own (max f.height b.0.1) next r h2 in
      let g = parameters_sound (past t 1) b found in
      let declared : g.own ≡ new_since t.scope b.1.scope = sym (ap (new_since t.scope) g.declared ∙ own_is g.own t.scope) in
      subst (Read how direct s) e
      (record {
        low = omega arith;
        derived =
            λ d deep. under (Derives how direct s (as_found (made.Function (place_at ts s.at) f.node b.0.0) f.name own (max f.height b.0.1 + 1), next)) (max f.height b.0.1) d deep
            (λ d deep. p.function (inside.derived d (omega arith)) opens
            (subst (λ l. AreParameters text ts d t.scope l (t.at + 1) b.1.at b.0.0) declared (g.derived d (omega arith))) closes);
        grows = inside.grows;
      })

  parts_sound : (how : Naming) (n : ℕ) (s t : State) (f : FoundDeclarator) (r : FoundDeclarator × State) → Read how direct s (f, t) →
      step.parts_after text ts inner depth s.at n f t ≡ Some r → Read how direct s r
  unfolding step.parts_after
  parts_sound how zero s t f r inside h = let e : (f, t) ≡ r = cc in subst (Read how direct s) e inside
  parts_sound how (suc n) s t f r inside h = elim (chosen (mark_at ts t.at mark.LeftBracket) _ _ (Some r) h) [
    | inl c ↦ (
        let (g, is, h1) = bind_some (step.array_after text ts inner depth s.at f t) _ r c.1 in
        parts_sound how n s g.1 g.0 r (array_sound how s t f g inside (stands ts t.at _ c.0) is) h1)
    | inr c ↦ elim (chosen (mark_at ts t.at mark.LeftParen) _ _ (Some r) c.1) [
      | inl c ↦ (
          let (g, is, h1) = bind_some (step.function_after text ts inner depth s.at f t) _ r c.1 in
          parts_sound how n s g.1 g.0 r (function_sound how s t f g inside (stands ts t.at _ c.0) is) h1)
      | inr c ↦ (let e : (f, t) ≡ r = (let i = c.1 in cc) in subst (Read how direct s) e inside)
    ]
  ]

  -- ---- how it begins

  unnamed_sound : (how : Naming) (s : State) (r : FoundDeclarator × State) → no_name how s ≡ Some r → Read how direct s r
  unnamed_sound naming.Named s r h = absurd cc
  unnamed_sound naming.NamedOrNot s r h =
      let e : (as_found made.Unnamed None None 0, s) ≡ r = cc in
      subst (Read naming.NamedOrNot direct s) e (record { low = omega arith; derived = λ d deep. p.no_parameter_name; grows = stays s.scope })
  unnamed_sound naming.NotNamed s r h =
      let e : (as_found made.Unnamed None None 0, s) ≡ r = cc in
      subst (Read naming.NotNamed direct s) e (record { low = omega arith; derived = λ d deep. p.no_name; grows = stays s.scope })

  name_read : (how : Naming) (s : State) (r : FoundDeclarator × State) → step.name_here text ts depth s ≡ Some r →
      ((d : ℕ) → Derives how direct s (as_found (made.Name (place_at ts s.at)) (Some (name_at text ts s.at)) None 1, past s 1) (suc d)) → Read how direct s r
  name_read how s r h derived =
      let (low, e) = joined_parts depth (made.Name (place_at ts s.at)) (Some (name_at text ts s.at)) None 0 (past s 1) r h in
      subst (Read how direct s) e
      (record {
        low = omega arith;
        derived =
            λ d deep. under (Derives how direct s (as_found (made.Name (place_at ts s.at)) (Some (name_at text ts s.at)) None 1, past s 1)) 0 d deep
            (λ d deep. derived d);
        grows = stays s.scope;
      })

  name_sound : (how : Naming) (s : State) (r : FoundDeclarator × State) → IsName ts s.at → step.name_or_nothing text ts depth how s ≡ Some r → Read how direct s r
  name_sound naming.Named s r is h = name_read naming.Named s r h (λ d. p.declared_name is)
  name_sound naming.NamedOrNot s r is h = name_read naming.NamedOrNot s r h (λ d. p.parameter_name is)
  name_sound naming.NotNamed s r is h = unnamed_sound naming.NotNamed s r h

  -- something stands in the parentheses
  later : (from to : ℕ) → kind_at ts from ≢ Some (k.Mark mark.RightParen) → from ≤ to → IsMark ts to mark.RightParen → from < to
  later from to other low closes = elim (eq-or-lt_of_le low) [
    | inl e ↦ absurd (other (ap (λ n. kind_at ts n) e ∙ closes))
    | inr l ↦ l
  ]

  some_inside : {how : Naming} {from to : ℕ} → BeginsDeclarator ts how whole from to → from ≤ to → IsMark ts to mark.RightParen →
      (may_leave_out how ≡ true → mark_at ts from mark.RightParen ≡ false) → from < to
  some_inside (nothing {at} out) low closes none = absurd (let h = none out in let i = here ts at _ closes in cc)
  some_inside {from} {to} (star is) low closes none = later from to (λ h. cc) low closes
  some_inside {from} {to} (opening is) low closes none = later from to (λ h. cc) low closes
  some_inside {from} {to} (bracket is) low closes none = later from to (λ h. cc) low closes
  some_inside {from} {to} (a_name is) low closes none = later from to (λ h. cc) low closes
  some_inside {from} {to} (a_parameter is) low closes none = later from to (λ h. cc) low closes

  -- what stands after `(` begins no list of parameters
  record Encloses (how : Naming) (s : State) : Type 0 where
    may : MayEnclose text ts how s.scope (s.at + 1)
    some : may_leave_out how ≡ true → mark_at ts (s.at + 1) mark.RightParen ≡ false

  may_enclose : (how : Naming) (s : State) → opens_parameters text ts how s ≡ false → Encloses how s
  may_enclose naming.Named s h = record { may = with_a_name; some = λ e. absurd cc }
  may_enclose naming.NamedOrNot s h =
      let (a, b) = neither (mark_at ts (s.at + 1) mark.RightParen) (begins_specs text ts s.scope (s.at + 1)) h in
      record { may = in_a_parameter (λ is known. let c = type_begins text ts s.scope (s.at + 1) is known in cc); some = λ e. a }
  may_enclose naming.NotNamed s h =
      record { may = without_a_name; some = λ e. (neither (mark_at ts (s.at + 1) mark.RightParen) (begins_specs text ts s.scope (s.at + 1)) h).0 }

  parentheses_sound : (how : Naming) (s : State) (r : FoundDeclarator × State) → IsMark ts s.at mark.LeftParen → opens_parameters text ts how s ≡ false →
      step.parentheses_here text ts inner how s ≡ Some r → Read how direct s r
  unfolding step.parentheses_here
  parentheses_sound how s r opens other h =
      let (a, found, h1) = bind_some (inner.declarator how (past s 1)) _ r h in
      let (closes, h2) = seen ts a.1.at (k.Mark mark.RightParen) _ r h1 in
      let f = sound.declarator how (past s 1) a.1 a.0 found in
      let low = f.low in
      let within = may_enclose how s other in
      let whole = f.derived a.0.height (omega arith) in
      let some = some_inside (declarator_begins ts text whole) (declarator_moves text ts whole) closes within.some in
      let e : (as_found (made.Parentheses (place_at ts s.at) a.0.node) a.0.name a.0.own (a.0.height + 1), past a.1 1) ≡ r = cc in
      subst (Read how direct s) e
      (record {
        low = omega arith;
        derived =
            λ d deep. under (Derives how direct s (as_found (made.Parentheses (place_at ts s.at) a.0.node) a.0.name a.0.own (a.0.height + 1), past a.1 1)) a.0.height d deep
            (λ d deep. p.in_parentheses opens within.may (f.derived d deep) some closes);
        grows = f.grows;
      })

  head_sound : (how : Naming) (s : State) (r : FoundDeclarator × State) → step.innermost text ts inner depth how s ≡ Some r → Read how direct s r
  unfolding step.innermost
  head_sound how s r h = elim (chosen (sees ts s.at k.Name) _ _ (Some r) h) [
    | inl c ↦ name_sound how s r (stands ts s.at _ c.0) c.1
    | inr c ↦ elim (chosen (mark_at ts s.at mark.LeftParen) _ _ (Some r) c.1) [
      | inl c ↦ elim (chosen (opens_parameters text ts how s) _ _ (Some r) c.1) [
        | inl o ↦ unnamed_sound how s r o.1
        | inr o ↦ parentheses_sound how s r (stands ts s.at _ c.0) o.0 o.1
      ]
      | inr c ↦ unnamed_sound how s r c.1
    ]
  ]

  -- ---- the whole

  loosen : {how : Naming} {d from to : ℕ} {scope after : Scope} {name : Option Name} {own : Option Scope} {node : Declarator} →
      IsDeclarator text ts how direct d scope after from to name own node → IsDeclarator text ts how whole d scope after from to name own node
  loosen (p.declared_name is) = p.declared_name is
  loosen (p.parameter_name is) = p.parameter_name is
  loosen p.no_name = p.no_name
  loosen p.no_parameter_name = p.no_parameter_name
  loosen (p.in_parentheses opens may a some closes) = p.in_parentheses opens may a some closes
  loosen (p.open_array a opens closes) = p.open_array a opens closes
  loosen (p.array a opens b closes) = p.array a opens b closes
  loosen (p.function a opens all closes) = p.function a opens all closes

  pointer_sound : (how : Naming) (s : State) (r : FoundDeclarator × State) → IsMark ts s.at mark.Star → step.pointer_here text ts inner how s ≡ Some r →
      Read how whole s r
  unfolding step.pointer_here
  pointer_sound how s r is h =
      let z = step.qualifiers ts (length ts) [] (past s 1) in
      let q = qualifiers_sound ts (length ts) [] (past s 1) in
      let (a, found, h1) = bind_some (inner.declarator how z.1) _ r h in
      let f = sound.declarator how z.1 a.1 a.0 found in
      let low = f.low in
      let e : (as_found (made.Pointer (place_at ts s.at) z.0 a.0.node) a.0.name a.0.own (a.0.height + 1), a.1) ≡ r = cc in
      subst (Read how whole s) e
      (record {
        low = omega arith;
        derived =
            λ d deep. under (Derives how whole s (as_found (made.Pointer (place_at ts s.at) z.0 a.0.node) a.0.name a.0.own (a.0.height + 1), a.1)) a.0.height d deep
            (λ d deep. p.pointer is (subst (λ l. AreQualifiers ts (s.at + 1) z.1.at l) (sym q.all) q.each)
            (subst (λ l. IsDeclarator text ts how whole d l a.1.scope z.1.at a.1.at a.0.name a.0.own a.0.node) q.same (f.derived d deep)));
        grows = subst (λ l. Grows l a.1.scope) q.same f.grows;
      })

  declarator_sound : (how : Naming) (s : State) (r : FoundDeclarator × State) → step.declarator text ts inner depth how s ≡ Some r → Read how whole s r
  unfolding step.declarator
  declarator_sound how s r h = elim (chosen (mark_at ts s.at mark.Star) _ _ (Some r) h) [
    | inl c ↦ pointer_sound how s r (stands ts s.at _ c.0) c.1
    | inr c ↦ (
        let (f, is, h1) = bind_some (step.innermost text ts inner depth how s) _ r c.1 in
        let g = parts_sound how depth s f.1 f.0 r (head_sound how s f is) h1 in
        record { low = g.low; derived = λ d deep. loosen (g.derived d deep); grows = g.grows })
  ]

  pub sound_declarator : SoundDeclarator text ts depth (step.declarator text ts inner depth)
  sound_declarator = record {
    low = λ how s t found h. (declarator_sound how s (found, t) h).low;
    derived = λ how d s t found h deep. (declarator_sound how s (found, t) h).derived d deep;
    grows = λ how s t found h. (declarator_sound how s (found, t) h).grows;
  }
