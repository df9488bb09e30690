-- Lists of a declarator's or a specifier's parts, item by item.
use Rattle.std.proofs.Common.{◌≡◌, ◌∙◌, ℕ, suc, ◌+◌, max, true, false, ◌&&◌, List, [], ◌∷◌, ◌++◌, Option, Some, None, refl}
use Rattle.c_tokens.specs.declared.kind.Kind.TheVariants as k
use Rattle.c_tokens.specs.declared.kind.Mark.TheVariants as mark
use Rattle.c_tokens.specs.declared.token.Token.{Token}
use Rattle.c_grammar.specs.declared.phrases.Expression.{Expression}
use Rattle.c_grammar.specs.declared.phrases.Declarator.{Declarator}
use Rattle.c_grammar.specs.declared.phrases.Parameter.{Parameter}
use Rattle.c_grammar.specs.declared.phrases.Member.{Member}
use Rattle.c_grammar.specs.declared.phrases.Enumerator.{Enumerator}
use Rattle.c_grammar.specs.declared.words.Naming.TheVariants as naming
use Rattle.grammar_descent.specs.Reading.{State, Reading, Readers, FoundDeclarator, sees, mark_at, past}
use Rattle.grammar_descent.specs.DeclaratorSteps.{parameter_at, some_parameters}
use Rattle.grammar_descent.specs.SpecifierSteps.{declarators, member_at, members, enumerator_at, enumerators}

module _ (text : List ℕ) (ts : List Token) (inner : Readers) where
  -- ---- some_parameters

  pub some_parameters_none : (x : Option ((List Parameter × ℕ) × State)) (n : ℕ) (found : List Parameter) (high : ℕ) (s : State) →
      x ≡ some_parameters text ts inner (suc n) found high s → parameter_at text ts inner s ≡ None → x ≡ None
  unfolding some_parameters
  some_parameters_none x n found high s e is = e ∙ rw is refl

  pub some_parameters_last : (x : Option ((List Parameter × ℕ) × State)) (n : ℕ) (found : List Parameter) (high : ℕ) (s t : State) (a : Parameter) (height : ℕ) →
      x ≡ some_parameters text ts inner (suc n) found high s → parameter_at text ts inner s ≡ Some ((a, height), t) → mark_at ts t.at mark.Comma ≡ false → x ≡ Some ((found ++ a ∷ [], max high height), t)
  unfolding some_parameters
  some_parameters_last x n found high s t a height e is last = e ∙ rw (is, last) refl

  pub some_parameters_more : (x : Option ((List Parameter × ℕ) × State)) (n : ℕ) (found : List Parameter) (high : ℕ) (s t : State) (a : Parameter) (height : ℕ) →
      x ≡ some_parameters text ts inner (suc n) found high s → parameter_at text ts inner s ≡ Some ((a, height), t) → mark_at ts t.at mark.Comma ≡ true → x ≡ some_parameters text ts inner n (found ++ a ∷ []) (max high height) (past t 1)
  unfolding some_parameters
  some_parameters_more x n found high s t a height e is more = e ∙ rw (is, more) refl

  pub some_parameters_zero : (found : List Parameter) (high : ℕ) (s : State) → some_parameters text ts inner 0 found high s ≡ None
  unfolding some_parameters
  some_parameters_zero found high s = refl

  -- ---- declarators

  pub declarators_none : (x : Option ((List Declarator × ℕ) × State)) (n : ℕ) (found : List Declarator) (high : ℕ) (s : State) →
      x ≡ declarators text ts inner (suc n) found high s → inner.declarator naming.Named s ≡ None → x ≡ None
  unfolding declarators
  declarators_none x n found high s e is = e ∙ rw is refl

  pub declarators_last : (x : Option ((List Declarator × ℕ) × State)) (n : ℕ) (found : List Declarator) (high : ℕ) (s t : State) (a : FoundDeclarator) →
      x ≡ declarators text ts inner (suc n) found high s → inner.declarator naming.Named s ≡ Some (a, t) → mark_at ts t.at mark.Comma ≡ false → x ≡ Some ((found ++ a.node ∷ [], max high a.height), t)
  unfolding declarators
  declarators_last x n found high s t a e is last = e ∙ rw (is, last) refl

  pub declarators_more : (x : Option ((List Declarator × ℕ) × State)) (n : ℕ) (found : List Declarator) (high : ℕ) (s t : State) (a : FoundDeclarator) →
      x ≡ declarators text ts inner (suc n) found high s → inner.declarator naming.Named s ≡ Some (a, t) → mark_at ts t.at mark.Comma ≡ true → x ≡ declarators text ts inner n (found ++ a.node ∷ []) (max high a.height) (past t 1)
  unfolding declarators
  declarators_more x n found high s t a e is more = e ∙ rw (is, more) refl

  pub declarators_zero : (found : List Declarator) (high : ℕ) (s : State) → declarators text ts inner 0 found high s ≡ None
  unfolding declarators
  declarators_zero found high s = refl

  -- ---- members

  pub members_none : (x : Option ((List Member × ℕ) × State)) (n : ℕ) (found : List Member) (high : ℕ) (s : State) →
      x ≡ members text ts inner (suc n) found high s → member_at text ts inner s ≡ None → x ≡ None
  unfolding members
  members_none x n found high s e is = e ∙ rw is refl

  pub members_last : (x : Option ((List Member × ℕ) × State)) (n : ℕ) (found : List Member) (high : ℕ) (s t : State) (a : Member) (height : ℕ) →
      x ≡ members text ts inner (suc n) found high s → member_at text ts inner s ≡ Some ((a, height), t) → mark_at ts t.at mark.RightBrace ≡ true → x ≡ Some ((found ++ a ∷ [], max high height), t)
  unfolding members
  members_last x n found high s t a height e is last = e ∙ rw (is, last) refl

  pub members_more : (x : Option ((List Member × ℕ) × State)) (n : ℕ) (found : List Member) (high : ℕ) (s t : State) (a : Member) (height : ℕ) →
      x ≡ members text ts inner (suc n) found high s → member_at text ts inner s ≡ Some ((a, height), t) → mark_at ts t.at mark.RightBrace ≡ false → x ≡ members text ts inner n (found ++ a ∷ []) (max high height) t
  unfolding members
  members_more x n found high s t a height e is more = e ∙ rw (is, more) refl

  pub members_zero : (found : List Member) (high : ℕ) (s : State) → members text ts inner 0 found high s ≡ None
  unfolding members
  members_zero found high s = refl

module _ (text : List ℕ) (ts : List Token) (expression : ℕ → Reading (Expression × ℕ)) where
  -- ---- enumerators

  pub enumerators_none : (x : Option ((List Enumerator × ℕ) × State)) (n : ℕ) (found : List Enumerator) (high : ℕ) (s : State) →
      x ≡ enumerators text ts expression (suc n) found high s → enumerator_at text ts expression s ≡ None → x ≡ None
  unfolding enumerators
  enumerators_none x n found high s e is = e ∙ rw is refl

  pub enumerators_last : (x : Option ((List Enumerator × ℕ) × State)) (n : ℕ) (found : List Enumerator) (high : ℕ) (s t : State) (a : Enumerator) (height : ℕ) →
      x ≡ enumerators text ts expression (suc n) found high s → enumerator_at text ts expression s ≡ Some ((a, height), t) → (mark_at ts t.at mark.Comma && sees ts (t.at + 1) k.Name) ≡ false → x ≡ Some ((found ++ a ∷ [], max high height), t)
  unfolding enumerators
  enumerators_last x n found high s t a height e is last = e ∙ rw (is, last) refl

  pub enumerators_more : (x : Option ((List Enumerator × ℕ) × State)) (n : ℕ) (found : List Enumerator) (high : ℕ) (s t : State) (a : Enumerator) (height : ℕ) →
      x ≡ enumerators text ts expression (suc n) found high s → enumerator_at text ts expression s ≡ Some ((a, height), t) → (mark_at ts t.at mark.Comma && sees ts (t.at + 1) k.Name) ≡ true → x ≡ enumerators text ts expression n (found ++ a ∷ []) (max high height) (past t 1)
  unfolding enumerators
  enumerators_more x n found high s t a height e is more = e ∙ rw (is, more) refl

  pub enumerators_zero : (found : List Enumerator) (high : ℕ) (s : State) → enumerators text ts expression 0 found high s ≡ None
  unfolding enumerators
  enumerators_zero found high s = refl
