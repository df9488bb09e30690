-- The readers of initialisers, one step on.
use Rattle.std.proofs.Common.{◌≡◌, ℕ, zero, suc, ◌+◌, ◌-◌, ◌<◌, Bool, true, false, cond, List, ◌++◌, ◌∷◌, [], Option, Some, None, refl, ◌∙◌, arith}
use Rattle.c_tokens.specs.declared.token.Token.{Token}
use Rattle.c_tokens.specs.declared.kind.Mark.TheVariants as mark
use Rattle.c_grammar.specs.declared.statements.Initialiser.{Initialiser}
use Rattle.grammar_descent.specs.Reading.{State, Reading, ◌>>=◌, mark_at, past, Readers}
use Rattle.grammar_descent.specs.InitialiserSteps as step
use Rattle.c_parser.specs.ListEnd.{list_end}

regroup : {A : Type 0} (a b d : Bool) (p q : State) (f g : State → Option A) →
    cond a (f p) (cond b (cond d (f q) (g p)) None)
    ≡ ◌>>=◌ {A = Bool × State} (cond a (Some (true, p)) (cond b (cond d (Some (true, q)) (Some (false, p))) None)) (λ c. cond c.0 (f c.1) (g c.1))
regroup true b d p q f g = refl
regroup false true true p q f g = refl
regroup false true false p q f g = refl
regroup false false d p q f g = refl

module _ (ts : List Token) (phrases : ℕ → Readers) where
  pub initialiser-value : (depth : ℕ) (s : State) → mark_at ts s.at mark.LeftBrace ≡ false → step.initialiser ts phrases depth s ≡ step.value ts phrases depth s
  unfolding step.initialiser
  initialiser-value zero s h = rw h refl
  initialiser-value (suc depth) s h = rw h refl

  pub initialiser-least : (depth : ℕ) (s : State) → mark_at ts s.at mark.LeftBrace ≡ true → depth ≡ 0 → step.initialiser ts phrases depth s ≡ None
  unfolding step.initialiser
  initialiser-least depth s h e = rw (e, h) refl

  pub initialiser-braces : (depth : ℕ) (s : State) → mark_at ts s.at mark.LeftBrace ≡ true → 0 < depth →
      step.initialiser ts phrases depth s ≡ step.braces ts phrases (step.initialiser ts phrases (depth - 1)) s
  unfolding step.initialiser
  initialiser-braces zero s h some = absurd (omega arith)
  initialiser-braces (suc depth) s h some = let e : suc depth - 1 ≡ depth = omega arith in rw (e, h) refl

  module _ (inner : Reading Initialiser) where
    pub initialisers-none : (n : ℕ) (found : List Initialiser) (s : State) → inner s ≡ None → step.initialisers ts phrases inner (suc n) found s ≡ None
    unfolding step.initialisers
    initialisers-none n found s h = rw h refl

    initialisers-step : (n : ℕ) (found : List Initialiser) (s t : State) (next : Initialiser) → inner s ≡ Some (next, t) →
        step.initialisers ts phrases inner (suc n) found s
        ≡ (list_end ts t >>= λ c. cond c.0 (Some (found ++ next ∷ [], c.1)) (step.initialisers ts phrases inner n (found ++ next ∷ []) c.1))
    unfolding step.initialisers
    initialisers-step n found s t next h =
        rw h (regroup (mark_at ts t.at mark.RightBrace) (mark_at ts t.at mark.Comma) (mark_at ts (t.at + 1) mark.RightBrace) (past t 1) (past t 2)
        (λ u. Some (found ++ next ∷ [], u)) (λ u. step.initialisers ts phrases inner n (found ++ next ∷ []) u))

    pub initialisers-fail : (n : ℕ) (found : List Initialiser) (s t : State) (next : Initialiser) → inner s ≡ Some (next, t) → list_end ts t ≡ None →
        step.initialisers ts phrases inner (suc n) found s ≡ None
    initialisers-fail n found s t next h c = initialisers-step n found s t next h ∙ rw c refl

    pub initialisers-end : (n : ℕ) (found : List Initialiser) (s t u : State) (next : Initialiser) → inner s ≡ Some (next, t) → list_end ts t ≡ Some (true, u) →
        step.initialisers ts phrases inner (suc n) found s ≡ Some (found ++ next ∷ [], u)
    initialisers-end n found s t u next h c = initialisers-step n found s t next h ∙ rw c refl

    pub initialisers-more : (n : ℕ) (found : List Initialiser) (s t u : State) (next : Initialiser) → inner s ≡ Some (next, t) → list_end ts t ≡ Some (false, u) →
        step.initialisers ts phrases inner (suc n) found s ≡ step.initialisers ts phrases inner n (found ++ next ∷ []) u
    initialisers-more n found s t u next h c = initialisers-step n found s t next h ∙ rw c refl

    pub initialisers-over : (found : List Initialiser) (s : State) → step.initialisers ts phrases inner 0 found s ≡ None
    unfolding step.initialisers
    initialisers-over found s = refl
