-- The readers of declarations, one step on.
use Rattle.std.proofs.Common.{◌≡◌, ℕ, suc, true, false, List, ◌++◌, ◌∷◌, [], Some, None, refl}
use Rattle.c_tokens.specs.declared.token.Token.{Token}
use Rattle.c_tokens.specs.declared.kind.Mark.TheVariants as mark
use Rattle.c_grammar.specs.declared.statements.InitDeclarator.{InitDeclarator}
use Rattle.c_grammar.specs.declared.words.NameKind.{NameKind}
use Rattle.grammar_descent.specs.Reading.{State, mark_at, past, Readers}
use Rattle.grammar_descent.specs.InitialiserSteps as step

module _ (ts : List Token) (phrases : ℕ → Readers) (depth : ℕ) (kind : NameKind) where
  pub more_declarators-end : (n : ℕ) (found : List InitDeclarator) (s : State) → mark_at ts s.at mark.Comma ≡ false → mark_at ts s.at mark.Semicolon ≡ true →
      step.more_declarators ts phrases depth kind (suc n) found s ≡ Some (found, past s 1)
  unfolding step.more_declarators
  more_declarators-end n found s a b = rw (a, b) refl

  pub more_declarators-open : (n : ℕ) (found : List InitDeclarator) (s : State) → mark_at ts s.at mark.Comma ≡ false → mark_at ts s.at mark.Semicolon ≡ false →
      step.more_declarators ts phrases depth kind (suc n) found s ≡ None
  unfolding step.more_declarators
  more_declarators-open n found s a b = rw (a, b) refl

  pub more_declarators-none : (n : ℕ) (found : List InitDeclarator) (s : State) → mark_at ts s.at mark.Comma ≡ true → step.init_declarator ts phrases depth kind (past s 1) ≡ None →
      step.more_declarators ts phrases depth kind (suc n) found s ≡ None
  unfolding step.more_declarators
  more_declarators-none n found s a b = rw (a, b) refl

  pub more_declarators-more : (n : ℕ) (found : List InitDeclarator) (s t : State) (next : InitDeclarator) → mark_at ts s.at mark.Comma ≡ true →
      step.init_declarator ts phrases depth kind (past s 1) ≡ Some (next, t) →
      step.more_declarators ts phrases depth kind (suc n) found s ≡ step.more_declarators ts phrases depth kind n (found ++ next ∷ []) t
  unfolding step.more_declarators
  more_declarators-more n found s t next a b = rw (a, b) refl

  pub more_declarators-over : (found : List InitDeclarator) (s : State) → step.more_declarators ts phrases depth kind 0 found s ≡ None
  unfolding step.more_declarators
  more_declarators-over found s = refl
