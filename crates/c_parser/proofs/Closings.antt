-- After the parts of a statement, closing to the count of the names before it leaves what was in scope before it.
use Rattle.std.proofs.Common.{◌≡◌, ℕ, ◌-◌, List, [], length, drop, Option, Some, refl, subst}
use Rattle.c_tokens.specs.declared.token.Token.{Token}
use Rattle.c_grammar.specs.declared.phrases.Expression.{Expression}
use Rattle.c_grammar.specs.declared.statements.ForStart.{ForStart}
use Rattle.c_grammar.specs.declared.statements.Statement.{Statement}
use Rattle.c_grammar.specs.declared.statements.Block.{Block}
use Rattle.c_grammar.specs.declared.statements.BlockItem.{BlockItem}
use Rattle.c_grammar.specs.Scope.{Scope}
use Rattle.grammar_descent.specs.Reading.{State, Readers}
use Rattle.grammar_descent.specs.Exact.{Exact, Grows}
use Rattle.grammar_descent.specs.StatementSteps as st
use Rattle.c_parser.specs.ForHeader as h
use Rattle.c_parser.proofs.Scopes as g
use Rattle.c_parser.proofs.Scopes.{grows_on, grown_found, closed_again}

abbrev pub Closes : Scope → Scope → Type 0
Closes before after = drop (length after - length before) after ≡ before

module _ (text : List ℕ) (ts : List Token) (phrases : ℕ → Readers) (exact : (d : ℕ) → Exact text ts d (phrases d)) (depth : ℕ) where
  grows_condition : (s t : State) (x : Expression) → st.condition text ts phrases depth s ≡ Some (x, t) → Grows s.scope t.scope
  grows_condition s t x e = grown_found s.scope (st.condition text ts phrases depth s) (x, t) (g.condition text ts phrases exact depth s) e

  grows_statement : (s t : State) (x : Statement) → st.statement text ts phrases depth s ≡ Some (x, t) → Grows s.scope t.scope
  grows_statement s t x e = grown_found s.scope (st.statement text ts phrases depth s) (x, t) (g.statement text ts phrases exact depth s) e

  pub after_items : (before : Scope) (s t : State) (x : List BlockItem) → s.scope ≡ before →
      st.items text ts phrases depth (st.statement text ts phrases depth) (length ts) [] s ≡ Some (x, t) → Closes before t.scope
  after_items before s t x same e =
      subst (λ (l : Scope). Closes l t.scope) same (closed_again s.scope t.scope
      (grown_found s.scope (st.items text ts phrases depth (st.statement text ts phrases depth) (length ts) [] s) (x, t)
      (g.items text ts phrases exact depth (st.statement text ts phrases depth) (g.statement text ts phrases exact depth) (length ts) [] s) e))

  pub after_block : (before : Scope) (s t : State) (x : Block) → s.scope ≡ before → st.block text ts phrases depth s ≡ Some (x, t) → Grows s.scope t.scope
  after_block before s t x same e = grown_found s.scope (st.block text ts phrases depth s) (x, t) (g.block text ts phrases exact depth s) e

  pub after_statement : (before : Scope) (s t : State) (x : Statement) → s.scope ≡ before → st.statement text ts phrases depth s ≡ Some (x, t) → Closes before t.scope
  after_statement before s t x same e = subst (λ (l : Scope). Closes l t.scope) same (closed_again s.scope t.scope (grows_statement s t x e))

  pub after_condition : (before : Scope) (s t : State) (x : Expression) → s.scope ≡ before → st.condition text ts phrases depth s ≡ Some (x, t) → Closes before t.scope
  after_condition before s t x same e = subst (λ (l : Scope). Closes l t.scope) same (closed_again s.scope t.scope (grows_condition s t x e))

  -- a condition, and a statement that begins with the scope after it
  pub after_body : (s t u v : State) (x : Expression) (y : Statement) → st.condition text ts phrases depth s ≡ Some (x, t) → u.scope ≡ t.scope →
      st.statement text ts phrases depth u ≡ Some (y, v) → Closes s.scope v.scope
  after_body s t u v x y a same b =
      closed_again s.scope v.scope (grows_on s.scope t.scope v.scope (grows_condition s t x a) (subst (λ (l : Scope). Grows l v.scope) same (grows_statement u v y b)))

  pub after_switch : (s t u : State) (x : Expression) (y : Block) → st.condition text ts phrases depth s ≡ Some (x, t) → st.block text ts phrases depth t ≡ Some (y, u) →
      Closes s.scope u.scope
  after_switch s t u x y a b =
      closed_again s.scope u.scope (grows_on s.scope t.scope u.scope (grows_condition s t x a) (after_block t.scope t u y refl b))

  -- what stands after `for`, and a statement that begins with the scope after it
  pub after_loop : (s t u : State) (x : ForStart × Option Expression × Option Expression) (y : Statement) → h.for_header text ts phrases depth s ≡ Some (x, t) →
      st.statement text ts phrases depth t ≡ Some (y, u) → Closes s.scope u.scope
  after_loop s t u x y a b =
      closed_again s.scope u.scope (grows_on s.scope t.scope u.scope (grown_found s.scope (h.for_header text ts phrases depth s) (x, t) (g.for_header text ts phrases exact depth s) a) (grows_statement t u y b))
