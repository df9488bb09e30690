-- What no depth is left for is not found.
use Rattle.std.proofs.Common.{◌≡◌, ℕ, ◌+◌, ◌<◌, max, Bool, true, false, List, Option, Some, None, refl, arith, cond}
use Rattle.c_tokens.specs.declared.kind.Kind.{Kind}
use Rattle.c_tokens.specs.declared.kind.Kind.TheVariants as k
use Rattle.c_tokens.specs.declared.kind.Mark.TheVariants as mark
use Rattle.c_tokens.specs.declared.token.Token.{Token}
use Rattle.c_grammar.specs.declared.words.Prefix.{Prefix}
use Rattle.c_grammar.specs.declared.phrases.Expression.{Expression}
use Rattle.c_grammar.specs.declared.words.Level.TheVariants as of
use Rattle.c_grammar.specs.Operators.{tightness}
use Rattle.grammar_descent.specs.declared.growing.Growth.{Growth}
use Rattle.grammar_descent.specs.declared.growing.Growth.TheVariants as growth
use Rattle.grammar_descent.specs.Reading.{State, ◌>>=◌, sees, when, past, Readers}
use Rattle.grammar_descent.specs.AllReaders.{readers}
use Rattle.grammar_descent.specs.ExpressionSteps.{FoundExpression, node_within, expressions, arguments, parentheses, prefix_expression, cast_to, type_phrase, index_after, call_after, member_after, postfix_after, binary_after, conditional_after, assignment_after, comma_after, growth_after}
use Rattle.grammar_descent.proofs.Seen.{le_false}

pub bind_none : {A B : Type 0} (o : Option A) (f : A → Option B) → ((x : A) → f x ≡ None) → (o >>= f) ≡ None
bind_none (Some x) f h = h x
bind_none None f h = refl

if_none : {A : Type 0} (b : Bool) (o : Option A) → o ≡ None → cond b o None ≡ None
if_none true o h = h
if_none false o h = refl

pub when_none : {A : Type 0} (ts : List Token) (at : ℕ) (kind : Kind) (o : Option A) → o ≡ None → when ts at kind o ≡ None
when_none ts at kind o h = if_none (sees ts at kind) o h

module _ (text : List ℕ) (ts : List Token) (depth : ℕ) where
  no_expression : (level : ℕ) (s : State) → depth ≡ 0 → (readers text ts depth).expression level s ≡ None
  unfolding readers
  no_expression level s none = rw none refl

  pub no_parentheses : (s : State) → depth ≡ 0 → parentheses text ts depth (readers text ts depth) s ≡ None
  unfolding parentheses
  no_parentheses s none = rw (no_expression 0 (past s 1) none) refl

  pub no_prefix : (op : Prefix) (s : State) → depth ≡ 0 → prefix_expression text ts depth (readers text ts depth) op s ≡ None
  unfolding prefix_expression
  no_prefix op s none = rw (no_expression _ (past s 1) none) refl

  pub no_cast : (s : State) → depth ≡ 0 → cast_to text ts depth (readers text ts depth) s ≡ None
  unfolding cast_to
  no_cast s none = bind_none (type_phrase text ts depth (readers text ts depth) (past s 1)) _
      (λ n. when_none ts n.1.at (k.Mark mark.RightParen) _ (rw (no_expression (tightness of.Cast) (past n.1 1) none) refl))

module _ (text : List ℕ) (ts : List Token) (depth : ℕ) (inner : Readers) where
  too_high : (node : Expression) (high level : ℕ) (after : State) → depth < high → node_within depth node high level after ≡ None
  too_high node high level after h = rw (le_false high depth h) refl

  -- What is as high as an expression may be grows no more.
  pub no_growth : (by : Growth) (start : ℕ) (f : FoundExpression) → depth < f.height → growth_after text ts depth inner by start f ≡ None
  unfolding index_after call_after member_after postfix_after binary_after conditional_after assignment_after comma_after
  no_growth growth.Index start f h = bind_none (inner.expression 0 (past f.after 1)) _
      (λ i. when_none ts i.1.at (k.Mark mark.RightBracket) _ (too_high _ (max f.height i.0.1) _ _ (omega arith)))
  no_growth growth.Call start f h = bind_none (arguments text ts depth inner (past f.after 1)) _
      (λ a. when_none ts a.1.at (k.Mark mark.RightParen) _ (too_high _ (max f.height a.0.1) _ _ (omega arith)))
  no_growth (growth.Select how) start f h = when_none ts (f.after.at + 1) k.Name _ (too_high _ f.height _ _ h)
  no_growth (growth.Postfix op) start f h = too_high _ f.height _ _ h
  no_growth (growth.Binary op) start f h = bind_none (inner.expression _ (past f.after 1)) _
      (λ r. too_high _ (max f.height r.0.1) _ _ (omega arith))
  no_growth growth.Conditional start f h = bind_none (inner.expression 0 (past f.after 1)) _
      (λ a. when_none ts a.1.at (k.Mark mark.Colon) _ (bind_none (inner.expression 2 (past a.1 1)) _
      (λ b. too_high _ (max f.height (max a.0.1 b.0.1)) _ _ (omega arith))))
  no_growth (growth.Assign op) start f h = bind_none (inner.expression 1 (past f.after 1)) _
      (λ r. too_high _ (max f.height r.0.1) _ _ (omega arith))
  no_growth growth.Comma start f h = bind_none (expressions text ts depth inner (past f.after 1)) _
      (λ r. too_high _ (max f.height r.0.1) _ _ (omega arith))
