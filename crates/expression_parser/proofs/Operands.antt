-- A cast is no operand of an operator that binds tighter.
use Rattle.std.proofs.Common.{◌≡◌, ℕ, ◌+◌, ◌<◌, Bool, true, false, ◌&&◌, List, Option, Some, None, refl, arith, nat_le, nat_lt, cond}
use Rattle.std.proofs.lemmas.Bool.Decides.{nat_tests}
use Rattle.c_tokens.specs.declared.kind.Kind.{Kind}
use Rattle.c_tokens.specs.declared.kind.Kind.TheVariants as k
use Rattle.c_tokens.specs.declared.kind.Mark.TheVariants as mark
use Rattle.c_tokens.specs.declared.token.Token.{Token}
use Rattle.c_grammar.specs.declared.phrases.Expression.{Expression}
use Rattle.c_grammar.specs.declared.words.Level.TheVariants as of
use Rattle.c_grammar.specs.Operators.{tightness}
use Rattle.grammar_descent.specs.Reading.{State, ◌>>=◌, sees, when, mark_at, past, Readers}
use Rattle.grammar_descent.specs.Types.{begins_specs}
use Rattle.grammar_descent.specs.ExpressionSteps.{node_within, head, cast_or_parentheses, cast_to, type_phrase, from_head, expression}
use Rattle.grammar_descent.proofs.Seen.{le_false, stands, both}

bind_bind : {A B C : Type 0} (o : Option A) (f : A → Option B) (g : B → Option C) → ((x : A) → (f x >>= g) ≡ None) → ((o >>= f) >>= g) ≡ None
bind_bind (Some x) f g h = h x
bind_bind None f g h = refl

if_bind : {A B : Type 0} (b : Bool) (o : Option A) (g : A → Option B) → (o >>= g) ≡ None → (cond b o None >>= g) ≡ None
if_bind true o g h = h
if_bind false o g h = refl

when_bind : {A B : Type 0} (ts : List Token) (at : ℕ) (kind : Kind) (o : Option A) (g : A → Option B) → (o >>= g) ≡ None → (when ts at kind o >>= g) ≡ None
when_bind ts at kind o g h = if_bind (sees ts at kind) o g h

module _ (text : List ℕ) (ts : List Token) (depth : ℕ) (inner : Readers) where
  loose : (least start : ℕ) (node : Expression) (high : ℕ) (after : State) → (tightness of.Cast) < least →
      (node_within depth node high (tightness of.Cast) after >>= from_head text ts depth inner least start) ≡ None
  loose least start node high after h = if_bind (nat_le high depth) _ (from_head text ts depth inner least start) (rw (le_false least (tightness of.Cast) h) refl)

  cast_is_loose : (least start : ℕ) (s : State) → (tightness of.Cast) < least → (cast_to text ts depth inner s >>= from_head text ts depth inner least start) ≡ None
  unfolding cast_to
  cast_is_loose least start s h = bind_bind (type_phrase text ts depth inner (past s 1)) _ (from_head text ts depth inner least start)
      (λ n. when_bind ts n.1.at (k.Mark mark.RightParen) _ (from_head text ts depth inner least start)
      (bind_bind (inner.expression (tightness of.Cast) (past n.1 1)) _ (from_head text ts depth inner least start) (λ f. loose least start _ _ f.1 h)))

  pub no_operand : (least : ℕ) (s : State) →
      (nat_lt (tightness of.Cast) least && (mark_at ts s.at mark.LeftParen && begins_specs text ts s.scope (s.at + 1))) ≡ true → expression text ts depth inner least s ≡ None
  unfolding expression head cast_or_parentheses
  no_operand least s h =
      let tight = both (nat_lt (tightness of.Cast) least) _ h in
      let seen = both (mark_at ts s.at mark.LeftParen) _ tight.1 in
      let below : (tightness of.Cast) < least = grind (arith, nat_tests) in
      rw (stands ts s.at (k.Mark mark.LeftParen) seen.0, seen.1, cast_is_loose least s.at s below) refl
