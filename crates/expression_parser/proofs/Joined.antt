-- A part is read with the mark after it, and what stands after an operand before both are joined: the same expression is found.
use Rattle.std.proofs.Common.{◌≡◌, ℕ, ◌+◌, max, Bool, true, false, List, Option, Some, None, refl, sym, ap, ◌∙◌, arith, cond}
use Rattle.c_tokens.specs.declared.kind.Kind.{Kind}
use Rattle.c_tokens.specs.declared.kind.Kind.TheVariants as k
use Rattle.c_tokens.specs.declared.kind.Mark.TheVariants as mark
use Rattle.c_tokens.specs.declared.token.Token.{Token}
use Rattle.c_grammar.specs.declared.words.Level.TheVariants as of
use Rattle.c_grammar.specs.declared.phrases.Expression.TheVariants as e
use Rattle.c_grammar.specs.Tokens.{place_at}
use Rattle.c_grammar.specs.Operators.{tightness, rank}
use Rattle.grammar_descent.specs.declared.growing.Growth.{Growth}
use Rattle.grammar_descent.specs.declared.growing.Growth.TheVariants as growth
use Rattle.grammar_descent.specs.Reading.{State, ◌>>=◌, sees, when, past, Readers}
use Rattle.grammar_descent.specs.ExpressionSteps.{FoundExpression, node_within, growth_level, expressions, arguments, type_phrase, parentheses, cast_to, size_of_type, index_after, call_after, member_after, postfix_after, binary_after, conditional_after, assignment_after, comma_after, growth_after}
use Rattle.expression_nodes.specs.declared.tails.Tail.{Tail}
use Rattle.expression_nodes.specs.declared.tails.Tail.TheVariants as made
use Rattle.expression_nodes.specs.Tails.{joined}
use Rattle.expression_parser.specs.Before.{before}
use Rattle.expression_parser.specs.Tails.{index_tail, call_tail, member_tail, binary_tail, conditional_tail, assignment_tail, comma_tail, tail}

if_before : {A B : Type 0} (b : Bool) (x : A) (f : A → Option B) → cond b (f x) None ≡ (cond b (Some x) None >>= f)
if_before true x f = refl
if_before false x f = refl

-- what goes on after a part and its mark
by_option : {A B : Type 0} (ts : List Token) (kind : Kind) (o : Option (A × State)) (f : A × State → Option B) →
    (o >>= λ p. when ts p.1.at kind (f (p.0, past p.1 1))) ≡ ((o >>= λ p. when ts p.1.at kind (Some (p.0, past p.1 1))) >>= f)
by_option ts kind (Some p) f = if_before (sees ts p.1.at kind) (p.0, past p.1 1) f
by_option ts kind None f = refl

bind_bind : {A B C : Type 0} (o : Option A) (f : A → Option B) (g : B → Option C) → ((o >>= f) >>= g) ≡ (o >>= λ x. f x >>= g)
bind_bind (Some x) f g = refl
bind_bind None f g = refl

bind_same : {A B : Type 0} (o : Option A) (f g : A → Option B) → ((x : A) → f x ≡ g x) → (o >>= f) ≡ (o >>= g)
bind_same (Some x) f g same = same x
bind_same None f g same = refl

module _ (text : List ℕ) (ts : List Token) (depth : ℕ) (inner : Readers) where
  pub by_parentheses : (s : State) → parentheses text ts depth inner s
      ≡ (before ts mark.RightParen (inner.expression (tightness of.Comma)) (past s 1) >>= λ f.
      node_within depth (e.Parentheses (place_at ts s.at) f.0.0) f.0.1 (tightness of.Primary) f.1)
  unfolding parentheses before
  by_parentheses s = by_option ts (k.Mark mark.RightParen) (inner.expression (tightness of.Comma) (past s 1))
      (λ f. node_within depth (e.Parentheses (place_at ts s.at) f.0.0) f.0.1 (tightness of.Primary) f.1)

  pub by_size_of_type : (s : State) → size_of_type text ts depth inner s
      ≡ (before ts mark.RightParen (type_phrase text ts depth inner) (past s 2) >>= λ n.
      node_within depth (e.SizeOfType (place_at ts s.at) n.0.0) n.0.1 (tightness of.Unary) n.1)
  unfolding size_of_type before
  by_size_of_type s = by_option ts (k.Mark mark.RightParen) (type_phrase text ts depth inner (past s 2))
      (λ n. node_within depth (e.SizeOfType (place_at ts s.at) n.0.0) n.0.1 (tightness of.Unary) n.1)

  pub by_cast : (s : State) → cast_to text ts depth inner s
      ≡ (before ts mark.RightParen (type_phrase text ts depth inner) (past s 1) >>= λ n. inner.expression (tightness of.Cast) n.1 >>= λ f.
      node_within depth (e.Cast (place_at ts s.at) n.0.0 f.0.0) (max n.0.1 f.0.1) (tightness of.Cast) f.1)
  unfolding cast_to before
  by_cast s = by_option ts (k.Mark mark.RightParen) (type_phrase text ts depth inner (past s 1))
      (λ n. inner.expression (tightness of.Cast) n.1 >>= λ f. node_within depth (e.Cast (place_at ts s.at) n.0.0 f.0.0) (max n.0.1 f.0.1) (tightness of.Cast) f.1)

  -- the node of the larger expression, where its tail is read
  abbrev whole : Growth → ℕ → FoundExpression → (Tail × ℕ) × State → Option FoundExpression
  whole by start f t = node_within depth (joined (place_at ts start) f.node t.0.0) (max f.height t.0.1) (growth_level by) t.1

  alone : (h : ℕ) → h ≡ max h 0
  alone h = omega arith

  pub by_tail : (by : Growth) (start : ℕ) (f : FoundExpression) →
      growth_after text ts depth inner by start f ≡ (tail text ts depth inner by f.after >>= λ t.
      node_within depth (joined (place_at ts start) f.node t.0.0) (max f.height t.0.1) (growth_level by) t.1)
  unfolding index_after call_after member_after postfix_after binary_after conditional_after assignment_after comma_after index_tail call_tail member_tail binary_tail conditional_tail assignment_tail comma_tail before
  by_tail growth.Index start f =
      let part = inner.expression (tightness of.Comma) (past f.after 1) in
      by_option ts (k.Mark mark.RightBracket) part (λ q. node_within depth (e.Index (place_at ts start) f.node q.0.0) (max f.height q.0.1) (tightness of.Postfix) q.1)
      ∙ sym (bind_bind (part >>= λ q. when ts q.1.at (k.Mark mark.RightBracket) (Some (q.0, past q.1 1))) (λ q. Some ((made.Index q.0.0, q.0.1), q.1)) (whole growth.Index start f))
  by_tail growth.Call start f =
      let part = arguments text ts depth inner (past f.after 1) in
      by_option ts (k.Mark mark.RightParen) part (λ q. node_within depth (e.Call (place_at ts start) f.node q.0.0) (max f.height q.0.1) (tightness of.Postfix) q.1)
      ∙ sym (bind_bind (part >>= λ q. when ts q.1.at (k.Mark mark.RightParen) (Some (q.0, past q.1 1))) (λ q. Some ((made.Call q.0.0, q.0.1), q.1)) (whole growth.Call start f))
  by_tail (growth.Select how) start f =
      ap (λ h. when ts (f.after.at + 1) k.Name (node_within depth (e.Select (place_at ts start) how f.node (f.after.at + 1)) h (tightness of.Postfix) (past f.after 2)))
      (alone f.height)
      ∙ if_before (sees ts (f.after.at + 1) k.Name) ((made.Select how (f.after.at + 1), 0), past f.after 2) (whole (growth.Select how) start f)
  by_tail (growth.Postfix op) start f =
      ap (λ h. node_within depth (e.Postfix (place_at ts start) op f.node) h (tightness of.Postfix) (past f.after 1)) (alone f.height)
  by_tail (growth.Binary op) start f =
      sym (bind_bind (inner.expression (rank op + 1) (past f.after 1)) (λ q. Some ((made.Binary op q.0.0, q.0.1), q.1)) (whole (growth.Binary op) start f))
  by_tail growth.Conditional start f =
      let part = inner.expression (tightness of.Comma) (past f.after 1) in
      let both = part >>= λ q. when ts q.1.at (k.Mark mark.Colon) (Some (q.0, past q.1 1)) in
      by_option ts (k.Mark mark.Colon) part
      (λ a. inner.expression (tightness of.Conditional) a.1 >>= λ b.
      node_within depth (e.Conditional (place_at ts start) f.node a.0.0 b.0.0) (max f.height (max a.0.1 b.0.1)) (tightness of.Conditional) b.1)
      ∙ bind_same both _ _ (λ a. sym (bind_bind (inner.expression (tightness of.Conditional) a.1)
      (λ b. Some ((made.Conditional a.0.0 b.0.0, max a.0.1 b.0.1), b.1)) (whole growth.Conditional start f)))
      ∙ sym (bind_bind both (λ a. inner.expression (tightness of.Conditional) a.1 >>= λ b. Some ((made.Conditional a.0.0 b.0.0, max a.0.1 b.0.1), b.1))
      (whole growth.Conditional start f))
  by_tail (growth.Assign op) start f =
      sym (bind_bind (inner.expression (tightness of.Assignment) (past f.after 1)) (λ q. Some ((made.Assign op q.0.0, q.0.1), q.1)) (whole (growth.Assign op) start f))
  by_tail growth.Comma start f =
      sym (bind_bind (expressions text ts depth inner (past f.after 1)) (λ q. Some ((made.Comma q.0.0, q.0.1), q.1)) (whole growth.Comma start f))
