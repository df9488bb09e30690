-- What is derived as an expression is read: the reader comes to the very node.
use Rattle.std.proofs.Common.{◌≡◌, ◌≢◌, ℕ, zero, suc, ◌+◌, ◌-◌, ◌≤◌, max, true, false, List, [], ◌∷◌, ◌++◌, length, Some, None, refl, sym, ap, ◌∙◌, arith, append_assoc}
use Rattle.c_tokens.specs.declared.kind.Mark.TheVariants as mark
use Rattle.c_tokens.specs.declared.kind.Kind.{Kind}
use Rattle.c_tokens.specs.declared.kind.Kind.TheVariants as k
use Rattle.c_tokens.specs.declared.token.Token.{Token}
use Rattle.c_grammar.specs.declared.words.Naming.TheVariants as naming
use Rattle.c_grammar.specs.declared.words.Level.TheVariants as of
use Rattle.c_grammar.specs.declared.words.Prefix.{Prefix}
use Rattle.c_grammar.specs.declared.words.Prefix.TheVariants as prefix
use Rattle.c_grammar.specs.declared.phrases.Expression.{Expression}
use Rattle.c_grammar.specs.declared.phrases.Expression.TheVariants as e
use Rattle.c_grammar.specs.declared.phrases.TypePhrase.{TypePhrase}
use Rattle.token_texts.specs.Names.{name_at}
use Rattle.c_grammar.specs.Tokens.{kind_at, place_at, IsMark}
use Rattle.c_grammar.specs.Scope.{Scope}
use Rattle.c_grammar.specs.Operators.{rank, operand_level, tightness}
use Rattle.c_grammar.specs.Phrases as p
use Rattle.c_grammar.specs.Phrases.{IsExpression, AreExpressions, IsTypeName}
use Rattle.grammar_descent.specs.declared.growing.Growth.{Growth}
use Rattle.grammar_descent.specs.declared.growing.Growth.TheVariants as growth
use Rattle.grammar_descent.specs.Reading.{State, ◌>>=◌, Readers}
use Rattle.grammar_descent.specs.Follow.{ends, ends_specs, ends_declarator, is_string}
use Rattle.grammar_descent.specs.Exact.{Exact, IsFound, CompleteExpression}
use Rattle.grammar_descent.specs.ExpressionSteps.{growth_by, growth_level, least_operand, FoundExpression, answer, node_within, more_expressions, expressions, type_phrase, head, growth_after, climb, expression, no_expression}
use Rattle.grammar_descent.proofs.Seen.{le_true}
use Rattle.grammar_descent.proofs.Types.{type_missed}
use Rattle.grammar_descent.proofs.Levels.{binds, levels, ends_from, binds_from, Allows, allows_from, allows_growth, no_comma}
use Rattle.grammar_descent.proofs.Moves.{expressions_move, expressions_fit, strings_fit}
use Rattle.grammar_descent.proofs.ExpressionBegins.{no_specs, no_close, no_cast, first_string, type_name_begins, specs_end}
use Rattle.grammar_descent.proofs.ExpressionEquations as eq
use Rattle.grammar_descent.proofs.ExpressionEquations.{node_found, past_strings-is, climb-stops, climb-goes_on}

abbrev standing : ℕ → Scope → State
standing at scope = record { at = at; scope = scope }

operand_within : (op : Prefix) → (13 ≤ tightness (operand_level op)) × (tightness (operand_level op) ≤ 14)
operand_within prefix.Increment = (omega arith, omega arith)
operand_within _ = (omega arith, omega arith)

two_on : (n : ℕ) → n + 2 ≡ (n + 1) + 1
two_on n = omega arith

module _ (text : List ℕ) (ts : List Token) (depth : ℕ) (inner : Readers) (exact : Exact text ts depth inner) where
  -- Read from `from` on at the level `least`, the node is come to, at `to`, with turns left for all that may follow.
  record Reaches (least limit level from to : ℕ) (scope after : Scope) (node : Expression) : Type 0 where
    turns : ℕ
    height : ℕ
    own : ℕ
    within : height ≤ limit
    some : 1 ≤ height
    enough : depth + 2 ≤ turns + height
    high : level ≤ own
    comes : expression text ts depth inner least (standing from scope)
        ≡ (climb text ts depth inner least from turns (node_found node height own (standing to after)) >>= λ f. Some (answer f))

  first : (least limit level from to : ℕ) (scope after : Scope) (node : Expression) (height own : ℕ) → suc height ≤ limit → height ≤ depth → least ≤ level → level ≤ own →
      head text ts depth inner (standing from scope) ≡ node_within depth node height own (standing to after) → Reaches least limit level from to scope after node
  unfolding expression
  first least limit level from to scope after node height own within low under high is = record {
    turns = suc depth;
    height = height + 1;
    own = own;
    within = omega arith;
    some = omega arith;
    enough = omega arith;
    high = high;
    comes = rw (is ∙ eq.made-is text ts depth inner node height own (standing to after) low, le_true least own (omega arith)) refl;
  }

  settled : (level limit from to : ℕ) (scope after : Scope) (node : Expression) → limit ≤ suc depth → binds (kind_at ts to) ≤ level →
      Reaches level limit level from to scope after node →
      IsFound (expression text ts depth inner level (standing from scope)) limit (λ height. (node, height)) (standing to after)
  settled level limit from to scope after node deep ends r =
      let more : r.turns ≡ suc (r.turns - 1) = (let a = r.within in let b = r.enough in omega arith) in
      let f : FoundExpression = node_found node r.height r.own (standing to after) in
      let stops : climb text ts depth inner level from r.turns f ≡ Some f =
      ap (λ n. climb text ts depth inner level from n f) more ∙ climb-stops text ts depth inner level from (r.turns - 1) f ends in
      record { height = r.height; low = r.within; is = r.comes ∙ rw stops refl }

  -- a node on top of what was reached
  grows : (least limit level before from at to : ℕ) (scope between after : Scope) (left node : Expression) (by : Growth)
      (l : Reaches least limit before from at scope between left) (height : ℕ) →
      limit ≤ depth → growth_by (kind_at ts at) ≡ Some by → least ≤ growth_level by → least_operand by ≤ before → level ≤ growth_level by → l.height ≤ height → height ≤ limit →
      growth_after text ts depth inner by from (node_found left l.height l.own (standing at between)) ≡ node_within depth node height (growth_level by) (standing to after) →
      Reaches least (suc limit) level from to scope after node
  grows least limit level before from at to scope between after left node by l height deep is low high above tall small grown_is =
      let more : l.turns ≡ suc (l.turns - 1) = (let a = l.within in let b = l.enough in omega arith) in
      let own = l.high in
      let enough = l.enough in
      let f : FoundExpression = node_found left l.height l.own (standing at between) in
      let g : FoundExpression = node_found node (height + 1) (growth_level by) (standing to after) in
      let turn : climb text ts depth inner least from l.turns f ≡ climb text ts depth inner least from (l.turns - 1) g =
      ap (λ n. climb text ts depth inner least from n f) more
      ∙ climb-goes_on text ts depth inner least from (l.turns - 1) f g by is low (omega arith)
      (grown_is ∙ eq.made-is text ts depth inner node height (growth_level by) (standing to after) (omega arith)) in
      record {
        turns = l.turns - 1;
        height = height + 1;
        own = growth_level by;
        within = omega arith;
        some = omega arith;
        enough = omega arith;
        high = above;
        comes = l.comes ∙ rw turn refl;
      }

  -- ---- parts, which are no deeper than the inner readers read

  part : {limit level from to : ℕ} {scope after : Scope} {node : Expression} → IsExpression text ts limit level scope after from to node → limit ≤ depth →
      ends level (kind_at ts to) ≡ true → IsFound (inner.expression level (standing from scope)) limit (λ height. (node, height)) (standing to after)
  part {limit} {level} {from} {to} {scope} {after} {node} is deep ends =
      exact.expression_complete level limit (standing from scope) (standing to after) node deep is ends

  -- before a token that ends each expression of this level
  part_before : {limit level from to : ℕ} {scope after : Scope} {node : Expression} (kind : Kind) → IsExpression text ts limit level scope after from to node → limit ≤ depth →
      kind_at ts to ≡ Some kind → ends level (Some kind) ≡ true → IsFound (inner.expression level (standing from scope)) limit (λ height. (node, height)) (standing to after)
  part_before kind is deep at ends = part is deep (rw at ends)

  -- the last part of a node, of a level that no token goes on with after the node
  last_part : {limit level from to : ℕ} {scope after : Scope} {node : Expression} → IsExpression text ts limit level scope after from to node → limit ≤ depth →
      is_string (kind_at ts to) ≡ false → binds (kind_at ts to) ≤ level → IsFound (inner.expression level (standing from scope)) limit (λ height. (node, height)) (standing to after)
  last_part {limit} {level} {from} {to} is deep other low = part is deep (ends_from level (kind_at ts to) other low)

  type_found : {limit from to : ℕ} {scope after : Scope} {type : TypePhrase} → IsTypeName text ts limit scope after from to type → limit ≤ depth →
      IsMark ts to mark.RightParen → IsFound (type_phrase text ts depth inner (standing from scope)) limit (λ height. (type, height)) (standing to after)
  type_found (p.type_name {depth = limit} {from} {at} {to} {scope} {between} {after} {roles} {specs = held} {declarator} {own} a b) deep closes =
      let after_specs : ends_specs (kind_at ts to) ≡ true = rw closes refl in
      let after_all : ends_declarator (kind_at ts to) ≡ true = rw closes refl in
      let s = exact.specs_complete limit (standing from scope) (standing at between) held roles deep a (specs_end text ts b after_specs) in
      let d = exact.declarator_complete naming.NotNamed limit (standing at between) (standing to after) declarator None own deep b after_all in
      let low = s.low in
      let small = d.low in
      record {
        height = max s.height d.height;
        low = omega arith;
        is = eq.type_name-is text ts depth inner (standing from scope) (standing at between) (standing to after) held roles s.height declarator None own d.height s.is d.is;
      }

  more_expressions_found : {limit from to : ℕ} {scope after : Scope} {all : List Expression} → AreExpressions text ts limit scope after from to all → limit ≤ depth →
      ends (tightness of.Assignment) (kind_at ts to) ≡ true → kind_at ts to ≢ Some (k.Mark mark.Comma) → (n : ℕ) (found : List Expression) (high : ℕ) → length all ≤ n → high ≤ limit →
      IsFound (more_expressions text ts depth inner n found high (standing from scope)) limit (λ height. (found ++ all, height)) (standing to after)
  more_expressions_found (p.last_expression a) deep ends other zero found high room low = absurd (omega arith)
  more_expressions_found (p.last_expression {depth = limit} {from} {to} {scope} {after} {only} a) deep ends other (suc n) found high room low =
      let f = part a deep ends in
      let small = f.low in
      record {
        height = max high f.height;
        low = omega arith;
        is = eq.items-last text ts depth inner n found high (standing from scope) (standing to after) only f.height f.is other;
      }
  more_expressions_found (p.more_expressions a comma rest) deep ends other zero found high room low = absurd (omega arith)
  more_expressions_found (p.more_expressions {depth = limit} {from} {at} {to} {scope} {between} {after} {first = one} {rest = others} a comma rest) deep ends other (suc n) found high room low =
      let f = part_before (k.Mark mark.Comma) a deep comma refl in
      let small = f.low in
      let g = more_expressions_found rest deep ends other n (found ++ one ∷ []) (max high f.height) (omega arith) (omega arith) in
      record {
        height = g.height;
        low = g.low;
        is = eq.items-more text ts depth inner n found high (standing from scope) (standing at between) one f.height f.is comma ∙ g.is
            ∙ ap (λ l. Some ((l, g.height), standing to after)) (append_assoc found (one ∷ []) others);
      }

  expressions_found : {limit from to : ℕ} {scope after : Scope} {all : List Expression} → AreExpressions text ts limit scope after from to all → limit ≤ depth →
      ends (tightness of.Assignment) (kind_at ts to) ≡ true → kind_at ts to ≢ Some (k.Mark mark.Comma) →
      IsFound (expressions text ts depth inner (standing from scope)) limit (λ height. (all, height)) (standing to after)
  expressions_found {limit} {from} {to} {scope} all deep ends other =
      let i = expressions_move text ts all in
      let j = expressions_fit text ts all in
      let f = more_expressions_found all deep ends other (length ts) [] 0 (omega arith) (omega arith) in
      record { height = f.height; low = f.low; is = eq.list-is text ts depth inner (standing from scope) ∙ f.is }

  first_of_list : {limit from to : ℕ} {scope after : Scope} {all : List Expression} → AreExpressions text ts limit scope after from to all →
      kind_at ts from ≢ Some (k.Mark mark.RightParen)
  first_of_list (p.last_expression a) = no_close text ts a
  first_of_list (p.more_expressions a comma rest) = no_close text ts a

  -- ---- the node is come to

  reaches : {limit level from to : ℕ} {scope after : Scope} {node : Expression} → IsExpression text ts limit level scope after from to node → (least : ℕ) →
      limit ≤ suc depth → least ≤ level → Allows level (kind_at ts to) → Reaches least limit level from to scope after node
  reaches (p.name {depth = limit} {level} {from} {scope} low is other) least deep under ends =
      first least (suc limit) level from (from + 1) scope scope _ 0 (tightness of.Primary) (omega arith) (omega arith) under low
      (eq.head-name text ts depth inner (standing from scope) is (type_missed scope (name_at text ts from) other))
  reaches (p.number {depth = limit} {level} {from} {value} {scope} {type} low is) least deep under ends =
      first least (suc limit) level from (from + 1) scope scope _ 0 (tightness of.Primary) (omega arith) (omega arith) under low
      (eq.head-number text ts depth inner (standing from scope) value type is)
  reaches (p.character {depth = limit} {level} {from} {scope} {value} low is) least deep under ends =
      first least (suc limit) level from (from + 1) scope scope _ 0 (tightness of.Primary) (omega arith) (omega arith) under low
      (eq.head-character text ts depth inner (standing from scope) value is)
  reaches (p.strings {depth = limit} {level} {from} {to} {scope} low all) least deep under ends =
      let fits = strings_fit ts all in
      first least (suc limit) level from to scope scope _ 0 (tightness of.Primary) (omega arith) (omega arith) under low
      (eq.head-strings text ts depth inner (standing from scope) to (first_string text ts all)
      (past_strings-is ts all (length ts) (omega arith) ends.no_string))
  reaches (p.parentheses {depth = limit} {level} {from} {to} {scope} {after} {inner = within} low is a closes) least deep under ends =
      let f = part_before (k.Mark mark.RightParen) a (omega arith) closes refl in
      let small = f.low in
      first least (suc limit) level from (to + 1) scope after _ f.height (tightness of.Primary) (omega arith) (omega arith) under low
      (eq.head-parentheses text ts depth inner (standing from scope) (standing to after) within f.height is (no_specs text ts a) f.is closes)
  reaches (p.index {depth = limit} {level} {from} {at} {to} {scope} {between} {after} {array} {place} low a is b closes) least deep under ends =
      let by : growth_by (kind_at ts at) ≡ Some growth.Index = ap growth_by is in
      let l = reaches a least (omega arith) (omega arith) (allows_growth (tightness of.Postfix) (kind_at ts at) growth.Index by (omega arith)) in
      let f = part_before (k.Mark mark.RightBracket) b (omega arith) closes refl in
      let small = f.low in
      let small_left = l.within in
      grows least limit level (tightness of.Postfix) from at (to + 1) scope between after array _ growth.Index l (max l.height f.height) (omega arith) by
      (omega arith) (omega arith) low (omega arith) (omega arith)
      (eq.index-is text ts depth inner from (node_found array l.height l.own (standing at between)) (standing to after) place f.height f.is closes)
  reaches (p.call_without {depth = limit} {level} {from} {at} {scope} {after} {function} low a is closes) least deep under ends =
      let by : growth_by (kind_at ts at) ≡ Some growth.Call = ap growth_by is in
      let l = reaches a least (omega arith) (omega arith) (allows_growth (tightness of.Postfix) (kind_at ts at) growth.Call by (omega arith)) in
      let small_left = l.within in
      let closed = eq.call-is text ts depth inner from (node_found function l.height l.own (standing at after)) (standing (at + 1) after) [] 0
      (eq.arguments-none text ts depth inner (standing (at + 1) after) closes) closes in
      grows least limit level (tightness of.Postfix) from at (at + 2) scope after after function _ growth.Call l (max l.height 0) (omega arith) by
      (omega arith) (omega arith) low (omega arith) (omega arith)
      (closed ∙ ap (λ n. node_within depth (e.Call (place_at ts from) function []) (max l.height 0) (tightness of.Postfix) (standing n after)) (sym (two_on at)))
  reaches (p.call {depth = limit} {level} {from} {at} {to} {scope} {between} {after} {function} {arguments = all} low a is b closes) least deep under ends =
      let by : growth_by (kind_at ts at) ≡ Some growth.Call = ap growth_by is in
      let l = reaches a least (omega arith) (omega arith) (allows_growth (tightness of.Postfix) (kind_at ts at) growth.Call by (omega arith)) in
      let f = expressions_found b (omega arith) (rw closes refl) (λ h. cc) in
      let small = f.low in
      let small_left = l.within in
      grows least limit level (tightness of.Postfix) from at (to + 1) scope between after function _ growth.Call l (max l.height f.height) (omega arith) by
      (omega arith) (omega arith) low (omega arith) (omega arith)
      (eq.call-is text ts depth inner from (node_found function l.height l.own (standing at between)) (standing to after) all f.height
      (eq.arguments-some text ts depth inner (standing (at + 1) between) (first_of_list b) ∙ f.is) closes)
  reaches (p.select {depth = limit} {level} {from} {at} {scope} {after} {operand} how low a is named) least deep under ends =
      let by : growth_by (kind_at ts at) ≡ Some (growth.Select how) = ap growth_by is ∙ eq.growth-selection how in
      let l = reaches a least (omega arith) (omega arith) (allows_growth (tightness of.Postfix) (kind_at ts at) (growth.Select how) by (omega arith)) in
      let small_left = l.within in
      grows least limit level (tightness of.Postfix) from at (at + 2) scope after after operand _ (growth.Select how) l l.height (omega arith) by
      (omega arith) (omega arith) low (omega arith) (omega arith)
      (eq.member-is text ts depth inner from (node_found operand l.height l.own (standing at after)) how named)
  reaches (p.postfix {depth = limit} {level} {from} {at} {scope} {after} {operand} op low a is) least deep under ends =
      let by : growth_by (kind_at ts at) ≡ Some (growth.Postfix op) = ap growth_by is ∙ eq.growth-postfix op in
      let l = reaches a least (omega arith) (omega arith) (allows_growth (tightness of.Postfix) (kind_at ts at) (growth.Postfix op) by (omega arith)) in
      let small_left = l.within in
      grows least limit level (tightness of.Postfix) from at (at + 1) scope after after operand _ (growth.Postfix op) l l.height (omega arith) by
      (omega arith) (omega arith) low (omega arith) (omega arith)
      (eq.postfix-is text ts depth inner from (node_found operand l.height l.own (standing at after)) op)
  reaches (p.prefix {depth = limit} {level} {from} {to} {scope} {after} {operand} op low is a) least deep under ends =
      let o = operand_within op in
      let l = levels (kind_at ts to) in
      let tied = ends.tied in
      let loose = l.operand (omega arith) in
      let f = last_part a (omega arith) ends.no_string (omega arith) in
      let small = f.low in
      first least (suc limit) level from to scope after _ f.height (tightness of.Unary) (omega arith) (omega arith) under low
      (eq.head-prefix text ts depth inner (standing from scope) (standing to after) op operand f.height is f.is)
  reaches (p.size_of {depth = limit} {level} {from} {to} {scope} {after} {operand} low is a) least deep under ends =
      let l = levels (kind_at ts to) in
      let tied = ends.tied in
      let loose = l.operand (omega arith) in
      let f = last_part a (omega arith) ends.no_string (omega arith) in
      let small = f.low in
      first least (suc limit) level from to scope after _ f.height (tightness of.Unary) (omega arith) (omega arith) under low
      (eq.head-size_of text ts depth inner (standing from scope) (standing to after) operand f.height is
      (λ opens. let none = no_cast text ts a (omega arith) opens in rw (two_on from) none) f.is)
  reaches (p.size_of_type {depth = limit} {level} {from} {to} {scope} {after} {type} low is opens named closes) least deep under ends =
      let f = type_found named (omega arith) closes in
      let small = f.low in
      first least (suc limit) level from (to + 1) scope after _ f.height (tightness of.Unary) (omega arith) (omega arith) under low
      (eq.head-size_of_type text ts depth inner (standing from scope) (standing to after) type f.height is opens (type_name_begins text ts named) f.is closes)
  reaches (p.cast_to {depth = limit} {level} {from} {at} {to} {scope} {between} {after} {type} {operand} low is named closes a) least deep under ends =
      let n = type_found named (omega arith) closes in
      let l = levels (kind_at ts to) in
      let tied = ends.tied in
      let loose = l.operand (omega arith) in
      let f = last_part a (omega arith) ends.no_string (omega arith) in
      let small = n.low in
      let small_operand = f.low in
      first least (suc limit) level from to scope after _ (max n.height f.height) (tightness of.Cast) (omega arith) (omega arith) under low
      (eq.head-cast text ts depth inner (standing from scope) (standing at between) (standing to after) type n.height operand f.height is
      (type_name_begins text ts named) n.is closes f.is)
  reaches (p.binary {depth = limit} {level} {from} {at} {to} {scope} {between} {after} {left} {right} op low a is b) least deep under ends =
      let l = levels (kind_at ts to) in
      let tied = ends.tied in
      let tight = l.tight in
      let by : growth_by (kind_at ts at) ≡ Some (growth.Binary op) = ap growth_by is ∙ eq.growth-binary op in
      let r = reaches a least (omega arith) (omega arith) (allows_growth (rank op) (kind_at ts at) (growth.Binary op) by (omega arith)) in
      let f = last_part b (omega arith) ends.no_string (omega arith) in
      let small = f.low in
      let small_left = r.within in
      grows least limit level (rank op) from at to scope between after left _ (growth.Binary op) r (max r.height f.height) (omega arith) by
      (omega arith) (omega arith) low (omega arith) (omega arith)
      (eq.binary-is text ts depth inner from (node_found left r.height r.own (standing at between)) op (standing to after) right f.height f.is)
  reaches (p.conditional {depth = limit} {level} {from} {at} {middle} {to} {scope} {one} {two} {after} {test} {then} {otherwise} low a is b also c) least deep under ends =
      let l = levels (kind_at ts to) in
      let tied = ends.tied in
      let loose = l.otherwise (omega arith) in
      let by : growth_by (kind_at ts at) ≡ Some growth.Conditional = ap growth_by is in
      let r = reaches a least (omega arith) (omega arith) (allows_growth (tightness of.LogicalOr) (kind_at ts at) growth.Conditional by (omega arith)) in
      let f = part_before (k.Mark mark.Colon) b (omega arith) also refl in
      let g = last_part c (omega arith) ends.no_string (omega arith) in
      let small = f.low in
      let small_last = g.low in
      let small_left = r.within in
      grows least limit level (tightness of.LogicalOr) from at to scope one after test _ growth.Conditional r (max r.height (max f.height g.height)) (omega arith) by
      (omega arith) (omega arith) low (omega arith) (omega arith)
      (eq.conditional-is text ts depth inner from (node_found test r.height r.own (standing at one)) (standing middle two) (standing to after)
      then otherwise f.height g.height f.is also g.is)
  reaches (p.assignment {depth = limit} {level} {from} {at} {to} {scope} {between} {after} {left} {right} op low a is b) least deep under ends =
      let l = levels (kind_at ts to) in
      let tied = ends.tied in
      let loose = l.value (omega arith) in
      let by : growth_by (kind_at ts at) ≡ Some (growth.Assign op) = ap growth_by is ∙ eq.growth-assignment op in
      let r = reaches a least (omega arith) (omega arith) (allows_growth (tightness of.Unary) (kind_at ts at) (growth.Assign op) by (omega arith)) in
      let f = last_part b (omega arith) ends.no_string (omega arith) in
      let small = f.low in
      let small_left = r.within in
      grows least limit level (tightness of.Unary) from at to scope between after left _ (growth.Assign op) r (max r.height f.height) (omega arith) by
      (omega arith) (omega arith) low (omega arith) (omega arith)
      (eq.assignment-is text ts depth inner from (node_found left r.height r.own (standing at between)) op (standing to after) right f.height f.is)
  reaches (p.comma {depth = limit} {level} {from} {at} {to} {scope} {between} {after} {first = one} {rest} low a is b) least deep under ends =
      let l = levels (kind_at ts to) in
      let tied = ends.tied in
      let none = l.none (omega arith) in
      let by : growth_by (kind_at ts at) ≡ Some growth.Comma = ap growth_by is in
      let r = reaches a least (omega arith) (omega arith) (allows_growth (tightness of.Assignment) (kind_at ts at) growth.Comma by (omega arith)) in
      let f = expressions_found b (omega arith) (ends_from (tightness of.Assignment) (kind_at ts to) ends.no_string (omega arith)) (no_comma (kind_at ts to) none) in
      let small = f.low in
      let small_left = r.within in
      grows least limit level (tightness of.Assignment) from at to scope between after one _ growth.Comma r (max r.height f.height) (omega arith) by
      (omega arith) (omega arith) low (omega arith) (omega arith)
      (eq.comma-is text ts depth inner from (node_found one r.height r.own (standing at between)) (standing to after) rest f.height f.is)

  -- what is derived one level deeper is read
  pub complete : CompleteExpression text ts (suc depth) (expression text ts depth inner)
  complete level limit s t node deep is ends =
      settled level limit s.at t.at s.scope t.scope node deep (binds_from level (kind_at ts t.at) ends)
      (reaches is level deep (omega arith) (allows_from level (kind_at ts t.at) ends))

none_at_depth_0 : (text : List ℕ) (ts : List Token) {limit level from to : ℕ} {scope after : Scope} {node : Expression} →
    IsExpression text ts limit level scope after from to node → 1 ≤ limit
none_at_depth_0 text ts (p.name low is other) = omega arith
none_at_depth_0 text ts _ = omega arith

pub none_complete : (text : List ℕ) (ts : List Token) → CompleteExpression text ts 0 no_expression
none_complete text ts level limit s t node deep is ends = let some = none_at_depth_0 text ts is in absurd (omega arith)
