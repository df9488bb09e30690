-- Laws of the grammar of expressions, and of the scopes and marks in it.
use Rattle.std.proofs.Common.{◌≡◌, ℕ, zero, suc, ◌+◌, ◌≤◌, List, [], ◌++◌, Option, Some, None, refl, sym, ap, subst, ◌∙◌, arith, inl, inr, append_assoc}
use Rattle.std.proofs.lemmas.Bool.{cases_Bool}
use Rattle.c_tokens.specs.declared.kind.Mark.{Mark}
use Rattle.c_tokens.specs.declared.kind.Mark.TheVariants as mark
use Rattle.c_tokens.specs.declared.kind.Kind.{Kind}
use Rattle.c_tokens.specs.declared.kind.Kind.TheVariants as k
use Rattle.c_tokens.specs.declared.token.Token.{Token}
use Rattle.c_grammar.specs.declared.words.Prefix.{Prefix}
use Rattle.c_grammar.specs.declared.phrases.Expression.{Expression}
use Rattle.c_grammar.specs.Tokens as t
use Rattle.c_grammar.specs.Tokens.{kind_at, place_at, IsMark, IsWord, IsName, IsString, AreStrings}
use Rattle.c_grammar.specs.Scope.{Scope}
use Rattle.c_grammar.specs.Operators.{binary_mark, assignment_mark, prefix_mark, postfix_mark, selection_mark}
use Rattle.c_grammar.specs.Phrases as p
use Rattle.c_grammar.specs.Phrases.{IsExpression, AreExpressions, IsTypeName, IsDeclarator, whole}
use Rattle.grammar_descent.specs.declared.growing.Growth.{Growth}
use Rattle.grammar_descent.specs.declared.growing.Growth.TheVariants as growth
use Rattle.grammar_descent.specs.Reading.{sees}
use Rattle.grammar_descent.specs.Exact.{Grows}
use Rattle.grammar_descent.specs.ExpressionSteps.{prefix_of, growth_by_mark, growth_by, past_strings}
use Rattle.grammar_descent.proofs.Seen.{stands}

-- ---- scopes

pub grows-refl : (scope : Scope) → Grows scope scope
grows-refl scope = record { new = []; is = refl }

pub grows-trans : (one two three : Scope) → Grows one two → Grows two three → Grows one three
grows-trans one two three a b = record { new = b.new ++ a.new; is = b.is ∙ ap (λ l. b.new ++ l) a.is ∙ sym (append_assoc b.new a.new one) }

-- ---- marks

-- the mark that stands after what grows so
abbrev pub mark_of : Growth → Mark
mark_of growth.Index = mark.LeftBracket
mark_of growth.Call = mark.LeftParen
mark_of (growth.Select how) = selection_mark how
mark_of (growth.Postfix op) = postfix_mark op
mark_of (growth.Binary op) = binary_mark op
mark_of growth.Conditional = mark.Question
mark_of (growth.Assign op) = assignment_mark op
mark_of growth.Comma = mark.Comma

abbrev grows_by : Mark → Option Growth → Type 0
grows_by m (Some by) = m ≡ mark_of by
grows_by m None = m ≡ m

mark_grows : (m : Mark) → grows_by m (growth_by_mark m)
mark_grows mark.LeftBracket = refl
mark_grows _ = refl

pub growth_mark : (kind : Option Kind) (by : Growth) → growth_by kind ≡ Some by → kind ≡ Some (k.Mark (mark_of by))
growth_mark (Some (k.Mark m)) by h = ap (λ m. Some (k.Mark m)) (subst (grows_by m) h (mark_grows m))
growth_mark (Some k.Name) by h = absurd cc
growth_mark (Some _) by h = absurd cc
growth_mark None by h = absurd cc

abbrev pub prefixes_by : Mark → Option Prefix → Type 0
prefixes_by m (Some op) = m ≡ prefix_mark op
prefixes_by m None = m ≡ m

pub mark_prefixes : (m : Mark) → prefixes_by m (prefix_of m)
mark_prefixes mark.PlusPlus = refl
mark_prefixes _ = refl

module _ (text : List ℕ) (ts : List Token) where
  -- an expression at a level is one at each looser one
  pub lower : {depth level from to : ℕ} {scope after : Scope} {node : Expression} → IsExpression text ts depth level scope after from to node →
      (least : ℕ) → least ≤ level → IsExpression text ts depth least scope after from to node
  lower (p.name low is other) least h = p.name (omega arith) is other
  lower (p.number low is) least h = p.number (omega arith) is
  lower (p.character low is) least h = p.character (omega arith) is
  lower (p.strings low all) least h = p.strings (omega arith) all
  lower (p.parentheses low is a closes) least h = p.parentheses (omega arith) is a closes
  lower (p.index low a is b closes) least h = p.index (omega arith) a is b closes
  lower (p.call_without low a is closes) least h = p.call_without (omega arith) a is closes
  lower (p.call low a is all closes) least h = p.call (omega arith) a is all closes
  lower (p.select how low a is named) least h = p.select how (omega arith) a is named
  lower (p.postfix op low a is) least h = p.postfix op (omega arith) a is
  lower (p.prefix op low is a) least h = p.prefix op (omega arith) is a
  lower (p.size_of low is a) least h = p.size_of (omega arith) is a
  lower (p.size_of_type low is opens type closes) least h = p.size_of_type (omega arith) is opens type closes
  lower (p.cast_to low is type closes a) least h = p.cast_to (omega arith) is type closes a
  lower (p.binary op low a is b) least h = p.binary op (omega arith) a is b
  lower (p.conditional low a is b also c) least h = p.conditional (omega arith) a is b also c
  lower (p.assignment op low a is b) least h = p.assignment op (omega arith) a is b
  lower (p.comma low a is all) least h = p.comma (omega arith) a is all

  pub strings_read : (n at : ℕ) → IsString ts at → AreStrings ts at (past_strings ts n (at + 1))
  unfolding past_strings
  strings_read zero at is = t.last is
  strings_read (suc n) at is = elim (cases_Bool (sees ts (at + 1) k.Str)) [
    | inl y ↦ rw y (t.more is (strings_read n (at + 1) (stands ts (at + 1) k.Str y)))
    | inr n ↦ rw n (t.last is)
  ]
