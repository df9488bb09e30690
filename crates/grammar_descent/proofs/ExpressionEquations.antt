-- The steps of the reader of expressions, where they go on.
use Rattle.std.proofs.Common.{◌≡◌, ◌≢◌, ℕ, zero, suc, ◌+◌, ◌≤◌, max, Bool, true, false, List, [], ◌∷◌, ◌++◌, length, Option, Some, None, refl, ◌∙◌, arith}
use lib.IntN.{ℤ}
use Rattle.c_tokens.specs.declared.kind.Keyword.TheVariants as word
use Rattle.c_tokens.specs.declared.kind.Mark.TheVariants as mark
use Rattle.c_tokens.specs.declared.kind.NumType.{NumType}
use Rattle.c_tokens.specs.declared.kind.Kind.TheVariants as k
use Rattle.c_tokens.specs.declared.token.Token.{Token}
use Rattle.c_grammar.specs.declared.words.Naming.TheVariants as naming
use Rattle.c_grammar.specs.declared.words.Level.TheVariants as of
use Rattle.c_grammar.specs.declared.words.Binary.{Binary}
use Rattle.c_grammar.specs.declared.words.Binary.TheVariants as binary
use Rattle.c_grammar.specs.declared.words.Assignment.{Assignment}
use Rattle.c_grammar.specs.declared.words.Assignment.TheVariants as assignment
use Rattle.c_grammar.specs.declared.words.Prefix.{Prefix}
use Rattle.c_grammar.specs.declared.words.Prefix.TheVariants as prefix
use Rattle.c_grammar.specs.declared.words.Postfix.{Postfix}
use Rattle.c_grammar.specs.declared.words.Postfix.TheVariants as postfix
use Rattle.c_grammar.specs.declared.words.Selection.{Selection}
use Rattle.c_grammar.specs.declared.words.Selection.TheVariants as selection
use Rattle.c_grammar.specs.declared.phrases.Expression.{Expression}
use Rattle.c_grammar.specs.declared.phrases.Expression.TheVariants as e
use Rattle.c_grammar.specs.declared.phrases.TypePhrase.{TypePhrase}
use Rattle.c_grammar.specs.declared.phrases.Specs.{Specs}
use Rattle.c_grammar.specs.declared.phrases.Declarator.{Declarator}
use Rattle.c_grammar.specs.Tokens as t
use Rattle.c_tokens.specs.Names.{Name}
use Rattle.token_texts.specs.Names.{name_at}
use Rattle.c_grammar.specs.Tokens.{kind_at, place_at, IsMark, IsWord, IsName, AreStrings}
use Rattle.c_grammar.specs.Words.{Role}
use Rattle.c_grammar.specs.Scope.{Scope}
use Rattle.c_grammar.specs.Operators.{rank, operand_level, binary_mark, assignment_mark, prefix_mark, postfix_mark, selection_mark, tightness}
use Rattle.grammar_descent.specs.declared.growing.Growth.{Growth}
use Rattle.grammar_descent.specs.declared.growing.Growth.TheVariants as growth
use Rattle.grammar_descent.specs.Reading.{State, sees, past, Readers}
use Rattle.grammar_descent.specs.Follow.{is_string}
use Rattle.grammar_descent.specs.Types.{names_a_type, begins_specs}
use Rattle.grammar_descent.specs.ExpressionSteps.{growth_by, growth_level, least_operand, past_strings, FoundExpression, node_within, more_expressions, expressions, arguments, type_phrase, name, strings, parentheses, cast_to, prefix_expression, size_of_type, size_of, sizeof_expression, cast_or_parentheses, head, head_by, index_after, call_after, member_after, postfix_after, binary_after, conditional_after, assignment_after, comma_after, growth_after, climb}
use Rattle.grammar_descent.proofs.States.{as_found}
use Rattle.grammar_descent.proofs.Seen.{here, not_here, stands, le_true, le_false}
use Rattle.grammar_descent.proofs.Levels.{binds, binds_by}
use Rattle.grammar_descent.proofs.Moves.{strings_move}

-- ---- marks

pub growth-binary : (op : Binary) → growth_by (Some (k.Mark (binary_mark op))) ≡ Some (growth.Binary op)
growth-binary binary.LogicalOr = refl
growth-binary _ = refl

pub growth-assignment : (op : Assignment) → growth_by (Some (k.Mark (assignment_mark op))) ≡ Some (growth.Assign op)
growth-assignment assignment.Plain = refl
growth-assignment _ = refl

pub growth-postfix : (op : Postfix) → growth_by (Some (k.Mark (postfix_mark op))) ≡ Some (growth.Postfix op)
growth-postfix postfix.Increment = refl
growth-postfix postfix.Decrement = refl

pub growth-selection : (how : Selection) → growth_by (Some (k.Mark (selection_mark how))) ≡ Some (growth.Select how)
growth-selection selection.Direct = refl
growth-selection selection.ThroughPointer = refl

abbrev pub node_found : Expression → ℕ → ℕ → State → FoundExpression
node_found node height level after = record { node = node; height = height; level = level; after = after }

-- ---- strings

pub past_strings-is : (ts : List Token) {from to : ℕ} → AreStrings ts from to → (n : ℕ) → to ≤ n + from + 1 → is_string (kind_at ts to) ≡ false →
    past_strings ts n (from + 1) ≡ to
unfolding past_strings
past_strings-is ts (t.last {at} is) zero room ends = refl
past_strings-is ts (t.last {at} is) (suc n) room ends = rw (not_here ts (at + 1) k.Str (λ h. cc)) refl
past_strings-is ts (t.more {from} {to} is rest) zero room ends = let i = strings_move ts rest in absurd (omega arith)
past_strings-is ts (t.more {from} {to} is rest) (suc n) room ends = rw (here ts (from + 1) k.Str (first ts rest)) (past_strings-is ts rest n (omega arith) ends)
  where
    first : (ts : List Token) {from to : ℕ} → AreStrings ts from to → kind_at ts from ≡ Some k.Str
    first ts (t.last is) = is
    first ts (t.more is rest) = is

module _ (text : List ℕ) (ts : List Token) (depth : ℕ) (inner : Readers) where
  pub made-is : (node : Expression) (high level : ℕ) (after : State) → high ≤ depth → node_within depth node high level after ≡ Some (node_found node (high + 1) level after)
  made-is node high level after low = rw (le_true _ _ low) refl

  -- ---- what begins an expression

  pub head-name : (s : State) → IsName ts s.at → names_a_type s.scope (name_at text ts s.at) ≡ false →
      head text ts depth inner s ≡ node_within depth (e.Name (place_at ts s.at)) 0 (tightness of.Primary) (past s 1)
  unfolding head name
  head-name s is other = rw (is, other) refl

  pub head-number : (s : State) (value : ℕ) (type : NumType) → kind_at ts s.at ≡ Some (k.Number value type) →
      head text ts depth inner s ≡ node_within depth (e.Number (place_at ts s.at) value type) 0 (tightness of.Primary) (past s 1)
  unfolding head
  head-number s value type is = rw is refl

  pub head-character : (s : State) (value : ℤ) → kind_at ts s.at ≡ Some (k.Char value) →
      head text ts depth inner s ≡ node_within depth (e.Character (place_at ts s.at) value) 0 (tightness of.Primary) (past s 1)
  unfolding head
  head-character s value is = rw is refl

  pub head-strings : (s : State) (to : ℕ) → kind_at ts s.at ≡ Some k.Str → past_strings ts (length ts) (s.at + 1) ≡ to →
      head text ts depth inner s ≡ node_within depth (e.Strings (place_at ts s.at) to) 0 (tightness of.Primary) (record { at = to; scope = s.scope })
  unfolding head strings
  head-strings s to is all = rw (is, all) refl

  pub head-parentheses : (s t : State) (node : Expression) (height : ℕ) → IsMark ts s.at mark.LeftParen → begins_specs text ts s.scope (s.at + 1) ≡ false →
      inner.expression (tightness of.Comma) (past s 1) ≡ Some ((node, height), t) → IsMark ts t.at mark.RightParen →
      head text ts depth inner s ≡ node_within depth (e.Parentheses (place_at ts s.at) node) height (tightness of.Primary) (past t 1)
  unfolding head cast_or_parentheses parentheses
  head-parentheses s t node height is other found closes = rw (is, other, found, here ts t.at (k.Mark mark.RightParen) closes) refl

  pub head-cast : (s t u : State) (type : TypePhrase) (low : ℕ) (node : Expression) (height : ℕ) → IsMark ts s.at mark.LeftParen →
      begins_specs text ts s.scope (s.at + 1) ≡ true → type_phrase text ts depth inner (past s 1) ≡ Some ((type, low), t) → IsMark ts t.at mark.RightParen →
      inner.expression (tightness of.Cast) (past t 1) ≡ Some ((node, height), u) →
      head text ts depth inner s ≡ node_within depth (e.Cast (place_at ts s.at) type node) (max low height) (tightness of.Cast) u
  unfolding head cast_or_parentheses cast_to
  head-cast s t u type low node height is known named closes found = rw (is, known, named, here ts t.at (k.Mark mark.RightParen) closes, found) refl

  prefix-mark : (op : Prefix) (s : State) → head_by text ts depth inner (Some (k.Mark (prefix_mark op))) s ≡ prefix_expression text ts depth inner op s
  prefix-mark prefix.Increment s = refl
  prefix-mark _ s = refl

  pub head-prefix : (s t : State) (op : Prefix) (node : Expression) (height : ℕ) → IsMark ts s.at (prefix_mark op) →
      inner.expression (tightness (operand_level op)) (past s 1) ≡ Some ((node, height), t) →
      head text ts depth inner s ≡ node_within depth (e.Prefix (place_at ts s.at) op node) height (tightness of.Unary) t
  unfolding head prefix_expression
  head-prefix s t op node height is found = rw is (prefix-mark op s ∙ rw found refl)

  pub head-size_of : (s t : State) (node : Expression) (height : ℕ) → IsWord ts s.at word.Sizeof →
      (IsMark ts (s.at + 1) mark.LeftParen → begins_specs text ts s.scope (s.at + 2) ≡ false) →
      inner.expression (tightness of.Unary) (past s 1) ≡ Some ((node, height), t) →
      head text ts depth inner s ≡ node_within depth (e.SizeOf (place_at ts s.at) node) height (tightness of.Unary) t
  unfolding head sizeof_expression size_of
  head-size_of s t node height is other found = rw is (by_test (sees ts (s.at + 1) (k.Mark mark.LeftParen)) refl)
    where
      by_test : (b : Bool) → sees ts (s.at + 1) (k.Mark mark.LeftParen) ≡ b → sizeof_expression text ts depth inner s ≡ node_within depth (e.SizeOf (place_at ts s.at) node) height (tightness of.Unary) t
      by_test true h = rw (h, other (stands ts (s.at + 1) (k.Mark mark.LeftParen) h), found) refl
      by_test false h = rw (h, found) refl

  pub head-size_of_type : (s t : State) (type : TypePhrase) (height : ℕ) → IsWord ts s.at word.Sizeof → IsMark ts (s.at + 1) mark.LeftParen →
      begins_specs text ts s.scope (s.at + 2) ≡ true → type_phrase text ts depth inner (past s 2) ≡ Some ((type, height), t) → IsMark ts t.at mark.RightParen →
      head text ts depth inner s ≡ node_within depth (e.SizeOfType (place_at ts s.at) type) height (tightness of.Unary) (past t 1)
  unfolding head sizeof_expression size_of_type
  head-size_of_type s t type height is opens known named closes =
      rw (is, here ts (s.at + 1) (k.Mark mark.LeftParen) opens, known, named, here ts t.at (k.Mark mark.RightParen) closes) refl

  -- ---- lists

  pub items-last : (n : ℕ) (found : List Expression) (high : ℕ) (s t : State) (node : Expression) (height : ℕ) →
      inner.expression (tightness of.Assignment) s ≡ Some ((node, height), t) → kind_at ts t.at ≢ Some (k.Mark mark.Comma) →
      more_expressions text ts depth inner (suc n) found high s ≡ Some ((found ++ node ∷ [], max high height), t)
  unfolding more_expressions
  items-last n found high s t node height is ends = rw (is, not_here ts t.at (k.Mark mark.Comma) ends) refl

  pub items-more : (n : ℕ) (found : List Expression) (high : ℕ) (s t : State) (node : Expression) (height : ℕ) →
      inner.expression (tightness of.Assignment) s ≡ Some ((node, height), t) → IsMark ts t.at mark.Comma →
      more_expressions text ts depth inner (suc n) found high s ≡ more_expressions text ts depth inner n (found ++ node ∷ []) (max high height) (past t 1)
  unfolding more_expressions
  items-more n found high s t node height is comma = rw (is, here ts t.at (k.Mark mark.Comma) comma) refl

  pub list-is : (s : State) → expressions text ts depth inner s ≡ more_expressions text ts depth inner (length ts) [] 0 s
  unfolding expressions
  list-is s = refl

  pub arguments-none : (s : State) → IsMark ts s.at mark.RightParen → arguments text ts depth inner s ≡ Some (([], 0), s)
  unfolding arguments
  arguments-none s is = rw (here ts s.at (k.Mark mark.RightParen) is) refl

  pub arguments-some : (s : State) → kind_at ts s.at ≢ Some (k.Mark mark.RightParen) → arguments text ts depth inner s ≡ expressions text ts depth inner s
  unfolding arguments
  arguments-some s other = rw (not_here ts s.at (k.Mark mark.RightParen) other) refl

  pub type_name-is : (s t u : State) (held : Specs) (roles : List Role) (low : ℕ) (declarator : Declarator) (named : Option Name) (own : Option Scope)
      (height : ℕ) → inner.specs s ≡ Some ((held, roles, low), t) → inner.declarator naming.NotNamed t ≡ Some (as_found declarator named own height, u) →
      type_phrase text ts depth inner s ≡ Some ((record { place = place_at ts s.at; specs = held; declarator = declarator }, max low height), u)
  unfolding type_phrase
  type_name-is s t u held roles low declarator named own height a b = rw (a, b) refl

  -- ---- how it grows

  module _ (start : ℕ) (f : FoundExpression) where
    pub index-is : (t : State) (place : Expression) (height : ℕ) → inner.expression (tightness of.Comma) (past f.after 1) ≡ Some ((place, height), t) →
        IsMark ts t.at mark.RightBracket →
        growth_after text ts depth inner growth.Index start f ≡ node_within depth (e.Index (place_at ts start) f.node place) (max f.height height) (tightness of.Postfix) (past t 1)
    unfolding index_after
    index-is t place height found closes = rw (found, here ts t.at (k.Mark mark.RightBracket) closes) refl

    pub call-is : (t : State) (all : List Expression) (height : ℕ) → arguments text ts depth inner (past f.after 1) ≡ Some ((all, height), t) →
        IsMark ts t.at mark.RightParen →
        growth_after text ts depth inner growth.Call start f ≡ node_within depth (e.Call (place_at ts start) f.node all) (max f.height height) (tightness of.Postfix) (past t 1)
    unfolding call_after
    call-is t all height found closes = rw (found, here ts t.at (k.Mark mark.RightParen) closes) refl

    pub member-is : (how : Selection) → IsName ts (f.after.at + 1) →
        growth_after text ts depth inner (growth.Select how) start f
        ≡ node_within depth (e.Select (place_at ts start) how f.node (f.after.at + 1)) f.height (tightness of.Postfix) (past f.after 2)
    unfolding member_after
    member-is how named = rw (here ts (f.after.at + 1) k.Name named) refl

    pub postfix-is : (op : Postfix) →
        growth_after text ts depth inner (growth.Postfix op) start f ≡ node_within depth (e.Postfix (place_at ts start) op f.node) f.height (tightness of.Postfix) (past f.after 1)
    unfolding postfix_after
    postfix-is op = refl

    pub binary-is : (op : Binary) (t : State) (right : Expression) (height : ℕ) → inner.expression (rank op + 1) (past f.after 1) ≡ Some ((right, height), t) →
        growth_after text ts depth inner (growth.Binary op) start f ≡ node_within depth (e.Binary (place_at ts start) op f.node right) (max f.height height) (rank op) t
    unfolding binary_after
    binary-is op t right height found = rw found refl

    pub conditional-is : (t u : State) (then otherwise : Expression) (low height : ℕ) → inner.expression (tightness of.Comma) (past f.after 1) ≡ Some ((then, low), t) →
        IsMark ts t.at mark.Colon → inner.expression (tightness of.Conditional) (past t 1) ≡ Some ((otherwise, height), u) →
        growth_after text ts depth inner growth.Conditional start f
        ≡ node_within depth (e.Conditional (place_at ts start) f.node then otherwise) (max f.height (max low height)) (tightness of.Conditional) u
    unfolding conditional_after
    conditional-is t u then otherwise low height first colon second = rw (first, here ts t.at (k.Mark mark.Colon) colon, second) refl

    pub assignment-is : (op : Assignment) (t : State) (right : Expression) (height : ℕ) → inner.expression (tightness of.Assignment) (past f.after 1) ≡ Some ((right, height), t) →
        growth_after text ts depth inner (growth.Assign op) start f ≡ node_within depth (e.Assign (place_at ts start) op f.node right) (max f.height height) (tightness of.Assignment) t
    unfolding assignment_after
    assignment-is op t right height found = rw found refl

    pub comma-is : (t : State) (rest : List Expression) (height : ℕ) → expressions text ts depth inner (past f.after 1) ≡ Some ((rest, height), t) →
        growth_after text ts depth inner growth.Comma start f ≡ node_within depth (e.Comma (place_at ts start) (f.node ∷ rest)) (max f.height height) (tightness of.Comma) t
    unfolding comma_after
    comma-is t rest height found = rw found refl

  -- ---- turns

  pub climb-stops : (least : ℕ) (start : ℕ) (n : ℕ) (f : FoundExpression) → binds (kind_at ts f.after.at) ≤ least → climb text ts depth inner least start (suc n) f ≡ Some f
  unfolding climb binds
  climb-stops least start n f h = by_growth (growth_by (kind_at ts f.after.at)) refl h
    where
      by_growth : (by : Option Growth) → growth_by (kind_at ts f.after.at) ≡ by → binds_by by ≤ least → climb text ts depth inner least start (suc n) f ≡ Some f
      by_growth (Some by) is h = rw (is, le_false least (growth_level by) (omega arith)) refl
      by_growth None is h = rw is refl

  pub climb-goes_on : (least : ℕ) (start : ℕ) (n : ℕ) (f g : FoundExpression) (by : Growth) → growth_by (kind_at ts f.after.at) ≡ Some by → least ≤ growth_level by → least_operand by ≤ f.level →
      growth_after text ts depth inner by start f ≡ Some g → climb text ts depth inner least start (suc n) f ≡ climb text ts depth inner least start n g
  unfolding climb
  climb-goes_on least start n f g by is low high found = rw (is, le_true _ _ low, le_true _ _ high, found) refl
