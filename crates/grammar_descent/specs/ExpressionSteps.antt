-- Reading expressions: what begins one, and how it grows while the tokens go on with it.
use Rattle.std.specs.Prelude.{ℕ, zero, suc, ◌+◌, max, ◌&&◌, List, [], ◌∷◌, ◌++◌, length, Option, Some, None, nat_le, if◌then◌else◌}
use Rattle.c_tokens.specs.declared.kind.Keyword.TheVariants as word
use Rattle.c_tokens.specs.declared.kind.Mark.{Mark}
use Rattle.c_tokens.specs.declared.kind.Mark.TheVariants as mark
use Rattle.c_tokens.specs.declared.kind.Kind.{Kind}
use Rattle.c_tokens.specs.declared.kind.Kind.TheVariants as k
use Rattle.c_tokens.specs.declared.token.Token.{Token}
use Rattle.c_grammar.specs.declared.words.Binary.{Binary}
use Rattle.c_grammar.specs.declared.words.Binary.TheVariants as binary
use Rattle.c_grammar.specs.declared.words.Assignment.{Assignment}
use Rattle.c_grammar.specs.declared.words.Assignment.TheVariants as assignment
use Rattle.c_grammar.specs.declared.words.Prefix.{Prefix}
use Rattle.c_grammar.specs.declared.words.Prefix.TheVariants as prefix
use Rattle.c_grammar.specs.declared.words.Postfix.{Postfix}
use Rattle.c_grammar.specs.declared.words.Postfix.TheVariants as postfix
use Rattle.c_grammar.specs.declared.words.Selection.{Selection}
use Rattle.c_grammar.specs.declared.words.Selection.TheVariants as selection
use Rattle.c_grammar.specs.declared.phrases.Expression.{Expression}
use Rattle.c_grammar.specs.declared.phrases.Expression.TheVariants as e
use Rattle.c_grammar.specs.declared.phrases.TypePhrase.{TypePhrase}
use Rattle.c_grammar.specs.Tokens.{kind_at, place_at}
use Rattle.token_texts.specs.Names.{name_at}
use Rattle.c_grammar.specs.declared.words.Level.TheVariants as of
use Rattle.c_grammar.specs.declared.words.Naming.TheVariants as naming
use Rattle.c_grammar.specs.Operators.{tightness, rank, operand_level}
use Rattle.grammar_descent.specs.declared.growing.Growth.{Growth}
use Rattle.grammar_descent.specs.declared.growing.Growth.TheVariants as growth
use Rattle.grammar_descent.specs.Reading.{State, Reading, ◌>>=◌, sees, when, mark_at, past, Readers}
use Rattle.grammar_descent.specs.Types.{names_a_type, begins_specs}

-- the operator before an operand that the mark is, if it is one
abbrev pub prefix_of : Mark → Option Prefix
prefix_of mark.PlusPlus = Some prefix.Increment
prefix_of mark.MinusMinus = Some prefix.Decrement
prefix_of mark.And = Some prefix.Address
prefix_of mark.Star = Some prefix.Dereference
prefix_of mark.Plus = Some prefix.Plus
prefix_of mark.Minus = Some prefix.Minus
prefix_of mark.Tilde = Some prefix.Complement
prefix_of mark.Not = Some prefix.Not
prefix_of _ = None

-- how an expression grows before the mark, if it does
abbrev pub growth_by_mark : Mark → Option Growth
growth_by_mark mark.LeftBracket = Some growth.Index
growth_by_mark mark.LeftParen = Some growth.Call
growth_by_mark mark.Dot = Some (growth.Select selection.Direct)
growth_by_mark mark.Arrow = Some (growth.Select selection.ThroughPointer)
growth_by_mark mark.PlusPlus = Some (growth.Postfix postfix.Increment)
growth_by_mark mark.MinusMinus = Some (growth.Postfix postfix.Decrement)
growth_by_mark mark.OrOr = Some (growth.Binary binary.LogicalOr)
growth_by_mark mark.AndAnd = Some (growth.Binary binary.LogicalAnd)
growth_by_mark mark.Or = Some (growth.Binary binary.Or)
growth_by_mark mark.Caret = Some (growth.Binary binary.ExclusiveOr)
growth_by_mark mark.And = Some (growth.Binary binary.And)
growth_by_mark mark.EqualEqual = Some (growth.Binary binary.Equal)
growth_by_mark mark.NotEqual = Some (growth.Binary binary.NotEqual)
growth_by_mark mark.Less = Some (growth.Binary binary.Less)
growth_by_mark mark.Greater = Some (growth.Binary binary.Greater)
growth_by_mark mark.LessEqual = Some (growth.Binary binary.LessEqual)
growth_by_mark mark.GreaterEqual = Some (growth.Binary binary.GreaterEqual)
growth_by_mark mark.ShiftLeft = Some (growth.Binary binary.ShiftLeft)
growth_by_mark mark.ShiftRight = Some (growth.Binary binary.ShiftRight)
growth_by_mark mark.Plus = Some (growth.Binary binary.Add)
growth_by_mark mark.Minus = Some (growth.Binary binary.Subtract)
growth_by_mark mark.Star = Some (growth.Binary binary.Multiply)
growth_by_mark mark.Slash = Some (growth.Binary binary.Divide)
growth_by_mark mark.Percent = Some (growth.Binary binary.Remainder)
growth_by_mark mark.Question = Some growth.Conditional
growth_by_mark mark.Equal = Some (growth.Assign assignment.Plain)
growth_by_mark mark.StarEqual = Some (growth.Assign assignment.Multiply)
growth_by_mark mark.SlashEqual = Some (growth.Assign assignment.Divide)
growth_by_mark mark.PercentEqual = Some (growth.Assign assignment.Remainder)
growth_by_mark mark.PlusEqual = Some (growth.Assign assignment.Add)
growth_by_mark mark.MinusEqual = Some (growth.Assign assignment.Subtract)
growth_by_mark mark.ShiftLeftEqual = Some (growth.Assign assignment.ShiftLeft)
growth_by_mark mark.ShiftRightEqual = Some (growth.Assign assignment.ShiftRight)
growth_by_mark mark.AndEqual = Some (growth.Assign assignment.And)
growth_by_mark mark.CaretEqual = Some (growth.Assign assignment.ExclusiveOr)
growth_by_mark mark.OrEqual = Some (growth.Assign assignment.Or)
growth_by_mark mark.Comma = Some growth.Comma
growth_by_mark _ = None

abbrev pub growth_by : Option Kind → Option Growth
growth_by (Some (k.Mark m)) = growth_by_mark m
growth_by _ = None

-- how tightly binds what it makes
abbrev pub growth_level : Growth → ℕ
growth_level growth.Index = tightness of.Postfix
growth_level growth.Call = tightness of.Postfix
growth_level (growth.Select how) = tightness of.Postfix
growth_level (growth.Postfix op) = tightness of.Postfix
growth_level (growth.Binary op) = rank op
growth_level growth.Conditional = tightness of.Conditional
growth_level (growth.Assign op) = tightness of.Assignment
growth_level growth.Comma = tightness of.Comma

-- how tightly what grows so binds at least: an operator between two operands groups to the left, `?:` and assignments to the right
abbrev pub least_operand : Growth → ℕ
least_operand growth.Index = tightness of.Postfix
least_operand growth.Call = tightness of.Postfix
least_operand (growth.Select how) = tightness of.Postfix
least_operand (growth.Postfix op) = tightness of.Postfix
least_operand (growth.Binary op) = rank op
least_operand growth.Conditional = tightness of.LogicalOr
least_operand (growth.Assign op) = tightness of.Unary
least_operand growth.Comma = tightness of.Assignment

-- Of an expression of this level: whether it grows so, where one of the level `least` or a tighter one is read.
abbrev pub growth_within : ℕ → ℕ → Option Growth → Option Growth
growth_within least level (Some by) = if nat_le least (growth_level by) && nat_le (least_operand by) level then Some by else None
growth_within least level None = None

-- past string literals in a row
unfoldable pub past_strings : List Token → ℕ → ℕ → ℕ
past_strings ts zero at = at
past_strings ts (suc n) at = if sees ts at k.Str then past_strings ts n (at + 1) else at

-- an expression that was read, its height, how tightly it binds, and the state after it
pub record FoundExpression : Type 0 where
  pub node : Expression
  pub height : ℕ
  pub level : ℕ
  pub after : State

abbrev pub answer : FoundExpression → (Expression × ℕ) × State
answer f = ((f.node, f.height), f.after)

-- a node whose parts have this height: none where that is greater than the depth
abbrev pub node_within : ℕ → Expression → ℕ → ℕ → State → Option FoundExpression
node_within depth node high level after =
    if nat_le high depth then Some (record { node = node; height = high + 1; level = level; after = after }) else None

-- Readers of phrases no deeper than `depth` make the reader of expressions that are one deeper.
module _ (text : List ℕ) (ts : List Token) (depth : ℕ) (inner : Readers) where
  -- expressions with commas between them, after those that were found
  unfoldable pub more_expressions : ℕ → List Expression → ℕ → Reading (List Expression × ℕ)
  more_expressions zero found high s = None
  more_expressions (suc n) found high s = inner.expression (tightness of.Assignment) s >>= λ f.
      if mark_at ts f.1.at mark.Comma then more_expressions n (found ++ f.0.0 ∷ []) (max high f.0.1) (past f.1 1)
      else Some ((found ++ f.0.0 ∷ [], max high f.0.1), f.1)

  unfoldable pub expressions : Reading (List Expression × ℕ)
  expressions s = more_expressions (length ts) [] 0 s

  -- up to the parenthesis that closes a call
  unfoldable pub arguments : Reading (List Expression × ℕ)
  arguments s = if mark_at ts s.at mark.RightParen then Some (([], 0), s) else expressions s

  -- the name of a type
  unfoldable pub type_phrase : Reading (TypePhrase × ℕ)
  type_phrase s = inner.specs s >>= λ p. inner.declarator naming.NotNamed p.1 >>= λ q.
      Some ((record { place = place_at ts s.at; specs = p.0.0; declarator = q.0.node }, max p.0.2 q.0.height), q.1)

  -- ---- what begins an expression

  unfoldable pub name : State → Option FoundExpression
  name s = if names_a_type s.scope (name_at text ts s.at) then None
      else node_within depth (e.Name (place_at ts s.at)) 0 (tightness of.Primary) (past s 1)

  unfoldable pub strings : State → Option FoundExpression
  strings s = node_within depth (e.Strings (place_at ts s.at) (past_strings ts (length ts) (s.at + 1))) 0 (tightness of.Primary)
      (record { at = past_strings ts (length ts) (s.at + 1); scope = s.scope })

  unfoldable pub parentheses : State → Option FoundExpression
  parentheses s = inner.expression (tightness of.Comma) (past s 1) >>= λ f. when ts f.1.at (k.Mark mark.RightParen)
      (node_within depth (e.Parentheses (place_at ts s.at) f.0.0) f.0.1 (tightness of.Primary) (past f.1 1))

  unfoldable pub cast_to : State → Option FoundExpression
  cast_to s = type_phrase (past s 1) >>= λ n. when ts n.1.at (k.Mark mark.RightParen) (inner.expression (tightness of.Cast) (past n.1 1) >>= λ f.
      node_within depth (e.Cast (place_at ts s.at) n.0.0 f.0.0) (max n.0.1 f.0.1) (tightness of.Cast) f.1)

  unfoldable pub prefix_expression : Prefix → State → Option FoundExpression
  prefix_expression op s = inner.expression (tightness (operand_level op)) (past s 1) >>= λ f. node_within depth (e.Prefix (place_at ts s.at) op f.0.0) f.0.1 (tightness of.Unary) f.1

  unfoldable pub size_of_type : State → Option FoundExpression
  size_of_type s = type_phrase (past s 2) >>= λ n. when ts n.1.at (k.Mark mark.RightParen)
      (node_within depth (e.SizeOfType (place_at ts s.at) n.0.0) n.0.1 (tightness of.Unary) (past n.1 1))

  unfoldable pub size_of : State → Option FoundExpression
  size_of s = inner.expression (tightness of.Unary) (past s 1) >>= λ f. node_within depth (e.SizeOf (place_at ts s.at) f.0.0) f.0.1 (tightness of.Unary) f.1

  -- after `sizeof`, a parenthesis with specifiers after it begins the name of a type
  unfoldable pub sizeof_expression : State → Option FoundExpression
  sizeof_expression s = if mark_at ts (s.at + 1) mark.LeftParen && begins_specs text ts s.scope (s.at + 2) then size_of_type s else size_of s

  -- a parenthesis with specifiers after it begins a cast
  unfoldable pub cast_or_parentheses : State → Option FoundExpression
  cast_or_parentheses s = if begins_specs text ts s.scope (s.at + 1) then cast_to s else parentheses s

  abbrev pub prefix_by : Option Prefix → State → Option FoundExpression
  prefix_by (Some op) s = prefix_expression op s
  prefix_by None s = None

  abbrev pub head_by : Option Kind → State → Option FoundExpression
  head_by (Some k.Name) s = name s
  head_by (Some (k.Number value type)) s = node_within depth (e.Number (place_at ts s.at) value type) 0 (tightness of.Primary) (past s 1)
  head_by (Some (k.Char value)) s = node_within depth (e.Character (place_at ts s.at) value) 0 (tightness of.Primary) (past s 1)
  head_by (Some k.Str) s = strings s
  head_by (Some (k.Word word.Sizeof)) s = sizeof_expression s
  head_by (Some (k.Mark mark.LeftParen)) s = cast_or_parentheses s
  head_by (Some (k.Mark m)) s = prefix_by (prefix_of m) s
  head_by _ s = None

  unfoldable pub head : State → Option FoundExpression
  head s = head_by (kind_at ts s.at) s

  -- ---- how it grows: `start` is the token with which it begins

  unfoldable pub index_after : ℕ → FoundExpression → Option FoundExpression
  index_after start f = inner.expression (tightness of.Comma) (past f.after 1) >>= λ i. when ts i.1.at (k.Mark mark.RightBracket)
      (node_within depth (e.Index (place_at ts start) f.node i.0.0) (max f.height i.0.1) (tightness of.Postfix) (past i.1 1))

  unfoldable pub call_after : ℕ → FoundExpression → Option FoundExpression
  call_after start f = arguments (past f.after 1) >>= λ a. when ts a.1.at (k.Mark mark.RightParen)
      (node_within depth (e.Call (place_at ts start) f.node a.0.0) (max f.height a.0.1) (tightness of.Postfix) (past a.1 1))

  unfoldable pub member_after : Selection → ℕ → FoundExpression → Option FoundExpression
  member_after how start f = when ts (f.after.at + 1) k.Name
      (node_within depth (e.Select (place_at ts start) how f.node (f.after.at + 1)) f.height (tightness of.Postfix) (past f.after 2))

  unfoldable pub postfix_after : Postfix → ℕ → FoundExpression → Option FoundExpression
  postfix_after op start f = node_within depth (e.Postfix (place_at ts start) op f.node) f.height (tightness of.Postfix) (past f.after 1)

  unfoldable pub binary_after : Binary → ℕ → FoundExpression → Option FoundExpression
  binary_after op start f = inner.expression (rank op + 1) (past f.after 1) >>= λ r.
      node_within depth (e.Binary (place_at ts start) op f.node r.0.0) (max f.height r.0.1) (rank op) r.1

  unfoldable pub conditional_after : ℕ → FoundExpression → Option FoundExpression
  conditional_after start f = inner.expression (tightness of.Comma) (past f.after 1) >>= λ a. when ts a.1.at (k.Mark mark.Colon)
      (inner.expression (tightness of.Conditional) (past a.1 1) >>= λ b.
      node_within depth (e.Conditional (place_at ts start) f.node a.0.0 b.0.0) (max f.height (max a.0.1 b.0.1)) (tightness of.Conditional) b.1)

  unfoldable pub assignment_after : Assignment → ℕ → FoundExpression → Option FoundExpression
  assignment_after op start f = inner.expression (tightness of.Assignment) (past f.after 1) >>= λ r.
      node_within depth (e.Assign (place_at ts start) op f.node r.0.0) (max f.height r.0.1) (tightness of.Assignment) r.1

  unfoldable pub comma_after : ℕ → FoundExpression → Option FoundExpression
  comma_after start f = expressions (past f.after 1) >>= λ r.
      node_within depth (e.Comma (place_at ts start) (f.node ∷ r.0.0)) (max f.height r.0.1) (tightness of.Comma) r.1

  abbrev pub growth_after : Growth → ℕ → FoundExpression → Option FoundExpression
  growth_after growth.Index = index_after
  growth_after growth.Call = call_after
  growth_after (growth.Select how) = member_after how
  growth_after (growth.Postfix op) = postfix_after op
  growth_after (growth.Binary op) = binary_after op
  growth_after growth.Conditional = conditional_after
  growth_after (growth.Assign op) = assignment_after op
  growth_after growth.Comma = comma_after

  abbrev pub climb_by : (FoundExpression → Option FoundExpression) → ℕ → FoundExpression → Option Growth → Option FoundExpression
  climb_by again start f (Some by) = growth_after by start f >>= again
  climb_by again start f None = Some f

  -- An expression grows until no token goes on with it at the level `least`.
  unfoldable pub climb : ℕ → ℕ → ℕ → FoundExpression → Option FoundExpression
  climb least start zero f = None
  climb least start (suc n) f = climb_by (climb least start n) start f (growth_within least f.level (growth_by (kind_at ts f.after.at)))

  abbrev pub from_head : ℕ → ℕ → FoundExpression → Option FoundExpression
  from_head least start f = if nat_le least f.level then climb least start (suc depth) f else None

  unfoldable pub expression : ℕ → Reading (Expression × ℕ)
  expression least s = head s >>= from_head least s.at >>= λ f. Some (answer f)

-- no expression has depth 0
unfoldable pub no_expression : ℕ → Reading (Expression × ℕ)
no_expression least s = None
