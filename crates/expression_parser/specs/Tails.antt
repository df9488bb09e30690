-- What stands after an operand is read by itself, with the height of its highest part.
use Rattle.std.specs.Prelude.{ℕ, ◌+◌, max, List, Some}
use Rattle.c_tokens.specs.declared.kind.Kind.TheVariants as k
use Rattle.c_tokens.specs.declared.kind.Mark.TheVariants as mark
use Rattle.c_tokens.specs.declared.token.Token.{Token}
use Rattle.c_grammar.specs.declared.words.Level.TheVariants as of
use Rattle.c_grammar.specs.declared.words.Binary.{Binary}
use Rattle.c_grammar.specs.declared.words.Assignment.{Assignment}
use Rattle.c_grammar.specs.declared.words.Selection.{Selection}
use Rattle.c_grammar.specs.Operators.{tightness, rank}
use Rattle.grammar_descent.specs.declared.growing.Growth.{Growth}
use Rattle.grammar_descent.specs.declared.growing.Growth.TheVariants as growth
use Rattle.grammar_descent.specs.Reading.{Reading, ◌>>=◌, when, past, Readers}
use Rattle.grammar_descent.specs.ExpressionSteps.{expressions, arguments}
use Rattle.expression_nodes.specs.declared.tails.Tail.{Tail}
use Rattle.expression_nodes.specs.declared.tails.Tail.TheVariants as made
use Rattle.expression_parser.specs.Before.{before}

module _ (text : List ℕ) (ts : List Token) (depth : ℕ) (inner : Readers) where
  unfoldable pub index_tail : Reading (Tail × ℕ)
  index_tail s = before ts mark.RightBracket (inner.expression (tightness of.Comma)) (past s 1) >>= λ f. Some ((made.Index f.0.0, f.0.1), f.1)

  unfoldable pub call_tail : Reading (Tail × ℕ)
  call_tail s = before ts mark.RightParen (arguments text ts depth inner) (past s 1) >>= λ f. Some ((made.Call f.0.0, f.0.1), f.1)

  unfoldable pub member_tail : Selection → Reading (Tail × ℕ)
  member_tail how s = when ts (s.at + 1) k.Name (Some ((made.Select how (s.at + 1), 0), past s 2))

  unfoldable pub binary_tail : Binary → Reading (Tail × ℕ)
  binary_tail op s = inner.expression (rank op + 1) (past s 1) >>= λ f. Some ((made.Binary op f.0.0, f.0.1), f.1)

  unfoldable pub conditional_tail : Reading (Tail × ℕ)
  conditional_tail s = before ts mark.Colon (inner.expression (tightness of.Comma)) (past s 1) >>= λ a.
      inner.expression (tightness of.Conditional) a.1 >>= λ b. Some ((made.Conditional a.0.0 b.0.0, max a.0.1 b.0.1), b.1)

  unfoldable pub assignment_tail : Assignment → Reading (Tail × ℕ)
  assignment_tail op s = inner.expression (tightness of.Assignment) (past s 1) >>= λ f. Some ((made.Assign op f.0.0, f.0.1), f.1)

  unfoldable pub comma_tail : Reading (Tail × ℕ)
  comma_tail s = expressions text ts depth inner (past s 1) >>= λ f. Some ((made.Comma f.0.0, f.0.1), f.1)

  abbrev pub tail : Growth → Reading (Tail × ℕ)
  tail growth.Index s = index_tail s
  tail growth.Call s = call_tail s
  tail (growth.Select how) s = member_tail how s
  tail (growth.Postfix op) s = Some ((made.Postfix op, 0), past s 1)
  tail (growth.Binary op) s = binary_tail op s
  tail growth.Conditional s = conditional_tail s
  tail (growth.Assign op) s = assignment_tail op s
  tail growth.Comma s = comma_tail s
