use Rattle.std.proofs.Common.{◌≡◌, ◌-◌, [], length}
use Rattle.grammar_descent.specs.DeclaratorSteps.{qualifiers}
use Rattle.declarator_parser.proofs.declarators.qualifiers.Given as goal

abbrev pub invariant-loop-turn : goal.invariant-loop-turn
invariant-loop-turn l = record {
  rest : qualifiers l.fn.reader.tokens (length l.fn.reader.tokens) [] l.fn.reader.state ≡ qualifiers l.fn.reader.tokens (l._turn-end - l._turn) l.found l.reader.state;
  text : l.reader.text ≡ l.fn.reader.text;
  tokens : l.reader.tokens ≡ l.fn.reader.tokens;
  texts : l.reader.texts ≡ l.fn.reader.texts;
}
