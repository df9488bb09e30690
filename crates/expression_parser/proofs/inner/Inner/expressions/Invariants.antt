use Rattle.std.proofs.Common.{◌≡◌, ◌-◌}
use Rattle.grammar_descent.specs.AllReaders.{readers}
use Rattle.grammar_descent.specs.ExpressionSteps.{more_expressions, expressions}
use Rattle.expression_parser.proofs.inner.Inner.expressions.Given as goal

abbrev pub invariant-loop-turn : goal.invariant-loop-turn
invariant-loop-turn g l = record {
  same : expressions l.fn.reader.text l.fn.reader.tokens l.self.depth (readers l.fn.reader.text l.fn.reader.tokens l.self.depth) l.fn.reader.state ≡
      more_expressions l.fn.reader.text l.fn.reader.tokens l.self.depth (readers l.fn.reader.text l.fn.reader.tokens l.self.depth) (l._turn-end - l._turn) l.found l.high l.reader.state;
  text : l.reader.text ≡ l.fn.reader.text;
  tokens : l.reader.tokens ≡ l.fn.reader.tokens;
  texts : l.reader.texts ≡ l.fn.reader.texts;
}
