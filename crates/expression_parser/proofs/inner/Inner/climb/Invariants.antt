use Rattle.std.proofs.Common.{◌≡◌, suc, ◌-◌}
use Rattle.c_grammar.specs.Operators.{tightness}
use Rattle.grammar_descent.specs.AllReaders.{readers}
use Rattle.grammar_descent.specs.ExpressionSteps.{climb}
use Rattle.expression_parser.specs.Growing.{found}
use Rattle.expression_parser.proofs.inner.Inner.climb.Given as goal

abbrev pub invariant-loop-turn : goal.invariant-loop-turn
invariant-loop-turn g l = record {
  same : climb l.fn.reader.text l.fn.reader.tokens l.self.depth (readers l.fn.reader.text l.fn.reader.tokens l.self.depth) (tightness l.least) l.start (suc l.self.depth) (found l.fn.head l.fn.reader.state) ≡
      climb l.fn.reader.text l.fn.reader.tokens l.self.depth (readers l.fn.reader.text l.fn.reader.tokens l.self.depth) (tightness l.least) l.start (l._turn-end - l._turn) (found l.left l.reader.state);
  text : l.reader.text ≡ l.fn.reader.text;
  tokens : l.reader.tokens ≡ l.fn.reader.tokens;
  texts : l.reader.texts ≡ l.fn.reader.texts;
}
