use Rattle.std.proofs.Common.{◌≡◌, ◌+◌, ◌-◌, length, []}
use Rattle.grammar_descent.specs.AllReaders.{readers}
use Rattle.grammar_descent.specs.UnitSteps as step
use Rattle.c_parser.proofs.units.externals.Given as goal

abbrev pub invariant-loop-turn : goal.invariant-loop-turn
invariant-loop-turn l = record {
  text : l.reader.text ≡ l.fn.reader.text;
  tokens : l.reader.tokens ≡ l.fn.reader.tokens;
  texts : l.reader.texts ≡ l.fn.reader.texts;
  same : step.externals l.fn.reader.text l.fn.reader.tokens (readers l.fn.reader.text l.fn.reader.tokens) (length l.fn.reader.tokens + 1) [] l.fn.reader.state ≡
      step.externals l.fn.reader.text l.fn.reader.tokens (readers l.fn.reader.text l.fn.reader.tokens) (l._turn-end - l._turn) l.found l.reader.state;
}
