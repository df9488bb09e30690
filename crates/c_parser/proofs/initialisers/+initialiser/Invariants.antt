use Rattle.std.proofs.Common.{◌≡◌, ◌+◌, ◌-◌, ◌*◌, length, []}
use Rattle.grammar_descent.specs.AllReaders.{readers}
use Rattle.grammar_descent.specs.InitialiserSteps as step
use Rattle.c_parser.proofs.initialisers.+initialiser.Given as goal

abbrev pub decreases-initialiser : goal.decreases-initialiser
decreases-initialiser l = 3 * l.depth

abbrev pub decreases-braces : goal.decreases-braces
decreases-braces l = 3 * l.depth + 2

abbrev pub decreases-initialisers : goal.decreases-initialisers
decreases-initialisers l = 3 * l.depth + 1

abbrev pub invariant-initialisers-loop-turn : goal.invariant-initialisers-loop-turn
invariant-initialisers-loop-turn l = record {
  text : l.reader.text ≡ l.fn.reader.text;
  tokens : l.reader.tokens ≡ l.fn.reader.tokens;
  texts : l.reader.texts ≡ l.fn.reader.texts;
  same : step.initialisers l.fn.reader.tokens (readers l.fn.reader.text l.fn.reader.tokens) (step.initialiser l.fn.reader.tokens (readers l.fn.reader.text l.fn.reader.tokens) l.depth)
      (length l.fn.reader.tokens) [] l.fn.reader.state ≡
      step.initialisers l.fn.reader.tokens (readers l.fn.reader.text l.fn.reader.tokens) (step.initialiser l.fn.reader.tokens (readers l.fn.reader.text l.fn.reader.tokens) l.depth)
      (l._turn-end - l._turn) l.found l.reader.state;
}
