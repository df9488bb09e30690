use Rattle.std.proofs.Common.{◌≡◌, ◌-◌, length, []}
use Rattle.grammar_descent.specs.AllReaders.{readers}
use Rattle.grammar_descent.specs.StatementSteps as step
use Rattle.c_parser.proofs.statements.Parts.items.Given as goal

abbrev pub invariant-loop-turn : goal.invariant-loop-turn
invariant-loop-turn g l = record {
  text : l.reader.text ≡ l.fn.reader.text;
  tokens : l.reader.tokens ≡ l.fn.reader.tokens;
  texts : l.reader.texts ≡ l.fn.reader.texts;
  same : step.items l.fn.reader.text l.fn.reader.tokens (readers l.fn.reader.text l.fn.reader.tokens) l.depth
      (step.statement l.fn.reader.text l.fn.reader.tokens (readers l.fn.reader.text l.fn.reader.tokens) l.depth) (length l.fn.reader.tokens) [] l.fn.reader.state ≡
      step.items l.fn.reader.text l.fn.reader.tokens (readers l.fn.reader.text l.fn.reader.tokens) l.depth
      (step.statement l.fn.reader.text l.fn.reader.tokens (readers l.fn.reader.text l.fn.reader.tokens) l.depth) (l._turn-end - l._turn) l.found l.reader.state;
}
