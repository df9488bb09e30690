use Rattle.std.proofs.Common.{◌≡◌, ◌-◌, ◌∷◌, length, []}
use Rattle.grammar_descent.specs.AllReaders.{readers}
use Rattle.grammar_descent.specs.InitialiserSteps as step
use Rattle.c_parser.proofs.declarations.more_declarators.Given as goal

abbrev pub invariant-loop-turn : goal.invariant-loop-turn
invariant-loop-turn l = record {
  text : l.reader.text ≡ l.fn.reader.text;
  tokens : l.reader.tokens ≡ l.fn.reader.tokens;
  texts : l.reader.texts ≡ l.fn.reader.texts;
  same : step.more_declarators l.fn.reader.tokens (readers l.fn.reader.text l.fn.reader.tokens) l.depth l.kind (length l.fn.reader.tokens) (l.fn.first ∷ []) l.fn.reader.state ≡
      step.more_declarators l.fn.reader.tokens (readers l.fn.reader.text l.fn.reader.tokens) l.depth l.kind (l._turn-end - l._turn) l.found l.reader.state;
}
