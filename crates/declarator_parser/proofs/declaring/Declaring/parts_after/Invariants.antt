use Rattle.std.proofs.Common.{◌≡◌, ◌-◌}
use Rattle.grammar_descent.specs.DeclaratorSteps.{parts_after}
use Rattle.token_reader.specs.Found.{spelled_declarator, HasSpelling}
use Rattle.declarator_parser.specs.Below.{below}
use Rattle.declarator_parser.proofs.declaring.Declaring.parts_after.Given as goal

abbrev pub invariant-loop-turn : goal.invariant-loop-turn
invariant-loop-turn g l = record {
  rest : parts_after l.fn.reader.text l.fn.reader.tokens (below l.fn.reader.text l.fn.reader.tokens l.self.depth) l.self.depth l.start l.self.depth (spelled_declarator l.fn.reader.texts l.fn.found) l.fn.reader.state
      ≡ parts_after l.fn.reader.text l.fn.reader.tokens (below l.fn.reader.text l.fn.reader.tokens l.self.depth) l.self.depth l.start (l._turn-end - l._turn) (spelled_declarator l.fn.reader.texts l.found) l.reader.state;
  text : l.reader.text ≡ l.fn.reader.text;
  tokens : l.reader.tokens ≡ l.fn.reader.tokens;
  texts : l.reader.texts ≡ l.fn.reader.texts;
  spelled : HasSpelling l.fn.reader.texts l.found;
}
