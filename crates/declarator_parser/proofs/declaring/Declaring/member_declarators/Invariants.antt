use Rattle.std.proofs.Common.{◌≡◌, ◌<◌, ◌-◌, [], length}
use Rattle.grammar_descent.specs.SpecifierSteps.{declarators}
use Rattle.declarator_parser.specs.Below.{below}
use Rattle.declarator_parser.proofs.declaring.Declaring.member_declarators.Given as goal

abbrev pub invariant-loop-turn : goal.invariant-loop-turn
invariant-loop-turn g l = record {
  rest : declarators l.fn.reader.text l.fn.reader.tokens (below l.fn.reader.text l.fn.reader.tokens l.self.depth) (length l.fn.reader.tokens) [] 0 l.fn.reader.state
      ≡ declarators l.fn.reader.text l.fn.reader.tokens (below l.fn.reader.text l.fn.reader.tokens l.self.depth) (l._turn-end - l._turn) l.found l.high l.reader.state;
  text : l.reader.text ≡ l.fn.reader.text;
  tokens : l.reader.tokens ≡ l.fn.reader.tokens;
  texts : l.reader.texts ≡ l.fn.reader.texts;
  low : l.high < l.self.depth;
}
