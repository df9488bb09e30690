use Rattle.std.proofs.Common.{◌≡◌, ◌-◌, length}
use Rattle.grammar_descent.specs.ExpressionSteps.{past_strings}
use Rattle.token_reader.specs.Reader.{moved}
use Rattle.expression_parser.proofs.heads.pass_strings.Given as goal

abbrev pub invariant-loop-turn : goal.invariant-loop-turn
invariant-loop-turn l = record {
  same : past_strings l.fn.reader.tokens (length l.fn.reader.tokens) l.fn.reader.state.at ≡
      past_strings l.fn.reader.tokens (l._turn-end - l._turn) l.reader.state.at;
  moved : l.reader ≡ moved l.fn.reader (record { at = l.reader.state.at; scope = l.fn.reader.state.scope });
}
