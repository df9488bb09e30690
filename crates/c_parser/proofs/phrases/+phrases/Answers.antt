use Rattle.std.proofs.Common.{arith}
use Rattle.c_grammar.specs.Operators.{tightness}
use Rattle.c_parser.proofs.Knot.{none_at_zero, one_deeper}
use Rattle.c_parser.proofs.phrases.+phrases.Goals as goal

pub expression-returns-then-depth-eq0 : goal.expression-returns-then-depth-eq0
expression-returns-then-depth-eq0 t c = none_at_zero c.args.depth (tightness c.args.level) c.args.reader.now c.refuse.result (omega arith)

pub expression-returns : goal.expression-returns
expression-returns t c = one_deeper c.args.depth (tightness c.args.level) _ _ _ (omega arith) c.expression_step.ensures
