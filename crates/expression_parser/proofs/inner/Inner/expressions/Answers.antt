use Rattle.std.proofs.Common.{rules, arith}
use Rattle.std.proofs.lemmas.Grind.{common_steps}
use Rattle.grammar_descent.specs.AllReaders.{readers}
use Rattle.grammar_descent.specs.ExpressionSteps.{more_expressions, expressions}
use Rattle.token_reader.proofs.Turns.{one_more, no_more}
use Rattle.expression_parser.proofs.inner.Inner.expressions.Goals as goal

pub loop-turn-init : goal.loop-turn-init
unfolding expressions
loop-turn-init g c = first_of (search rules, grind (arith, common_steps))

pub returns-in_err-item : goal.returns-in_err-item
unfolding more_expressions
returns-in_err-item g c =
    let e = one_more (λ n. more_expressions c.args.reader.now.text c.args.reader.now.tokens c.args.self.now.depth (readers c.args.reader.now.text c.args.reader.now.tokens c.args.self.now.depth) n c.loop-turn.found c.loop-turn.high c.loop-turn.reader.state) _ c.loop-turn._turn c.loop-turn-test.true c.loop-turn.invariant.same in
    first_of (search rules, grind (arith, common_steps))

pub returns-then-not-sees_mark : goal.returns-then-not-sees_mark
unfolding more_expressions
returns-then-not-sees_mark g c =
    let e = one_more (λ n. more_expressions c.args.reader.now.text c.args.reader.now.tokens c.args.self.now.depth (readers c.args.reader.now.text c.args.reader.now.tokens c.args.self.now.depth) n c.loop-turn.found c.loop-turn.high c.loop-turn.reader.state) _ c.loop-turn._turn c.loop-turn-test.true c.loop-turn.invariant.same in
    first_of (search rules, grind (arith, common_steps))

pub loop-turn-preserved : goal.loop-turn-preserved
unfolding more_expressions
loop-turn-preserved g c =
    let e = one_more (λ n. more_expressions c.args.reader.now.text c.args.reader.now.tokens c.args.self.now.depth (readers c.args.reader.now.text c.args.reader.now.tokens c.args.self.now.depth) n c.loop-turn.found c.loop-turn.high c.loop-turn.reader.state) _ c.loop-turn._turn c.loop-turn-test.true c.loop-turn.invariant.same in
    first_of (search rules, grind (arith, common_steps))

pub returns : goal.returns
unfolding more_expressions
returns g c =
    let e = no_more (λ n. more_expressions c.args.reader.now.text c.args.reader.now.tokens c.args.self.now.depth (readers c.args.reader.now.text c.args.reader.now.tokens c.args.self.now.depth) n c.loop-turn.found c.loop-turn.high c.loop-turn.reader.state) _ c.loop-turn._turn c.loop-turn-test.false c.loop-turn.invariant.same in
    first_of (search rules, grind (arith, common_steps))
