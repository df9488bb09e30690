use Rattle.std.proofs.Common.{rules, arith}
use Rattle.std.proofs.lemmas.Grind.{common_steps}
use Rattle.grammar_descent.specs.ExpressionSteps.{past_strings}
use Rattle.token_reader.proofs.Turns.{one_more, no_more}
use Rattle.expression_parser.proofs.heads.pass_strings.Goals as goal

pub returns-then-not-sees : goal.returns-then-not-sees
unfolding past_strings
returns-then-not-sees c =
    let e = one_more (λ n. past_strings c.args.reader.now.tokens n c.loop-turn.reader.state.at) _ c.loop-turn._turn c.loop-turn-test.true c.loop-turn.invariant.same in
    first_of (search rules, grind (arith, common_steps))

pub loop-turn-preserved : goal.loop-turn-preserved
unfolding past_strings
loop-turn-preserved c =
    let e = one_more (λ n. past_strings c.args.reader.now.tokens n c.loop-turn.reader.state.at) _ c.loop-turn._turn c.loop-turn-test.true c.loop-turn.invariant.same in
    first_of (search rules, grind (arith, common_steps))

pub returns : goal.returns
unfolding past_strings
returns c =
    let e = no_more (λ n. past_strings c.args.reader.now.tokens n c.loop-turn.reader.state.at) _ c.loop-turn._turn c.loop-turn-test.false c.loop-turn.invariant.same in
    first_of (search rules, grind (arith, common_steps))
