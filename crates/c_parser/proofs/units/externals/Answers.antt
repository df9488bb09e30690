use Rattle.std.proofs.Common.{◌≡◌, ◌+◌, ◌-◌, ◌==◌, true, false, length, rules, arith}
use Rattle.std.proofs.lemmas.Grind.{common_steps}
use Rattle.grammar_descent.specs.AllReaders.{readers}
use Rattle.grammar_descent.specs.UnitSteps as step
use Rattle.token_reader.proofs.Turns.{one_more, no_more}
use Rattle.token_reader.proofs.Reading.{found, none}
use Rattle.c_parser.proofs.UnitSteps as s
use Rattle.c_parser.proofs.units.externals.Goals as goal

pub returns-then-at-tokens_len : goal.returns-then-at-tokens_len
returns-then-at-tokens_len c =
    let text = c.args.reader.now.text in
    let ts = c.args.reader.now.tokens in
    let e = one_more (λ n. step.externals text ts (readers text ts) n c.loop-turn.found c.loop-turn.reader.state) _ c.loop-turn._turn c.loop-turn-test.true c.loop-turn.invariant.same in
    let a : (c.loop-turn.reader.state.at == length ts) ≡ true = first_of (search rules, grind (arith, common_steps)) in
    let ends = s.externals-end text ts (readers text ts) (length ts + 1 - (c.loop-turn._turn + 1)) c.loop-turn.found c.loop-turn.reader.state a in
    first_of (search rules, grind (arith, common_steps))

pub returns-in_err-external : goal.returns-in_err-external
returns-in_err-external c =
    let text = c.args.reader.now.text in
    let ts = c.args.reader.now.tokens in
    let e = one_more (λ n. step.externals text ts (readers text ts) n c.loop-turn.found c.loop-turn.reader.state) _ c.loop-turn._turn c.loop-turn-test.true c.loop-turn.invariant.same in
    let a : (c.loop-turn.reader.state.at == length ts) ≡ false = first_of (search rules, grind (arith, common_steps)) in
    let gone = none (λ text ts. step.external text ts (readers text ts)) c.args.reader.now c.loop-turn.reader c.external.new.reader c.in_err-external.field-0.0
    c.loop-turn.invariant.text c.loop-turn.invariant.tokens c.in_err-external.ensures in
    let fails = s.externals-none text ts (readers text ts) (length ts + 1 - (c.loop-turn._turn + 1)) c.loop-turn.found c.loop-turn.reader.state a in
    first_of (search rules, grind (arith, common_steps))

pub loop-turn-preserved : goal.loop-turn-preserved
loop-turn-preserved c =
    let text = c.args.reader.now.text in
    let ts = c.args.reader.now.tokens in
    let e = one_more (λ n. step.externals text ts (readers text ts) n c.loop-turn.found c.loop-turn.reader.state) _ c.loop-turn._turn c.loop-turn-test.true c.loop-turn.invariant.same in
    let a : (c.loop-turn.reader.state.at == length ts) ≡ false = first_of (search rules, grind (arith, common_steps)) in
    let next = found (λ text ts. step.external text ts (readers text ts)) c.args.reader.now c.loop-turn.reader c.external.new.reader c.in_ok-external.field-0
    c.loop-turn.invariant.text c.loop-turn.invariant.tokens c.in_ok-external.ensures in
    let more = s.externals-more text ts (readers text ts) (length ts + 1 - (c.loop-turn._turn + 1)) c.loop-turn.found c.loop-turn.reader.state c.external.new.reader.state c.in_ok-external.field-0 a next in
    first_of (search rules, grind (arith, common_steps))

pub returns : goal.returns
returns c =
    let text = c.args.reader.now.text in
    let ts = c.args.reader.now.tokens in
    let e = no_more (λ n. step.externals text ts (readers text ts) n c.loop-turn.found c.loop-turn.reader.state) _ c.loop-turn._turn c.loop-turn-test.false c.loop-turn.invariant.same in
    let over = s.externals-over text ts (readers text ts) c.loop-turn.found c.loop-turn.reader.state in
    first_of (search rules, grind (arith, common_steps))
