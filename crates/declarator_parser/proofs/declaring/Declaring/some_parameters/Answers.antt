use Rattle.std.proofs.Common.{◌≡◌, true, false, rules, arith}
use Rattle.std.proofs.lemmas.Grind.{common_steps}
use Rattle.c_tokens.specs.declared.kind.Mark.TheVariants as mark
use Rattle.grammar_descent.specs.Reading.{mark_at}
use Rattle.grammar_descent.specs.DeclaratorSteps.{some_parameters, parameter_at}
use Rattle.declarator_parser.specs.Below.{below}
use Rattle.declarator_parser.proofs.Parts.{one_more, no_more, reads-at, grows_on}
use Rattle.declarator_parser.proofs.ListSteps.{some_parameters_none, some_parameters_last, some_parameters_more, some_parameters_zero}
use Rattle.declarator_parser.proofs.declaring.Declaring.some_parameters.Goals as goal

pub returns-in_err-parameter-clause-reads : goal.returns-in_err-parameter-clause-reads
returns-in_err-parameter-clause-reads g c =
    let e = one_more (λ n. some_parameters c.args.reader.now.text c.args.reader.now.tokens (below c.args.reader.now.text c.args.reader.now.tokens c.args.self.now.depth) n c.loop-turn.found c.loop-turn.high c.loop-turn.reader.state) _ c.loop-turn._turn c.loop-turn-test.true c.loop-turn.invariant.rest in
    let none = some_parameters_none c.args.reader.now.text c.args.reader.now.tokens (below c.args.reader.now.text c.args.reader.now.tokens c.args.self.now.depth) _ _ _ _ _ e in
    let h = reads-at (λ text ts. parameter_at text ts (below text ts c.args.self.now.depth)) c.loop-turn.reader c.parameter.new.reader _ c.args.reader.now.text c.args.reader.now.tokens c.loop-turn.invariant.text c.loop-turn.invariant.tokens c.in_err-parameter.ensures.reads in
    first_of (search rules, grind (arith, common_steps))

pub returns-then-not-sees_mark-clause-reads : goal.returns-then-not-sees_mark-clause-reads
returns-then-not-sees_mark-clause-reads g c =
    let e = one_more (λ n. some_parameters c.args.reader.now.text c.args.reader.now.tokens (below c.args.reader.now.text c.args.reader.now.tokens c.args.self.now.depth) n c.loop-turn.found c.loop-turn.high c.loop-turn.reader.state) _ c.loop-turn._turn c.loop-turn-test.true c.loop-turn.invariant.rest in
    let is = reads-at (λ text ts. parameter_at text ts (below text ts c.args.self.now.depth)) c.loop-turn.reader c.parameter.new.reader _ c.args.reader.now.text c.args.reader.now.tokens c.loop-turn.invariant.text c.loop-turn.invariant.tokens c.in_ok-parameter.ensures.reads in
    let stop : mark_at c.args.reader.now.tokens c.parameter.new.reader.state.at mark.Comma ≡ false = first_of (cc, search rules, grind (arith, common_steps)) in
    let last = some_parameters_last c.args.reader.now.text c.args.reader.now.tokens (below c.args.reader.now.text c.args.reader.now.tokens c.args.self.now.depth) _ _ _ _ _ _ _ _ e is stop in
    first_of (search rules, grind (arith, common_steps))

pub returns-then-not-sees_mark-clause-grows : goal.returns-then-not-sees_mark-clause-grows
returns-then-not-sees_mark-clause-grows g c = grows_on _ _ _ c.loop-turn.invariant.grows c.in_ok-parameter.ensures.grows

pub loop-turn-preserved : goal.loop-turn-preserved
loop-turn-preserved g c =
    let e = one_more (λ n. some_parameters c.args.reader.now.text c.args.reader.now.tokens (below c.args.reader.now.text c.args.reader.now.tokens c.args.self.now.depth) n c.loop-turn.found c.loop-turn.high c.loop-turn.reader.state) _ c.loop-turn._turn c.loop-turn-test.true c.loop-turn.invariant.rest in
    let is = reads-at (λ text ts. parameter_at text ts (below text ts c.args.self.now.depth)) c.loop-turn.reader c.parameter.new.reader _ c.args.reader.now.text c.args.reader.now.tokens c.loop-turn.invariant.text c.loop-turn.invariant.tokens c.in_ok-parameter.ensures.reads in
    let more : mark_at c.args.reader.now.tokens c.parameter.new.reader.state.at mark.Comma ≡ true = first_of (cc, search rules, grind (arith, common_steps)) in
    let rest = some_parameters_more c.args.reader.now.text c.args.reader.now.tokens (below c.args.reader.now.text c.args.reader.now.tokens c.args.self.now.depth) _ _ _ _ _ _ _ _ e is more in
    let grows = grows_on _ _ _ c.loop-turn.invariant.grows c.in_ok-parameter.ensures.grows in
    first_of (search rules, grind (arith, common_steps))

pub returns-clause-reads : goal.returns-clause-reads
returns-clause-reads g c =
    let e = no_more (λ n. some_parameters c.args.reader.now.text c.args.reader.now.tokens (below c.args.reader.now.text c.args.reader.now.tokens c.args.self.now.depth) n c.loop-turn.found c.loop-turn.high c.loop-turn.reader.state) _ c.loop-turn._turn c.loop-turn-test.false c.loop-turn.invariant.rest in
    let z = some_parameters_zero c.args.reader.now.text c.args.reader.now.tokens (below c.args.reader.now.text c.args.reader.now.tokens c.args.self.now.depth) c.loop-turn.found c.loop-turn.high c.loop-turn.reader.state in
    first_of (search rules, grind (arith, common_steps))
