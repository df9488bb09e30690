use Rattle.std.proofs.Common.{◌≡◌, Some, None, rules, arith}
use Rattle.std.proofs.lemmas.Grind.{common_steps}
use Rattle.grammar_descent.specs.DeclaratorSteps.{qualifiers}
use Rattle.declarator_parser.specs.Parts.{qualifier_at}
use Rattle.declarator_parser.proofs.Parts.{one_more, no_more, qualifiers_more, qualifiers_done, qualifiers-zero}
use Rattle.declarator_parser.proofs.declarators.qualifiers.Goals as goal

pub returns-in_default-clause-value : goal.returns-in_default-clause-value
returns-in_default-clause-value c =
    let e = one_more (λ n. qualifiers c.args.reader.now.tokens n c.loop-turn.found c.loop-turn.reader.state) _ c.loop-turn._turn c.loop-turn-test.true c.loop-turn.invariant.rest in
    let none : qualifier_at c.args.reader.now.tokens c.loop-turn.reader.state.at ≡ None = first_of (cc, grind (arith, common_steps)) in
    qualifiers_done _ _ _ _ _ e none

pub loop-turn-preserved : goal.loop-turn-preserved
loop-turn-preserved c =
    let e = one_more (λ n. qualifiers c.args.reader.now.tokens n c.loop-turn.found c.loop-turn.reader.state) _ c.loop-turn._turn c.loop-turn-test.true c.loop-turn.invariant.rest in
    let some : qualifier_at c.args.reader.now.tokens c.loop-turn.reader.state.at ≡ Some c.in-Some.qualifier = first_of (cc, grind (arith, common_steps)) in
    let rest = qualifiers_more _ _ _ _ _ _ e some in
    record { rest = first_of (search rules, grind (arith, common_steps)); text = first_of (cc, grind (arith, common_steps)); tokens = first_of (cc, grind (arith, common_steps)); texts = first_of (cc, grind (arith, common_steps)) }

pub returns-clause-value : goal.returns-clause-value
returns-clause-value c =
    let e = no_more (λ n. qualifiers c.args.reader.now.tokens n c.loop-turn.found c.loop-turn.reader.state) _ c.loop-turn._turn c.loop-turn-test.false c.loop-turn.invariant.rest in
    first_of (grind (arith, qualifiers-zero c.args.reader.now.tokens c.loop-turn.found c.loop-turn.reader.state), cc (qualifiers-zero c.args.reader.now.tokens c.loop-turn.found c.loop-turn.reader.state))
