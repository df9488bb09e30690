use Rattle.std.proofs.Common.{rules, arith, ◌≡◌, suc, ◌+◌, ◌-◌, ap, refl}
use Rattle.std.proofs.lemmas.Grind.{common_steps}
use Rattle.c_grammar.specs.Operators.{tightness}
use Rattle.grammar_descent.specs.AllReaders.{readers}
use Rattle.grammar_descent.specs.ExpressionSteps.{climb}
use Rattle.expression_parser.specs.Growing.{found}
use Rattle.expression_parser.proofs.Shallow.{no_growth}
use Rattle.token_reader.proofs.Turns.{one_more, no_more}
use Rattle.expression_parser.proofs.inner.Inner.climb.Goals as goal

pub loop-turn-init : goal.loop-turn-init
loop-turn-init g c =
    let turns : suc c.args.self.now.depth ≡ c.args.self.now.depth + 1 - 0 = omega arith in record {
      same = ap (λ n. climb c.args.reader.now.text c.args.reader.now.tokens c.args.self.now.depth (readers c.args.reader.now.text c.args.reader.now.tokens c.args.self.now.depth) (tightness c.args.least) c.args.start n (found c.args.head c.args.reader.now.state)) turns;
      text = refl;
      tokens = refl;
      texts = refl;
    }

pub returns-in_default : goal.returns-in_default
unfolding climb
returns-in_default g c =
    let e = one_more (λ n. climb c.args.reader.now.text c.args.reader.now.tokens c.args.self.now.depth (readers c.args.reader.now.text c.args.reader.now.tokens c.args.self.now.depth) (tightness c.args.least) c.args.start n (found c.loop-turn.left c.loop-turn.reader.state)) _ c.loop-turn._turn c.loop-turn-test.true c.loop-turn.invariant.same in
    first_of (search rules, grind (arith, common_steps, no_growth))

pub returns-then-left-self : goal.returns-then-left-self
unfolding climb
returns-then-left-self g c =
    let e = one_more (λ n. climb c.args.reader.now.text c.args.reader.now.tokens c.args.self.now.depth (readers c.args.reader.now.text c.args.reader.now.tokens c.args.self.now.depth) (tightness c.args.least) c.args.start n (found c.loop-turn.left c.loop-turn.reader.state)) _ c.loop-turn._turn c.loop-turn-test.true c.loop-turn.invariant.same in
    first_of (search rules, grind (arith, common_steps, no_growth))

pub returns-in_err-left : goal.returns-in_err-left
unfolding climb
returns-in_err-left g c =
    let e = one_more (λ n. climb c.args.reader.now.text c.args.reader.now.tokens c.args.self.now.depth (readers c.args.reader.now.text c.args.reader.now.tokens c.args.self.now.depth) (tightness c.args.least) c.args.start n (found c.loop-turn.left c.loop-turn.reader.state)) _ c.loop-turn._turn c.loop-turn-test.true c.loop-turn.invariant.same in
    first_of (search rules, grind (arith, common_steps, no_growth))

pub loop-turn-preserved : goal.loop-turn-preserved
unfolding climb
loop-turn-preserved g c =
    let e = one_more (λ n. climb c.args.reader.now.text c.args.reader.now.tokens c.args.self.now.depth (readers c.args.reader.now.text c.args.reader.now.tokens c.args.self.now.depth) (tightness c.args.least) c.args.start n (found c.loop-turn.left c.loop-turn.reader.state)) _ c.loop-turn._turn c.loop-turn-test.true c.loop-turn.invariant.same in
    first_of (search rules, grind (arith, common_steps, no_growth))

pub returns : goal.returns
unfolding climb
returns g c =
    let e = no_more (λ n. climb c.args.reader.now.text c.args.reader.now.tokens c.args.self.now.depth (readers c.args.reader.now.text c.args.reader.now.tokens c.args.self.now.depth) (tightness c.args.least) c.args.start n (found c.loop-turn.left c.loop-turn.reader.state)) _ c.loop-turn._turn c.loop-turn-test.false c.loop-turn.invariant.same in
    first_of (search rules, grind (arith, common_steps, no_growth))
