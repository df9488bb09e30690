use Rattle.std.proofs.Common.{◌≡◌, true, false, rules, arith}
use Rattle.std.proofs.lemmas.Grind.{common_steps}
use Rattle.c_tokens.specs.declared.kind.Mark.TheVariants as mark
use Rattle.c_grammar.specs.declared.words.Naming.TheVariants as naming
use Rattle.grammar_descent.specs.Reading.{mark_at}
use Rattle.grammar_descent.specs.SpecifierSteps.{declarators}
use Rattle.declarator_parser.specs.Below.{below}
use Rattle.declarator_parser.proofs.Parts.{one_more, no_more, reads-at}
use Rattle.declarator_parser.proofs.ListSteps.{declarators_none, declarators_last, declarators_more, declarators_zero}
use Rattle.declarator_parser.proofs.declaring.Declaring.member_declarators.Goals as goal

pub returns-in_err-declared-clause-reads : goal.returns-in_err-declared-clause-reads
returns-in_err-declared-clause-reads g c =
    let e = one_more (λ n. declarators c.args.reader.now.text c.args.reader.now.tokens (below c.args.reader.now.text c.args.reader.now.tokens c.args.self.now.depth) n c.loop-turn.found c.loop-turn.high c.loop-turn.reader.state) _ c.loop-turn._turn c.loop-turn-test.true c.loop-turn.invariant.rest in
    let none = declarators_none c.args.reader.now.text c.args.reader.now.tokens (below c.args.reader.now.text c.args.reader.now.tokens c.args.self.now.depth) _ _ _ _ _ e in
    let h = reads-at (λ text ts. (below text ts c.args.self.now.depth).declarator naming.Named) c.loop-turn.reader c.inner_declarator.new.reader _ c.args.reader.now.text c.args.reader.now.tokens c.loop-turn.invariant.text c.loop-turn.invariant.tokens c.in_err-declared.ensures.reads.reads in
    first_of (search rules, grind (arith, common_steps))

pub returns-then-not-sees_mark-clause-reads : goal.returns-then-not-sees_mark-clause-reads
returns-then-not-sees_mark-clause-reads g c =
    let e = one_more (λ n. declarators c.args.reader.now.text c.args.reader.now.tokens (below c.args.reader.now.text c.args.reader.now.tokens c.args.self.now.depth) n c.loop-turn.found c.loop-turn.high c.loop-turn.reader.state) _ c.loop-turn._turn c.loop-turn-test.true c.loop-turn.invariant.rest in
    let is = reads-at (λ text ts. (below text ts c.args.self.now.depth).declarator naming.Named) c.loop-turn.reader c.inner_declarator.new.reader _ c.args.reader.now.text c.args.reader.now.tokens c.loop-turn.invariant.text c.loop-turn.invariant.tokens c.in_ok-declared.ensures.reads.reads in
    let stop : mark_at c.args.reader.now.tokens c.inner_declarator.new.reader.state.at mark.Comma ≡ false = first_of (cc, search rules, grind (arith, common_steps)) in
    let last = declarators_last c.args.reader.now.text c.args.reader.now.tokens (below c.args.reader.now.text c.args.reader.now.tokens c.args.self.now.depth) _ _ _ _ _ _ _ e is stop in
    first_of (search rules, grind (arith, common_steps))

pub loop-turn-preserved : goal.loop-turn-preserved
loop-turn-preserved g c =
    let e = one_more (λ n. declarators c.args.reader.now.text c.args.reader.now.tokens (below c.args.reader.now.text c.args.reader.now.tokens c.args.self.now.depth) n c.loop-turn.found c.loop-turn.high c.loop-turn.reader.state) _ c.loop-turn._turn c.loop-turn-test.true c.loop-turn.invariant.rest in
    let is = reads-at (λ text ts. (below text ts c.args.self.now.depth).declarator naming.Named) c.loop-turn.reader c.inner_declarator.new.reader _ c.args.reader.now.text c.args.reader.now.tokens c.loop-turn.invariant.text c.loop-turn.invariant.tokens c.in_ok-declared.ensures.reads.reads in
    let more : mark_at c.args.reader.now.tokens c.inner_declarator.new.reader.state.at mark.Comma ≡ true = first_of (cc, search rules, grind (arith, common_steps)) in
    let rest = declarators_more c.args.reader.now.text c.args.reader.now.tokens (below c.args.reader.now.text c.args.reader.now.tokens c.args.self.now.depth) _ _ _ _ _ _ _ e is more in
    first_of (search rules, grind (arith, common_steps))

pub returns-clause-reads : goal.returns-clause-reads
returns-clause-reads g c =
    let e = no_more (λ n. declarators c.args.reader.now.text c.args.reader.now.tokens (below c.args.reader.now.text c.args.reader.now.tokens c.args.self.now.depth) n c.loop-turn.found c.loop-turn.high c.loop-turn.reader.state) _ c.loop-turn._turn c.loop-turn-test.false c.loop-turn.invariant.rest in
    let z = declarators_zero c.args.reader.now.text c.args.reader.now.tokens (below c.args.reader.now.text c.args.reader.now.tokens c.args.self.now.depth) c.loop-turn.found c.loop-turn.high c.loop-turn.reader.state in
    first_of (search rules, grind (arith, common_steps))
