use Rattle.std.proofs.Common.{◌≡◌, ◌+◌, ◌&&◌, true, false, rules, arith}
use Rattle.std.proofs.lemmas.Grind.{common_steps}
use Rattle.c_tokens.specs.declared.kind.Kind.TheVariants as k
use Rattle.c_tokens.specs.declared.kind.Mark.TheVariants as mark
use Rattle.grammar_descent.specs.Reading.{mark_at, sees}
use Rattle.grammar_descent.specs.AllReaders.{readers}
use Rattle.grammar_descent.specs.SpecifierSteps.{enumerators, enumerator_at}
use Rattle.declarator_parser.proofs.Parts.{one_more, no_more, reads-at}
use Rattle.declarator_parser.proofs.ListSteps.{enumerators_none, enumerators_last, enumerators_more, enumerators_zero}
use Rattle.declarator_parser.proofs.declaring.Declaring.enumerators.Goals as goal

pub returns-in_err-enumerator-clause-reads : goal.returns-in_err-enumerator-clause-reads
returns-in_err-enumerator-clause-reads g c =
    let e = one_more (λ n. enumerators c.args.reader.now.text c.args.reader.now.tokens (readers c.args.reader.now.text c.args.reader.now.tokens c.args.self.now.depth).expression n c.loop-turn.found c.loop-turn.high c.loop-turn.reader.state) _ c.loop-turn._turn c.loop-turn-test.true c.loop-turn.invariant.rest in
    let none = enumerators_none c.args.reader.now.text c.args.reader.now.tokens (readers c.args.reader.now.text c.args.reader.now.tokens c.args.self.now.depth).expression _ _ _ _ _ e in
    let h = reads-at (λ text ts. enumerator_at text ts (readers text ts c.args.self.now.depth).expression) c.loop-turn.reader c.enumerator.new.reader _ c.args.reader.now.text c.args.reader.now.tokens c.loop-turn.invariant.text c.loop-turn.invariant.tokens c.in_err-enumerator.ensures.reads in
    first_of (search rules, grind (arith, common_steps))

pub returns-then-not-goes_on-clause-reads : goal.returns-then-not-goes_on-clause-reads
returns-then-not-goes_on-clause-reads g c =
    let e = one_more (λ n. enumerators c.args.reader.now.text c.args.reader.now.tokens (readers c.args.reader.now.text c.args.reader.now.tokens c.args.self.now.depth).expression n c.loop-turn.found c.loop-turn.high c.loop-turn.reader.state) _ c.loop-turn._turn c.loop-turn-test.true c.loop-turn.invariant.rest in
    let is = reads-at (λ text ts. enumerator_at text ts (readers text ts c.args.self.now.depth).expression) c.loop-turn.reader c.enumerator.new.reader _ c.args.reader.now.text c.args.reader.now.tokens c.loop-turn.invariant.text c.loop-turn.invariant.tokens c.in_ok-enumerator.ensures.reads in
    let stop : (mark_at c.args.reader.now.tokens c.enumerator.new.reader.state.at mark.Comma && sees c.args.reader.now.tokens (c.enumerator.new.reader.state.at + 1) k.Name) ≡ false = first_of (cc, search rules, grind (arith, common_steps)) in
    let last = enumerators_last c.args.reader.now.text c.args.reader.now.tokens (readers c.args.reader.now.text c.args.reader.now.tokens c.args.self.now.depth).expression _ _ _ _ _ _ _ _ e is stop in
    first_of (search rules, grind (arith, common_steps))

pub loop-turn-preserved : goal.loop-turn-preserved
loop-turn-preserved g c =
    let e = one_more (λ n. enumerators c.args.reader.now.text c.args.reader.now.tokens (readers c.args.reader.now.text c.args.reader.now.tokens c.args.self.now.depth).expression n c.loop-turn.found c.loop-turn.high c.loop-turn.reader.state) _ c.loop-turn._turn c.loop-turn-test.true c.loop-turn.invariant.rest in
    let is = reads-at (λ text ts. enumerator_at text ts (readers text ts c.args.self.now.depth).expression) c.loop-turn.reader c.enumerator.new.reader _ c.args.reader.now.text c.args.reader.now.tokens c.loop-turn.invariant.text c.loop-turn.invariant.tokens c.in_ok-enumerator.ensures.reads in
    let more : (mark_at c.args.reader.now.tokens c.enumerator.new.reader.state.at mark.Comma && sees c.args.reader.now.tokens (c.enumerator.new.reader.state.at + 1) k.Name) ≡ true = first_of (cc, search rules, grind (arith, common_steps)) in
    let rest = enumerators_more c.args.reader.now.text c.args.reader.now.tokens (readers c.args.reader.now.text c.args.reader.now.tokens c.args.self.now.depth).expression _ _ _ _ _ _ _ _ e is more in
    first_of (search rules, grind (arith, common_steps))

pub returns-clause-reads : goal.returns-clause-reads
returns-clause-reads g c =
    let e = no_more (λ n. enumerators c.args.reader.now.text c.args.reader.now.tokens (readers c.args.reader.now.text c.args.reader.now.tokens c.args.self.now.depth).expression n c.loop-turn.found c.loop-turn.high c.loop-turn.reader.state) _ c.loop-turn._turn c.loop-turn-test.false c.loop-turn.invariant.rest in
    let z = enumerators_zero c.args.reader.now.text c.args.reader.now.tokens (readers c.args.reader.now.text c.args.reader.now.tokens c.args.self.now.depth).expression c.loop-turn.found c.loop-turn.high c.loop-turn.reader.state in
    first_of (search rules, grind (arith, common_steps))
