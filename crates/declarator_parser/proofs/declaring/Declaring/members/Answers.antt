use Rattle.std.proofs.Common.{◌≡◌, true, false, rules, arith}
use Rattle.std.proofs.lemmas.Grind.{common_steps}
use Rattle.c_tokens.specs.declared.kind.Mark.TheVariants as mark
use Rattle.grammar_descent.specs.Reading.{mark_at}
use Rattle.grammar_descent.specs.SpecifierSteps.{members, member_at}
use Rattle.declarator_parser.specs.Below.{below}
use Rattle.declarator_parser.proofs.Parts.{one_more, no_more, reads-at}
use Rattle.declarator_parser.proofs.ListSteps.{members_none, members_last, members_more, members_zero}
use Rattle.declarator_parser.proofs.declaring.Declaring.members.Goals as goal

pub returns-in_err-member-clause-reads : goal.returns-in_err-member-clause-reads
returns-in_err-member-clause-reads g c =
    let e = one_more (λ n. members c.args.reader.now.text c.args.reader.now.tokens (below c.args.reader.now.text c.args.reader.now.tokens c.args.self.now.depth) n c.loop-turn.found c.loop-turn.high c.loop-turn.reader.state) _ c.loop-turn._turn c.loop-turn-test.true c.loop-turn.invariant.rest in
    let none = members_none c.args.reader.now.text c.args.reader.now.tokens (below c.args.reader.now.text c.args.reader.now.tokens c.args.self.now.depth) _ _ _ _ _ e in
    let h = reads-at (λ text ts. member_at text ts (below text ts c.args.self.now.depth)) c.loop-turn.reader c.member.new.reader _ c.args.reader.now.text c.args.reader.now.tokens c.loop-turn.invariant.text c.loop-turn.invariant.tokens c.in_err-member.ensures.reads in
    first_of (search rules, grind (arith, common_steps))

pub returns-then-sees_mark-clause-reads : goal.returns-then-sees_mark-clause-reads
returns-then-sees_mark-clause-reads g c =
    let e = one_more (λ n. members c.args.reader.now.text c.args.reader.now.tokens (below c.args.reader.now.text c.args.reader.now.tokens c.args.self.now.depth) n c.loop-turn.found c.loop-turn.high c.loop-turn.reader.state) _ c.loop-turn._turn c.loop-turn-test.true c.loop-turn.invariant.rest in
    let is = reads-at (λ text ts. member_at text ts (below text ts c.args.self.now.depth)) c.loop-turn.reader c.member.new.reader _ c.args.reader.now.text c.args.reader.now.tokens c.loop-turn.invariant.text c.loop-turn.invariant.tokens c.in_ok-member.ensures.reads in
    let stop : mark_at c.args.reader.now.tokens c.member.new.reader.state.at mark.RightBrace ≡ true = first_of (cc, search rules, grind (arith, common_steps)) in
    let last = members_last c.args.reader.now.text c.args.reader.now.tokens (below c.args.reader.now.text c.args.reader.now.tokens c.args.self.now.depth) _ _ _ _ _ _ _ _ e is stop in
    first_of (search rules, grind (arith, common_steps))

pub loop-turn-preserved : goal.loop-turn-preserved
loop-turn-preserved g c =
    let e = one_more (λ n. members c.args.reader.now.text c.args.reader.now.tokens (below c.args.reader.now.text c.args.reader.now.tokens c.args.self.now.depth) n c.loop-turn.found c.loop-turn.high c.loop-turn.reader.state) _ c.loop-turn._turn c.loop-turn-test.true c.loop-turn.invariant.rest in
    let is = reads-at (λ text ts. member_at text ts (below text ts c.args.self.now.depth)) c.loop-turn.reader c.member.new.reader _ c.args.reader.now.text c.args.reader.now.tokens c.loop-turn.invariant.text c.loop-turn.invariant.tokens c.in_ok-member.ensures.reads in
    let more : mark_at c.args.reader.now.tokens c.member.new.reader.state.at mark.RightBrace ≡ false = first_of (cc, search rules, grind (arith, common_steps)) in
    let rest = members_more c.args.reader.now.text c.args.reader.now.tokens (below c.args.reader.now.text c.args.reader.now.tokens c.args.self.now.depth) _ _ _ _ _ _ _ _ e is more in
    first_of (search rules, grind (arith, common_steps))

pub returns-clause-reads : goal.returns-clause-reads
returns-clause-reads g c =
    let e = no_more (λ n. members c.args.reader.now.text c.args.reader.now.tokens (below c.args.reader.now.text c.args.reader.now.tokens c.args.self.now.depth) n c.loop-turn.found c.loop-turn.high c.loop-turn.reader.state) _ c.loop-turn._turn c.loop-turn-test.false c.loop-turn.invariant.rest in
    let z = members_zero c.args.reader.now.text c.args.reader.now.tokens (below c.args.reader.now.text c.args.reader.now.tokens c.args.self.now.depth) c.loop-turn.found c.loop-turn.high c.loop-turn.reader.state in
    first_of (search rules, grind (arith, common_steps))
