use Rattle.std.proofs.Common.{◌≡◌, Some, None, rules, arith}
use Rattle.std.proofs.lemmas.Grind.{common_steps}
use Rattle.grammar_descent.specs.AllReaders.{readers}
use Rattle.grammar_descent.specs.SpecifierSteps.{specifiers, one_specifier, lead_at}
use Rattle.declarator_parser.specs.Below.{below}
use Rattle.declarator_parser.specs.Leads.{one_lead}
use Rattle.declarator_parser.specs.Roles.{roles_of}
use Rattle.declarator_parser.proofs.Parts.{one_more, no_more, reads-at}
use Rattle.declarator_parser.proofs.SpecifierLoop.{specifiers_done, specifiers_fail, specifiers_more, specifiers_zero, roles_of-append}
use Rattle.declarator_parser.proofs.declaring.Declaring.specifiers.Goals as goal

pub returns-in_default : goal.returns-in_default
returns-in_default g c =
    let e = one_more (λ n. specifiers c.args.reader.now.text c.args.reader.now.tokens (readers c.args.reader.now.text c.args.reader.now.tokens c.args.self.now.depth).expression (below c.args.reader.now.text c.args.reader.now.tokens c.args.self.now.depth) n (roles_of c.loop-turn.found) c.loop-turn.found c.loop-turn.high c.loop-turn.reader.state) _ c.loop-turn._turn c.loop-turn-test.true c.loop-turn.invariant.rest in
    let none : lead_at c.args.reader.now.text c.args.reader.now.tokens (roles_of c.loop-turn.found) c.loop-turn.reader.state ≡ None = first_of (cc, search rules, grind (arith, common_steps)) in
    let done = specifiers_done c.args.reader.now.text c.args.reader.now.tokens (readers c.args.reader.now.text c.args.reader.now.tokens c.args.self.now.depth).expression (below c.args.reader.now.text c.args.reader.now.tokens c.args.self.now.depth) _ _ _ _ _ _ e none in
    first_of (search rules, grind (arith, common_steps))

pub returns-in_err-specifier : goal.returns-in_err-specifier
returns-in_err-specifier g c =
    let e = one_more (λ n. specifiers c.args.reader.now.text c.args.reader.now.tokens (readers c.args.reader.now.text c.args.reader.now.tokens c.args.self.now.depth).expression (below c.args.reader.now.text c.args.reader.now.tokens c.args.self.now.depth) n (roles_of c.loop-turn.found) c.loop-turn.found c.loop-turn.high c.loop-turn.reader.state) _ c.loop-turn._turn c.loop-turn-test.true c.loop-turn.invariant.rest in
    let leads : lead_at c.args.reader.now.text c.args.reader.now.tokens (roles_of c.loop-turn.found) c.loop-turn.reader.state ≡ Some (one_lead c.in-Some.lead) = first_of (cc, search rules, grind (arith, common_steps)) in
    let fail = specifiers_fail c.args.reader.now.text c.args.reader.now.tokens (readers c.args.reader.now.text c.args.reader.now.tokens c.args.self.now.depth).expression (below c.args.reader.now.text c.args.reader.now.tokens c.args.self.now.depth) _ _ _ _ _ _ _ e leads in
    let h = reads-at (λ text ts. one_specifier text ts (readers text ts c.args.self.now.depth).expression (below text ts c.args.self.now.depth) (one_lead c.in-Some.lead)) c.loop-turn.reader c.next_specifier.new.reader _ c.args.reader.now.text c.args.reader.now.tokens c.loop-turn.invariant.text c.loop-turn.invariant.tokens c.in_err-specifier.ensures.reads in
    first_of (search rules, grind (arith, common_steps))

pub loop-turn-preserved : goal.loop-turn-preserved
loop-turn-preserved g c =
    let e = one_more (λ n. specifiers c.args.reader.now.text c.args.reader.now.tokens (readers c.args.reader.now.text c.args.reader.now.tokens c.args.self.now.depth).expression (below c.args.reader.now.text c.args.reader.now.tokens c.args.self.now.depth) n (roles_of c.loop-turn.found) c.loop-turn.found c.loop-turn.high c.loop-turn.reader.state) _ c.loop-turn._turn c.loop-turn-test.true c.loop-turn.invariant.rest in
    let leads : lead_at c.args.reader.now.text c.args.reader.now.tokens (roles_of c.loop-turn.found) c.loop-turn.reader.state ≡ Some (one_lead c.in-Some.lead) = first_of (cc, search rules, grind (arith, common_steps)) in
    let is = reads-at (λ text ts. one_specifier text ts (readers text ts c.args.self.now.depth).expression (below text ts c.args.self.now.depth) (one_lead c.in-Some.lead)) c.loop-turn.reader c.next_specifier.new.reader _ c.args.reader.now.text c.args.reader.now.tokens c.loop-turn.invariant.text c.loop-turn.invariant.tokens c.in_ok-specifier.ensures.reads in
    let rest = specifiers_more c.args.reader.now.text c.args.reader.now.tokens (readers c.args.reader.now.text c.args.reader.now.tokens c.args.self.now.depth).expression (below c.args.reader.now.text c.args.reader.now.tokens c.args.self.now.depth) _ _ _ _ _ _ _ _ _ _ _ e leads is in
    let roles = roles_of-append c.loop-turn.found c.in_ok-specifier.specifier in
    first_of (search rules, grind (arith, common_steps))

pub returns : goal.returns
returns g c =
    let e = no_more (λ n. specifiers c.args.reader.now.text c.args.reader.now.tokens (readers c.args.reader.now.text c.args.reader.now.tokens c.args.self.now.depth).expression (below c.args.reader.now.text c.args.reader.now.tokens c.args.self.now.depth) n (roles_of c.loop-turn.found) c.loop-turn.found c.loop-turn.high c.loop-turn.reader.state) _ c.loop-turn._turn c.loop-turn-test.false c.loop-turn.invariant.rest in
    let z = specifiers_zero c.args.reader.now.text c.args.reader.now.tokens (readers c.args.reader.now.text c.args.reader.now.tokens c.args.self.now.depth).expression (below c.args.reader.now.text c.args.reader.now.tokens c.args.self.now.depth) (roles_of c.loop-turn.found) c.loop-turn.found c.loop-turn.high c.loop-turn.reader.state in
    first_of (search rules, grind (arith, common_steps))
