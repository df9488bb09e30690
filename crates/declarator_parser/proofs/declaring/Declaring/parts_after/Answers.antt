use Rattle.std.proofs.Common.{◌≡◌, Some, None, Ok, Err, ◌∙◌, rules, arith}
use Rattle.std.proofs.lemmas.Grind.{common_steps}
use Rattle.grammar_descent.specs.DeclaratorSteps.{parts_after}
use Rattle.token_reader.specs.Found.{spelled_declarator}
use Rattle.declarator_parser.specs.Below.{below}
use Rattle.declarator_parser.specs.Parts.{part_at, part_after}
use Rattle.declarator_parser.proofs.Parts.{one_more, no_more, declarator_reads-at, parts_done, parts_fail, parts_more, parts-zero}
use Rattle.declarator_parser.proofs.Spellings.{in_texts}
use Rattle.declarator_parser.proofs.declaring.Declaring.parts_after.Goals as goal

pub returns-in_default-clause-reads : goal.returns-in_default-clause-reads
returns-in_default-clause-reads g c =
    let e = one_more (λ n. parts_after c.args.reader.now.text c.args.reader.now.tokens (below c.args.reader.now.text c.args.reader.now.tokens c.args.self.now.depth) c.args.self.now.depth c.args.start n (spelled_declarator c.args.reader.now.texts c.loop-turn.found) c.loop-turn.reader.state) _ c.loop-turn._turn c.loop-turn-test.true c.loop-turn.invariant.rest in
    let none : part_at c.args.reader.now.tokens c.loop-turn.reader.state.at ≡ None = first_of (cc, search rules, grind (arith, common_steps)) in
    let done = parts_done c.args.reader.now.text c.args.reader.now.tokens (below c.args.reader.now.text c.args.reader.now.tokens c.args.self.now.depth) c.args.self.now.depth c.args.start _ _ _ _ e none in
    first_of (search rules, grind (arith, common_steps))

pub returns-in_err-found-clause-reads : goal.returns-in_err-found-clause-reads
returns-in_err-found-clause-reads g c =
    let e = one_more (λ n. parts_after c.args.reader.now.text c.args.reader.now.tokens (below c.args.reader.now.text c.args.reader.now.tokens c.args.self.now.depth) c.args.self.now.depth c.args.start n (spelled_declarator c.args.reader.now.texts c.loop-turn.found) c.loop-turn.reader.state) _ c.loop-turn._turn c.loop-turn-test.true c.loop-turn.invariant.rest in
    let some : part_at c.args.reader.now.tokens c.loop-turn.reader.state.at ≡ Some c.in-Some.part = first_of (cc, search rules, grind (arith, common_steps)) in
    let fail = parts_fail c.args.reader.now.text c.args.reader.now.tokens (below c.args.reader.now.text c.args.reader.now.tokens c.args.self.now.depth) c.args.self.now.depth c.args.start _ _ _ _ _ e some in
    let h = declarator_reads-at (λ texts text ts. part_after c.in-Some.part text ts (below text ts c.args.self.now.depth) c.args.self.now.depth c.args.start (spelled_declarator texts c.loop-turn.found)) c.loop-turn.reader c.part_after.new.reader (Err c.in_err-found.field-0.0) c.args.reader.now.text c.args.reader.now.tokens c.args.reader.now.texts c.loop-turn.invariant.text c.loop-turn.invariant.tokens c.loop-turn.invariant.texts c.in_err-found.ensures.reads in
    first_of (search rules, grind (arith, common_steps))

pub loop-turn-preserved : goal.loop-turn-preserved
loop-turn-preserved g c =
    let e = one_more (λ n. parts_after c.args.reader.now.text c.args.reader.now.tokens (below c.args.reader.now.text c.args.reader.now.tokens c.args.self.now.depth) c.args.self.now.depth c.args.start n (spelled_declarator c.args.reader.now.texts c.loop-turn.found) c.loop-turn.reader.state) _ c.loop-turn._turn c.loop-turn-test.true c.loop-turn.invariant.rest in
    let some : part_at c.args.reader.now.tokens c.loop-turn.reader.state.at ≡ Some c.in-Some.part = first_of (cc, search rules, grind (arith, common_steps)) in
    let is = declarator_reads-at (λ texts text ts. part_after c.in-Some.part text ts (below text ts c.args.self.now.depth) c.args.self.now.depth c.args.start (spelled_declarator texts c.loop-turn.found)) c.loop-turn.reader c.part_after.new.reader (Ok c.in_ok-found.found) c.args.reader.now.text c.args.reader.now.tokens c.args.reader.now.texts c.loop-turn.invariant.text c.loop-turn.invariant.tokens c.loop-turn.invariant.texts c.in_ok-found.ensures.reads in
    let rest = parts_more c.args.reader.now.text c.args.reader.now.tokens (below c.args.reader.now.text c.args.reader.now.tokens c.args.self.now.depth) c.args.self.now.depth c.args.start _ _ _ _ _ _ _ e some is in
    record {
      rest = rest;
      text = c.in_ok-found.ensures.reads.text ∙ c.loop-turn.invariant.text;
      tokens = c.in_ok-found.ensures.reads.tokens ∙ c.loop-turn.invariant.tokens;
      texts = c.in_ok-found.ensures.reads.texts ∙ c.loop-turn.invariant.texts;
      spelled = in_texts _ _ _ c.in_ok-found.ensures.spelled c.loop-turn.invariant.texts;
    }

pub returns-clause-reads : goal.returns-clause-reads
returns-clause-reads g c =
    let e = no_more (λ n. parts_after c.args.reader.now.text c.args.reader.now.tokens (below c.args.reader.now.text c.args.reader.now.tokens c.args.self.now.depth) c.args.self.now.depth c.args.start n (spelled_declarator c.args.reader.now.texts c.loop-turn.found) c.loop-turn.reader.state) _ c.loop-turn._turn c.loop-turn-test.false c.loop-turn.invariant.rest in
    let z = parts-zero c.args.reader.now.text c.args.reader.now.tokens (below c.args.reader.now.text c.args.reader.now.tokens c.args.self.now.depth) c.args.self.now.depth c.args.start (spelled_declarator c.args.reader.now.texts c.loop-turn.found) c.loop-turn.reader.state in
    first_of (search rules, grind (arith, common_steps))
