use Rattle.std.proofs.Common.{refl, rules, arith}
use Rattle.std.proofs.lemmas.Grind.{common_steps}
use Rattle.grammar_descent.specs.AllReaders.{readers}
use Rattle.grammar_descent.specs.StatementSteps as step
use Rattle.token_reader.proofs.Reading.{found}
use Rattle.c_parser.proofs.Closings.{after_body}
use Rattle.c_parser.proofs.statements.Parts.read_while.Goals as goal

pub returns : goal.returns
unfolding step.while_statement
returns g c =
    let text = c.args.reader.now.text in
    let ts = c.args.reader.now.tokens in
    let exact = c.law_readers.ensures.phrases text ts in
    let test = found (λ text ts. step.condition text ts (readers text ts) c.args.self.now.depth) c.args.reader.now c.args.reader.now c.condition.new.reader c.in_ok-test.test (refl) (refl) c.in_ok-test.ensures in
    let body = found (λ text ts. step.statement text ts (readers text ts) c.args.self.now.depth) c.args.reader.now c.condition.new.reader c.inner.new.reader c.in_ok-body.body (c.condition.ensures.text) (c.condition.ensures.tokens) c.in_ok-body.ensures in
    let back = after_body text ts (readers text ts) exact c.args.self.now.depth c.args.reader.now.state c.condition.new.reader.state c.condition.new.reader.state c.inner.new.reader.state c.in_ok-test.test c.in_ok-body.body test refl body in
    first_of (search rules, grind (arith, common_steps))
