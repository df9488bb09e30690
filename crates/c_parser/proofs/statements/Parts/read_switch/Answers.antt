use Rattle.std.proofs.Common.{refl, rules, arith}
use Rattle.std.proofs.lemmas.Grind.{common_steps}
use Rattle.grammar_descent.specs.AllReaders.{readers}
use Rattle.grammar_descent.specs.StatementSteps as step
use Rattle.token_reader.proofs.Reading.{found}
use Rattle.c_parser.proofs.Closings.{after_switch}
use Rattle.c_parser.proofs.statements.Parts.read_switch.Goals as goal

pub returns : goal.returns
unfolding step.switch_statement
returns g c =
    let text = c.args.reader.now.text in
    let ts = c.args.reader.now.tokens in
    let exact = c.law_readers.ensures.phrases text ts in
    let test = found (λ text ts. step.condition text ts (readers text ts) c.args.self.now.depth) c.args.reader.now c.args.reader.now c.condition.new.reader c.in_ok-value.value (refl) (refl) c.in_ok-value.ensures in
    let body = found (λ text ts. step.block text ts (readers text ts) c.args.self.now.depth) c.args.reader.now c.condition.new.reader c.inner_block.new.reader c.in_ok-body.body (c.condition.ensures.text) (c.condition.ensures.tokens) c.in_ok-body.ensures in
    let back = after_switch text ts (readers text ts) exact c.args.self.now.depth c.args.reader.now.state c.condition.new.reader.state c.inner_block.new.reader.state c.in_ok-value.value c.in_ok-body.body test body in
    first_of (search rules, grind (arith, common_steps))
