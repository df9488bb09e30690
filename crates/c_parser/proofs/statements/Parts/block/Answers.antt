use Rattle.std.proofs.Common.{ap, length, [], rules, arith}
use Rattle.std.proofs.lemmas.Grind.{common_steps}
use Rattle.grammar_descent.specs.AllReaders.{readers}
use Rattle.grammar_descent.specs.StatementSteps as step
use Rattle.token_reader.specs.Input.{Input}
use Rattle.token_reader.proofs.Reading.{found}
use Rattle.c_parser.proofs.Closings.{after_items}
use Rattle.c_parser.proofs.statements.Parts.block.Goals as goal

pub returns : goal.returns
unfolding step.block_of
returns g c =
    let text = c.args.reader.now.text in
    let ts = c.args.reader.now.tokens in
    let exact = c.law_readers.ensures.phrases text ts in
    let all = found (λ text ts. step.items text ts (readers text ts) c.args.depth (step.statement text ts (readers text ts) c.args.depth) (length ts) []) c.args.reader.now c.expect.new.self c.items.new.reader c.in_ok-items.items c.expect.ensures.kept.text c.expect.ensures.kept.tokens c.in_ok-items.ensures in
    let same = ap (λ (x : Input). x.state.scope) c.in_ok-expect.ensures.ok.1 in
    let back = after_items text ts (readers text ts) exact c.args.depth c.args.reader.now.state.scope c.expect.new.self.state c.items.new.reader.state c.in_ok-items.items same all in
    first_of (search rules, grind (arith, common_steps))
