use Rattle.std.proofs.Common.{rules, arith}
use Rattle.std.proofs.lemmas.Grind.{common_steps}
use Rattle.grammar_descent.specs.AllReaders.{readers}
use Rattle.c_parser.proofs.StatementSteps.{block-zero, block-suc}
use Rattle.c_parser.proofs.statements.Parts.inner_block.Goals as goal

pub returns-then-self-eq0 : goal.returns-then-self-eq0
returns-then-self-eq0 g c =
    let text = c.args.reader.now.text in
    let ts = c.args.reader.now.tokens in
    let e = block-zero text ts (readers text ts) c.args.self.now.depth c.args.reader.now.state (omega arith) in
    first_of (search rules, grind (arith, common_steps))

pub returns : goal.returns
returns g c =
    let text = c.args.reader.now.text in
    let ts = c.args.reader.now.tokens in
    record {
      answer = rw (block-suc text ts (readers text ts) c.args.self.now.depth c.args.reader.now.state (omega arith)) c.block.ensures.answer;
      text = c.block.ensures.text;
      tokens = c.block.ensures.tokens;
      texts = c.block.ensures.texts;
    }
