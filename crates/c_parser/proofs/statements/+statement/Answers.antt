use Rattle.std.proofs.Common.{rules, arith}
use Rattle.std.proofs.lemmas.Grind.{common_steps}
use Rattle.grammar_descent.specs.AllReaders.{readers}
use Rattle.c_parser.proofs.StatementSteps.{statement-zero, statement-suc}
use Rattle.c_parser.proofs.statements.+statement.Goals as goal

pub returns-then-depth-eq0 : goal.returns-then-depth-eq0
returns-then-depth-eq0 t c =
    let text = c.args.reader.now.text in
    let ts = c.args.reader.now.tokens in
    let e = statement-zero text ts (readers text ts) c.args.depth c.args.reader.now.state (omega arith) in
    first_of (search rules, grind (arith, common_steps))

pub returns : goal.returns
returns t c =
    let text = c.args.reader.now.text in
    let ts = c.args.reader.now.tokens in
    record {
      answer = rw (statement-suc text ts (readers text ts) c.args.depth c.args.reader.now.state (omega arith)) c.read_statement.ensures.answer;
      text = c.read_statement.ensures.text;
      tokens = c.read_statement.ensures.tokens;
      texts = c.read_statement.ensures.texts;
    }
