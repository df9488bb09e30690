use Rattle.std.proofs.Common.{refl}
use Rattle.declarator_parser.proofs.Depths.{no_parentheses}
use Rattle.declarator_parser.proofs.declaring.Declaring.parentheses_here.Goals as goal

pub returns-then-self-eq0-clause-reads : goal.returns-then-self-eq0-clause-reads
returns-then-self-eq0-clause-reads g c = record {
  answer = λ at is. no_parentheses c.args.reader.now.text c.args.reader.now.tokens c.args.self.now.depth c.args.how c.args.reader.now.state c.if-self-eq0.true;
  text = refl;
  tokens = refl;
  texts = refl;
}
