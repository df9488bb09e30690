use Rattle.std.proofs.Common.{refl}
use Rattle.declarator_parser.proofs.SpecifierLoop.{no_braced}
use Rattle.declarator_parser.proofs.declaring.Declaring.braced_members.Goals as goal

pub returns-then-self-eq0 : goal.returns-then-self-eq0
returns-then-self-eq0 g c = record {
  answer = λ at is. no_braced c.args.self.now.depth c.args.reader.now.text c.args.reader.now.tokens c.args.which c.args.tag c.args.start c.args.reader.now.state c.if-self-eq0.true;
  text = refl;
  tokens = refl;
  texts = refl;
}
