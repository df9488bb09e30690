use Rattle.std.proofs.Common.{refl}
use Rattle.token_reader.specs.Found.{spelled_declarator}
use Rattle.declarator_parser.specs.Below.{below}
use Rattle.declarator_parser.proofs.Parts.{array-high}
use Rattle.declarator_parser.proofs.declaring.Declaring.array_after.Goals as goal

pub returns-then-element-self-clause-reads : goal.returns-then-element-self-clause-reads
returns-then-element-self-clause-reads g c = record {
  answer = λ at is. array-high c.args.reader.now.text c.args.reader.now.tokens (below c.args.reader.now.text c.args.reader.now.tokens c.args.self.now.depth)
      c.args.self.now.depth c.args.start (spelled_declarator c.args.reader.now.texts c.args.element) c.args.reader.now.state c.if-element-self.true;
  text = refl;
  tokens = refl;
  texts = refl;
}
