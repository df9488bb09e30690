use Rattle.std.proofs.Common.{refl}
use Rattle.token_reader.specs.Found.{spelled_declarator}
use Rattle.declarator_parser.specs.Below.{below}
use Rattle.declarator_parser.proofs.Parts.{function-high}
use Rattle.declarator_parser.proofs.declaring.Declaring.function_after.Goals as goal

pub returns-then-returned-self-clause-reads : goal.returns-then-returned-self-clause-reads
returns-then-returned-self-clause-reads g c = record {
  answer = λ at is. function-high c.args.reader.now.text c.args.reader.now.tokens (below c.args.reader.now.text c.args.reader.now.tokens c.args.self.now.depth)
      c.args.self.now.depth c.args.start (spelled_declarator c.args.reader.now.texts c.args.returned) c.args.reader.now.state c.if-returned-self.true;
  text = refl;
  tokens = refl;
  texts = refl;
}
