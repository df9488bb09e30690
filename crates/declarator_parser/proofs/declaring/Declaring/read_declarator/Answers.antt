use Rattle.grammar_descent.specs.AllReaders.{readers}
use Rattle.token_reader.specs.Found.{spelled_found, HasSpelling}
use Rattle.declarator_parser.proofs.Depths.{declarator-at}
use Rattle.declarator_parser.proofs.Spellings.{same_spelled}
use Rattle.token_reader.proofs.Refusals.{same_reads, same_found}
use Rattle.declarator_parser.proofs.declaring.Declaring.read_declarator.Goals as goal

pub returns : goal.returns
returns g c =
    let found = c.declarator_step-found.result in
    let texts = c.args.reader.now.texts in
    let read = declarator-at c.args.self.now.depth c.args.how c.args.reader.now found c.declarator_step-found.new.reader c.declarator_step-found.ensures.reads in
    record {
      reads = same_reads (λ text ts. (readers text ts c.args.self.now.depth).declarator c.args.how) c.args.reader.now c.declarator_step-found.new.reader
          (spelled_found texts found) (spelled_found texts c.refused_at.result) (same_spelled texts found c.refused_at.result c.refused_at.ensures.same) read;
      spelled = same_found (HasSpelling texts) found c.refused_at.result c.refused_at.ensures.same c.declarator_step-found.ensures.spelled;
    }
