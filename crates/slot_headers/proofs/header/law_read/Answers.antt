use Rattle.slot_headers.proofs.Headers.{read_law}
use Rattle.slot_headers.proofs.header.law_read.Goals as goal

pub returns : goal.returns
returns c = read_law
