use Rattle.heap_model.proofs.laws.law_found_preferred.Goals as goal
use Rattle.heap_model.proofs.Performed as performed

pub returns : goal.returns
returns c = performed.found_law
