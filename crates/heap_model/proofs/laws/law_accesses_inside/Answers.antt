use Rattle.heap_model.proofs.laws.law_accesses_inside.Goals as goal
use Rattle.heap_model.proofs.Performed as performed

pub returns : goal.returns
returns c = performed.accesses_law
