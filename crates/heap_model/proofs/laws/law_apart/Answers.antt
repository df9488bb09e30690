use Rattle.heap_model.proofs.laws.law_apart.Goals as goal
use Rattle.heap_model.proofs.Apart as apart

pub returns : goal.returns
returns c = apart.law
