use Rattle.heap_model.proofs.history_laws.law_makers.Goals as goal
use Rattle.heap_model.proofs.Makers as makers

pub returns : goal.returns
returns c = makers.makers_law
