use Rattle.heap_model.proofs.history_laws.law_extension.Goals as goal
use Rattle.heap_model.proofs.Extension as extension

pub returns : goal.returns
returns c = extension.extension_law
