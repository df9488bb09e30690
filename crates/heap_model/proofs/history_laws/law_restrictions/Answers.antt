use Rattle.heap_model.proofs.history_laws.law_restrictions.Goals as goal
use Rattle.heap_model.proofs.Restricted as restricted

pub returns : goal.returns
returns c = restricted.restrictions_law
