use Rattle.heap_model.proofs.laws.law_checks.Goals as goal
use Rattle.heap_model.proofs.Checks as checks

pub returns : goal.returns
returns c = checks.checks_law
