use Rattle.call_steps.proofs.CutLemmas.{are_cut}
use Rattle.call_steps.proofs.laws.law_calls.Goals as goal

pub returns : goal.returns
returns c = are_cut
