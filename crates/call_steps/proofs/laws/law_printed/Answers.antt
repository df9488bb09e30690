use Rattle.call_steps.proofs.Promotions.{one_more}
use Rattle.call_steps.proofs.laws.law_printed.Goals as goal

pub returns : goal.returns
returns c = one_more
