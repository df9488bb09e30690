use Rattle.plain_meaning.proofs.Wants.{wants}
use Rattle.plain_meaning.proofs.laws.law_wants.Goals as goal

pub returns : goal.returns
returns c = wants
