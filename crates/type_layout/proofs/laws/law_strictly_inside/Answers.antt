use Rattle.type_layout.proofs.Consequences.{strictly_inside}
use Rattle.type_layout.proofs.laws.law_strictly_inside.Goals as goal

pub returns : goal.returns
returns c = strictly_inside
