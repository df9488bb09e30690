use Rattle.type_layout.proofs.Consequences.{offset_within}
use Rattle.type_layout.proofs.laws.law_offset_within.Goals as goal

pub returns : goal.returns
returns c = offset_within
