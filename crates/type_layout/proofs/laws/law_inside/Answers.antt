use Rattle.type_layout.proofs.Consequences.{inside_object}
use Rattle.type_layout.proofs.laws.law_inside.Goals as goal

pub returns : goal.returns
returns c = inside_object
