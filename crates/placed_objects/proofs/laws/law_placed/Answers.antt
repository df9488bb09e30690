use Rattle.placed_objects.proofs.Placed.{placed_law}
use Rattle.placed_objects.proofs.laws.law_placed.Goals as goal

pub returns : goal.returns
returns c = placed_law
