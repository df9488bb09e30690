use Rattle.placed_objects.proofs.Placed.{one_named_law}
use Rattle.placed_objects.proofs.laws.law_one_named.Goals as goal

pub returns : goal.returns
returns c = one_named_law c.law_apart.ensures
