use Rattle.std.proofs.Common.{ap}
use Rattle.slot_store.specs.Pages.{joined}
use Rattle.slot_store.proofs.pages.Pages.new.Goals as goal

pub returns : goal.returns
unfolding joined
returns c = ap joined c.new.ensures.items
