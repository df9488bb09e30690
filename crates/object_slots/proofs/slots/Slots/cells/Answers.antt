use Rattle.std.proofs.Common.{subst}
use Rattle.heap_model.specs.State.{State}
use Rattle.object_slots.specs.Objects.{AreStored}
use Rattle.object_slots.proofs.Laws.{are-stored}
use Rattle.object_slots.proofs.slots.Slots.cells.Goals as goal

pub returns : goal.returns
returns c =
    subst (λ (st : State). AreStored c.self.inside.store st) c.self.view_is
    (are-stored c.self.inside.region c.self.inside.store c.self.inside.free c.self.inside.made c.self.invariant c.law_slots.ensures)
