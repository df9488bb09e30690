use Rattle.std.proofs.Common.{subst}
use Rattle.heap_model.specs.State.{State}
use Rattle.object_slots.specs.Objects.{AreOfRegion}
use Rattle.object_slots.proofs.Laws.{of-region}
use Rattle.object_slots.proofs.slots.law_slots.Goals as goal

pub returns : goal.returns
returns c =
    subst (λ (st : State). AreOfRegion st) c.slots.view_is
    (of-region c.slots.inside.region c.slots.inside.store c.slots.inside.free c.slots.inside.made c.slots.invariant)
