use Rattle.std.proofs.Common.{arith}
use Rattle.free_slots.proofs.Kept.{kept_unused}
use Rattle.free_slots.proofs.slots.FreeSlots.new.Goals as goal

pub invariant_of-result : goal.invariant_of-result
invariant_of-result c = kept_unused _ (omega (arith, c.ranges.slots)) c.new.ensures.items c.new-2.ensures.items c.new-3.ensures.items
