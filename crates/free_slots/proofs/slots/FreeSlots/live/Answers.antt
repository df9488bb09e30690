use Rattle.std.proofs.Common.{arith}
use Rattle.free_slots.proofs.slots.FreeSlots.live.Goals as goal

pub overflow_cast-result : goal.overflow_cast-result
overflow_cast-result c = omega (arith, c.self.invariant.marks, c.self.invariant.whole.within, c.self.invariant.fits, c.self.inside.taken.ok.0, c.len.ensures)
