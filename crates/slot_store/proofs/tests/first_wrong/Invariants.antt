use Rattle.std.proofs.Common.{◌≡◌}
use Rattle.slot_store.specs.Slots.{slot_size}
use Rattle.slot_store.proofs.tests.first_wrong.Given as goal

abbrev pub invariant-loop-slot : goal.invariant-loop-slot
invariant-loop-slot l = l.store.region ≡ l.region

abbrev pub invariant-loop-number : goal.invariant-loop-number
invariant-loop-number l = l.size ≡ slot_size l.store
