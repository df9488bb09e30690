use Rattle.shared_heap.specs.Closing.{AreHistoriesOf}
use Rattle.shared_heap.proofs.regions.histories_of.Given as goal

abbrev pub invariant-loop-region : goal.invariant-loop-region
invariant-loop-region l = AreHistoriesOf l.yielded l.histories.items
