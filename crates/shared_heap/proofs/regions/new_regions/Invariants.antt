use Rattle.std.proofs.Common.{◌≡◌}
use Rattle.shared_heap.specs.Regions.{fresh_up_to}
use Rattle.shared_heap.proofs.regions.new_regions.Given as goal

abbrev pub invariant-loop-at : goal.invariant-loop-at
invariant-loop-at l = l.regions.items ≡ fresh_up_to l.table l.at
