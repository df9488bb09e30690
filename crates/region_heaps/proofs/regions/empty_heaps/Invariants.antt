use Rattle.std.proofs.Common.{◌≡◌, ℕ, ◌+◌, ◌<◌, ◌≤◌, length}
use Rattle.region_heaps.specs.Regions.{IsEmptyHeap, heap_of}
use Rattle.region_heaps.proofs.regions.empty_heaps.Given as goal

abbrev pub invariant-loop-region : goal.invariant-loop-region
invariant-loop-region l =
    record {
      count : length l.heaps.items + 1 ≡ l.region;
      each : (r : ℕ) → 1 ≤ r → r < l.region → IsEmptyHeap (heap_of l.heaps.items r) r;
    }
