use Rattle.std.proofs.Common.{◌-◌, length, heap_items}
use Rattle.std.specs.BinaryHeap.{IsHeap}
use Rattle.clock_order.specs.Parts.{entries_of}
use Rattle.clock_order.specs.Heads.{left, AreHeads, head_cmp, IsMoved}
use Rattle.clock_order.proofs.merging.merged.Given as goal

abbrev pub invariant-loop-head : goal.invariant-loop-head
invariant-loop-head l = record {
  order : IsHeap head_cmp (heap_items l.heads);
  heads : AreHeads l.parts (heap_items l.heads);
  moved : IsMoved (entries_of l.parts) (left l.parts (heap_items l.heads)) l.merged.entries;
}

abbrev pub decreases-loop-head : goal.decreases-loop-head
decreases-loop-head l = length (entries_of l.parts) - length l.merged.entries
