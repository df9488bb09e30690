use Rattle.std.proofs.Common.{heap_items}
use Rattle.std.specs.BinaryHeap.{IsHeap}
use Rattle.clock_order.specs.Heads.{head_cmp}
use Rattle.clock_order.proofs.Starting.{AreFirst}
use Rattle.clock_order.proofs.merging.first_heads.Given as goal

abbrev pub invariant-loop-part : goal.invariant-loop-part
invariant-loop-part l = record {
  order : IsHeap head_cmp (heap_items l.heads);
  first : AreFirst l.parts l.part (heap_items l.heads);
}
