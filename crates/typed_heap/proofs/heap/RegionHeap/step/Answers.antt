use Rattle.typed_heap.proofs.Keeping.{kept-after}
use Rattle.typed_heap.proofs.heap.RegionHeap.step.Goals as goal

pub invariant_of-self : goal.invariant_of-self
invariant_of-self c =
    kept-after c.answer.result c.self.inside.slots c.answer.new.slots c.args.call.now c.self.invariant
    c.answer.ensures.next
    c.answer.ensures.unchanged c.answer.ensures.pieces
