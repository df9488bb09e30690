use Rattle.std.proofs.Common.{subst, sym}
use Rattle.heap_model.specs.State.{State}
use Rattle.typed_heap.specs.Region.{IsHeapOfRegion}
use Rattle.typed_heap.proofs.Keeping.{without-objects}
use Rattle.typed_heap.proofs.heap.RegionHeap.new.Goals as goal

pub invariant_of-result : goal.invariant_of-result
invariant_of-result c =
    subst (λ (st : State). IsHeapOfRegion st) (sym c.new.ensures) (without-objects c.args.region)
