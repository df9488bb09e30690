-- The heap of a region beside the history of the calls on it.
use Rattle.std.specs.Prelude.{◌≡◌, ℕ, List}
use Rattle.heap_model.specs.Heap.{empty}
use Rattle.heap_model.specs.Layouts.{Layouts}
use Rattle.heap_model.specs.Legal.{IsLegal, replay}
use Rattle.heap_model.specs.State.{State, StandsFor}
use Rattle.heap_model.specs.declared.calls.Entry.{Entry}
use Rattle.region_calls.specs.Serving.{KnowsElements}

-- The heap is that of a region whose entries are these: they are legal, and it stands for the heap of objects that they
-- leave.
pub record IsHeapOf (layouts : Layouts) (heap : State) (region : ℕ) (history : List Entry) : Type 0 where
  pub region_is : heap.region ≡ region
  pub legal : IsLegal layouts history
  pub stands : StandsFor heap (replay empty history)
  pub elements : KnowsElements layouts heap
