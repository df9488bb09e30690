-- The heaps of the regions, as a list from region 1 on.
use Rattle.std.specs.Prelude.{◌≡◌, ◌≢◌, ℕ, zero, suc, ◌≤◌, List, [], get_or, true}
use Rattle.heap_model.specs.Heap.{empty}
use Rattle.heap_model.specs.Answers.{Words, next}
use Rattle.heap_model.specs.Forms.{suits_call}
use Rattle.heap_model.specs.Legal.{Answers}
use Rattle.heap_model.specs.Layouts.{Layouts}
use Rattle.heap_model.specs.State.{State, StandsFor}
use Rattle.heap_model.specs.declared.calls.Call.{Call}
use Rattle.heap_model.specs.declared.calls.Reply.{Reply}
use Rattle.region_calls.specs.Serving.{KnowsElements}

abbrev pub no_heap : State
no_heap = record { region = 0; states = []; resting = [] }

-- the heap of a region
abbrev pub heap_of : List State → ℕ → State
heap_of heaps zero = no_heap
heap_of heaps (suc n) = get_or heaps n no_heap

-- this is the empty heap of a region
pub record IsEmptyHeap (heap : State) (region : ℕ) : Type 0 where
  pub region_is : heap.region ≡ region
  pub states : heap.states ≡ []
  pub stands : StandsFor heap empty

-- the heaps of the regions up to this one are empty
abbrev pub AreEmpty : List State → ℕ → Type 0
AreEmpty heaps last = (region : ℕ) → 1 ≤ region → region ≤ last → IsEmptyHeap (heap_of heaps region) region

-- A call is answered by the heap of a region, and changes that heap alone.
pub record Steps (layouts : Layouts) (old new : List State) (region : ℕ) (call : Call) (reply : Reply) : Type 0 where
  pub others : (r : ℕ) → r ≢ region → heap_of new r ≡ heap_of old r
  pub region_is : (heap_of new region).region ≡ region
  pub answers : (h : Words) → StandsFor (heap_of old region) h → Answers layouts h region call reply
  pub next : (worker number : ℕ) (h : Words) → StandsFor (heap_of old region) h
      → StandsFor (heap_of new region) (next worker number h call reply)
  pub elements : KnowsElements layouts (heap_of new region)
  pub suits : suits_call call reply ≡ true
