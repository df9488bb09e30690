-- What is kept true of the heap of a region.
use Rattle.heap_model.specs.Answers.{Words}
use Rattle.heap_model.specs.State.{State, StandsFor}
use Rattle.region_calls.specs.Serving.{HasPieces}

-- The slots stand for a heap of objects, in which pointers stand whole.
pub record IsHeapOfRegion (st : State) : Type 0 where
  pub heap : Words
  pub stands : StandsFor st heap
  pub pieces : HasPieces st
