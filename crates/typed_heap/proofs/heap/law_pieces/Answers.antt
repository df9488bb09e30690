use Rattle.std.proofs.Common.{subst}
use Rattle.heap_model.specs.State.{State}
use Rattle.region_calls.specs.Serving.{HasPieces}
use Rattle.typed_heap.proofs.heap.law_pieces.Goals as goal

pub returns : goal.returns
returns c = subst (λ (st : State). HasPieces st) c.heap.view_is c.heap.invariant.pieces
