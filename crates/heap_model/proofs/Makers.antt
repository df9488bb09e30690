-- A call makes one object at most.
use Rattle.std.proofs.Common.{arith}
use Rattle.std.specs.Prelude.{nat_le}
use Rattle.heap_model.specs.Heap.{empty}
use Rattle.heap_model.specs.Legal.{own}
use Rattle.heap_model.specs.Makers.{MakersLaw}
use Rattle.heap_model.proofs.Unique.{made-replay, calls-of, counted, one_if-le}

pub makers_law : MakersLaw
makers_law history worker number numbered =
    omega (
      arith,
      made-replay worker number empty history,
      calls-of worker number history,
      counted number 0 (own history worker) (numbered worker),
      one_if-le (nat_le 0 number),
    )
