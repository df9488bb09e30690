-- What a worker does, as a tree of events, whose pointers are left open: it prints, takes turns, comes to points at which it
-- matters how pointers are kept, and in the end returns or stops.
use Rattle.std.specs.Prelude.{ℕ, List}
use Rattle.heap_model.specs.declared.calls.AccessKind.{AccessKind}
use Rattle.plain_meaning.specs.declared.record.Ending.{Ending}
use Rattle.plain_meaning.specs.declared.scalar.Scalar.{Scalar}

-- What is done at a point: a heap call, a test or check of a pointer, or what rests on how it is kept. A point has two values,
-- of which the first is the pointer where nothing else is said.
pub data Action : Type 0 where
  -- the null pointer
  Null : Action
  -- whether the pointer is null: 1 or 0
  IsNull : Action
  -- a new object of an element type, whose size in bytes is the first value
  Allocate : ℕ → Action
  -- the end of an object that is not fixed
  Free : Action
  -- a number is read, or the second value is written
  Load : AccessKind → Action
  Store : AccessKind → Action
  -- the pointer is an argument of a call
  Pass : Action
  -- the pointer is converted to one to a type
  Convert : ℕ → Action
  -- the pointer is moved by so many values, the second value, of a size
  Move : ℕ → Action

pub data Tree (P R : Type 0) : Type 0 where
  -- it returns
  Return : R → Tree P R
  -- it ends here
  Stop : Ending → Tree P R
  -- past the turns that are looked at
  Lost : Tree P R
  -- it prints these bytes and goes on
  Print : List ℕ → Tree P R → Tree P R
  -- it takes a turn, on this line, and goes on
  Turn : ℕ → Tree P R → Tree P R
  -- it comes to a point, on this line, and goes on with a value
  Point : ℕ → Action → Scalar P → Scalar P → (Scalar P → Tree P R) → Tree P R
