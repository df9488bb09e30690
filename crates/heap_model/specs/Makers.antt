-- Which call made an object.
use Rattle.std.specs.Prelude.{ℕ, ◌≤◌, Bool, ◌&&◌, ◌==◌, List}
use Rattle.heap_model.specs.Heap.{empty, made_count}
use Rattle.heap_model.specs.Answers.{Name}
use Rattle.heap_model.specs.Legal.{IsWellNumbered, replay}
use Rattle.heap_model.specs.declared.calls.Entry.{Entry}

-- whether the object was made by the call of this worker with this number
abbrev pub is_made_by : ℕ → ℕ → Name → Bool
is_made_by worker number n = (n.worker == worker) && (n.number == number)

-- In a well numbered history each call of a worker makes one object at most, of the live and the dead ones together.
abbrev pub MakersLaw : Type 0
MakersLaw =
    (history : List Entry) (worker number : ℕ) → IsWellNumbered history
    → made_count (is_made_by worker number) (replay empty history) ≤ 1
