-- What the slots of a region are before a call and after it.
use Rattle.std.specs.Prelude.{◌≡◌, ℕ, Bool, true, false, Some}
use Rattle.heap_model.specs.Heap.{Body}
use Rattle.heap_model.specs.State.{State, StandsFor}
use Rattle.heap_model.specs.Answers.{Words, next}
use Rattle.heap_model.specs.Forms.{suits_call}
use Rattle.heap_model.specs.Layouts.{Layouts}
use Rattle.heap_model.specs.Legal.{knows_types}
use Rattle.heap_model.specs.Pieces.{HasWholePieces}
use Rattle.heap_model.specs.declared.calls.Call.{Call}
use Rattle.heap_model.specs.declared.calls.Call.TheVariants.{Alloc, Free, Check, Load, Store, Add}
use Rattle.heap_model.specs.declared.calls.Reply.{Reply}
use Rattle.object_slots.specs.SlotStates.{state_at}

-- The element type of each live object is one of those that there are.
abbrev pub KnowsElements : Layouts → State → Type 0
KnowsElements layouts st = (n : ℕ) (o : Body ℕ) → (state_at st.states n).body ≡ Some o → layouts.has o.elem ≡ true

-- Pointers stand whole in the live objects, and none of them is null.
abbrev pub HasPieces : State → Type 0
HasPieces st = (n : ℕ) (o : Body ℕ) → (state_at st.states n).body ≡ Some o → HasWholePieces o.cells

-- A call that is replied to so leaves slots that stand for the next heap, and the reply suits it.
pub record IsServed (st now : State) (call : Call) (reply : Reply) : Type 0 where
  pub next : (worker number : ℕ) (h : Words) → StandsFor st h → StandsFor now (next worker number h call reply)
  pub suits : HasPieces st → suits_call call reply ≡ true
  pub elements : (layouts : Layouts) → knows_types layouts call ≡ true → KnowsElements layouts st
      → KnowsElements layouts now
  pub pieces : HasPieces st → HasPieces now
  pub region : now.region ≡ st.region

-- a call that can be out of memory
abbrev pub takes_memory : Call → Bool
takes_memory (Alloc elem size fixed) = true
takes_memory (Free p fixed) = false
takes_memory (Check p want) = false
takes_memory (Load p reach kind) = false
takes_memory (Store p reach kind value) = false
takes_memory (Add p reach kind value) = false
