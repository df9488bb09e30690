-- What is kept of the slots of a region, as a list by their numbers.
use Rattle.std.specs.Prelude.{◌≡◌, ℕ, ◌+◌, true, nat_lt, List, [], ◌∷◌, ◌++◌, length, get_or, set, sum_by, is_some, Some, None, if◌then◌else◌}
use Rattle.slot_headers.specs.Cells.{Cell}
use Rattle.heap_model.specs.Heap.{Body}
use Rattle.heap_model.specs.State.{State, SlotState, fresh_slot, one_if}

abbrev pub state_at : List SlotState → ℕ → SlotState
state_at states n = get_or states n fresh_slot

-- A slot has a live object.
abbrev pub IsLive : State → ℕ → Type 0
IsLive st n = is_some (state_at st.states n).body ≡ true

-- This holds of the live object of a slot.
abbrev pub OfObject : State → ℕ → (Body ℕ → Type 0) → Type 0
OfObject st n P = (o : Body ℕ) → (state_at st.states n).body ≡ Some o → P o

-- how many objects live
abbrev pub count_live : List SlotState → ℕ
count_live = sum_by (λ p. one_if (is_some p.body))

-- how many were made
abbrev pub count_made : List SlotState → ℕ
count_made = sum_by (λ p. p.versions)

-- the state of a slot whose next object lives
abbrev pub next_object : SlotState → Body ℕ → SlotState
next_object p o = record { versions = 1 + p.versions; body = Some o }

-- a slot whose object died
abbrev pub without_object : SlotState → SlotState
without_object p = record { versions = p.versions; body = None }

-- a slot whose object has other cells
abbrev pub with_cells_of : SlotState → Body ℕ → List (Cell ℕ) → SlotState
with_cells_of p o cells = record { versions = p.versions; body = Some (record { elem = o.elem; fixed = o.fixed; cells = cells }) }

-- an object is placed in a slot: in one that was taken, or in the next
abbrev pub with_object : List SlotState → ℕ → Body ℕ → List SlotState
with_object states n o =
    if nat_lt n (length states) then set states n (next_object (state_at states n) o) else states ++ next_object fresh_slot o ∷ []

-- the object of a slot has other cells
abbrev pub with_cells_in : State → ℕ → Body ℕ → List (Cell ℕ) → State
with_cells_in st n o cells = record { region = st.region; states = set st.states n (with_cells_of (state_at st.states n) o cells); resting = st.resting }
