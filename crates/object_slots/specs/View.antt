-- What is seen of the slots of a region and their objects, and what is kept true of them.
use Rattle.std.specs.Prelude.{◌≡◌, ℕ, ◌<◌, ◌≤◌, Bool, false, if◌then◌else◌, List, map, length, Option, Some, None, is_some}
use Rattle.std.specs.List.{range_with_len}
use Rattle.std.specs.FinSet.{contains}
use Rattle.free_slots.specs.Slots.{Slots, live_count, made_count, resting_slots}
use Rattle.lowfat_regions.specs.Regions.{IsRegion, slots}
use Rattle.slot_headers.specs.declared.header.Header.{Header}
use Rattle.slot_headers.specs.Cells.{Cell, cells_at, put, zeros}
use Rattle.slot_headers.specs.Headers.{header_bytes, header_of}
use Rattle.slot_store.specs.Cells as store
use Rattle.slot_store.specs.Slots.{Contents, made, cells_of, slot_size}
use Rattle.heap_model.specs.Heap.{Body}
use Rattle.heap_model.specs.Objects.{max_objects}
use Rattle.heap_model.specs.State.{State, SlotState}
use Rattle.object_slots.specs.SlotStates.{state_at, count_live, count_made}
use Rattle.object_slots.specs.Objects.{FitsIn}

-- ---- what the cells of a slot show

abbrev pub header_in : List (Cell ℕ) → Header
header_in cells = header_of (store.header_bytes cells)

-- the object behind a header, and where the slot is taken
abbrev pub object_in : Header → List (Cell ℕ) → Body ℕ
object_in h cells = record { elem = h.kind; fixed = h.fixed; cells = cells_at header_bytes h.size cells }

abbrev pub body_in : Bool → Header → List (Cell ℕ) → Option (Body ℕ)
body_in taken h cells = if taken then Some (object_in h cells) else None

abbrev pub state_in : Bool → List (Cell ℕ) → SlotState
state_in taken cells = record { versions = (header_in cells).version; body = body_in taken (header_in cells) cells }

-- the cells with this header in front
abbrev pub with_header : Header → List (Cell ℕ) → List (Cell ℕ)
with_header h cells = put 0 (store.header_cells h) cells

-- ---- the states of the slots that were taken at least once

abbrev pub slot_in : Slots → Contents → ℕ → SlotState
slot_in free contents n = state_in (contains free.taken n) (cells_of contents n)

unfoldable pub states_in : Slots → Contents → List SlotState
states_in free contents = map (slot_in free contents) (range_with_len 0 (made_count free))

abbrev pub state_of : ℕ → Contents → Slots → State
state_of region contents free = record { region = region; states = states_in free contents; resting = resting_slots free }

-- ---- what is kept

-- The slots that are taken are those with a live object, and those that were ever taken have a state.
pub record TakesLive (states : List SlotState) (free : Slots) : Type 0 where
  pub made : made_count free ≡ length states
  pub few : length states ≤ free.count
  pub live : live_count free ≡ count_live states
  pub each : (n : ℕ) → contains free.taken n ≡ is_some (state_at states n).body

-- A slot that was taken begins with the bytes of a header, behind which there is room for the object and one byte more. Its
-- version is that of the last object, and its type is none where that died.
pub record IsSlot (region : ℕ) (taken : Bool) (cells : List (Cell ℕ)) : Type 0 where
  pub header : cells_at 0 header_bytes cells ≡ store.header_cells (header_in cells)
  pub version : 1 ≤ (header_in cells).version
  pub fits : FitsIn region (header_in cells).size
  pub freed : taken ≡ false → (header_in cells).kind ≡ 0

-- The slots of the store that were taken hold objects, so many in all, and those that are spare are zero.
pub record AreKept (region : ℕ) (contents : Contents) (free : Slots) (objects : ℕ) : Type 0 where
  pub is_region : IsRegion region
  pub same_region : contents.region ≡ region
  pub count : free.count ≡ slots region
  pub opened : made_count free ≤ made contents
  pub taken : (n : ℕ) → n < made_count free → IsSlot region (contains free.taken n) (cells_of contents n)
  pub spare : (n : ℕ) → made_count free ≤ n → n < made contents → cells_of contents n ≡ zeros (slot_size contents)
  pub live : TakesLive (states_in free contents) free
  pub counted : objects ≡ count_made (states_in free contents)
  pub most : objects ≤ max_objects

-- ---- a spare slot

-- Of a store with at most one slot more: the others are as they were, and that one is zero.
pub record IsOpened (old now : Contents) : Type 0 where
  pub region : now.region ≡ old.region
  pub more : made old ≤ made now
  pub same : (n : ℕ) → n < made old → cells_of now n ≡ cells_of old n
  pub zero : (n : ℕ) → made old ≤ n → n < made now → cells_of now n ≡ zeros (slot_size now)
