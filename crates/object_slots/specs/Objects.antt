-- The objects of a region's slots, and how they stand in the cells of a store (after low-fat pointers: an object's meta
-- data stand before its first byte).
use Rattle.std.specs.Prelude.{◌≡◌, ℕ, ◌+◌, ◌<◌, ◌≤◌, length, Some, None}
use Rattle.lowfat_regions.specs.Regions.{IsRegion, size_of, slots}
use Rattle.slot_headers.specs.declared.header.Header.{Header}
use Rattle.slot_headers.specs.Cells.{cells_at}
use Rattle.slot_headers.specs.Headers.{header_bytes, header_of}
use Rattle.slot_store.specs.Cells as store
use Rattle.slot_store.specs.Slots.{Contents, made, cells_of}
use Rattle.heap_model.specs.Heap.{Body}
use Rattle.heap_model.specs.Objects.{max_objects}
use Rattle.heap_model.specs.State.{State, SlotState}
use Rattle.object_slots.specs.declared.facts.Facts.{Facts}
use Rattle.object_slots.specs.SlotStates.{state_at, count_made}

-- ---- objects

-- what is known of an object without its cells
abbrev pub facts_of : Body ℕ → Facts
facts_of o = record { elem = o.elem; size = length o.cells; fixed = o.fixed }

-- an object of so many bytes fits into the slots of a region, with its header and at least one byte past it
abbrev pub FitsIn : ℕ → ℕ → Type 0
FitsIn region size = size + header_bytes + 1 ≤ size_of region

-- The states are those of slots of a region, each of which was taken, with objects that fit.
pub record AreOfRegion (st : State) : Type 0 where
  pub region : IsRegion st.region
  pub limit : length st.states ≤ slots st.region
  pub made : count_made st.states ≤ max_objects
  pub taken : (n : ℕ) → n < length st.states → 1 ≤ (state_at st.states n).versions
  pub fits : (n : ℕ) (o : Body ℕ) → (state_at st.states n).body ≡ Some o → FitsIn st.region (length o.cells)

-- ---- headers

-- the header of a live object: its type, version, whether it is fixed, and its size
abbrev pub object_header : SlotState → Body ℕ → Header
object_header p o = record { kind = o.elem; version = p.versions; fixed = o.fixed; size = length o.cells }

-- the header that the first 16 cells of a slot are
abbrev pub stored_header : Contents → ℕ → Header
stored_header contents n = header_of (store.header_bytes (cells_of contents n))

-- In the slot stands this object: the first 16 cells are the bytes of its header, which decode to it, and its own cells
-- follow.
pub record IsStored (contents : Contents) (n : ℕ) (p : SlotState) (o : Body ℕ) : Type 0 where
  pub header : cells_at 0 header_bytes (cells_of contents n) ≡ store.header_cells (object_header p o)
  pub decoded : stored_header contents n ≡ object_header p o
  pub object : cells_at header_bytes (length o.cells) (cells_of contents n) ≡ o.cells

-- A slot whose object died keeps its version, and has the number of no type.
pub record IsFreed (contents : Contents) (n : ℕ) (p : SlotState) : Type 0 where
  pub kind : (stored_header contents n).kind ≡ 0
  pub version : (stored_header contents n).version ≡ p.versions

-- The objects of all slots stand in this store.
pub record AreStored (contents : Contents) (st : State) : Type 0 where
  pub region : contents.region ≡ st.region
  pub made : length st.states ≤ made contents
  pub live : (n : ℕ) (o : Body ℕ) → (state_at st.states n).body ≡ Some o → IsStored contents n (state_at st.states n) o
  pub freed : (n : ℕ) → n < length st.states → (state_at st.states n).body ≡ None → IsFreed contents n (state_at st.states n)
