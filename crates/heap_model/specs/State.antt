-- What the heap of one region keeps, slot by slot, and the heaps of objects that it stands for.
use Rattle.std.specs.Prelude.{ℕ, ◌≡◌, ◌+◌, Bool, false, ◌&&◌, ◌||◌, ◌==◌, nat_lt, cond, if◌then◌else◌, List, map, reverse, get_or, sum_by, Option, Some, None, is_some, is_none}
use Rattle.lowfat_regions.specs.Regions.{Slot, is_slot, slot_of}
use Rattle.slot_headers.specs.Words.{version_of}
use Rattle.heap_model.specs.Heap.{Body, live_body, has_dead, live_count, made_count, is_of, resting}
use Rattle.heap_model.specs.Answers.{Name, region, Words, is_in, is_at, Live, Dead}

-- of one slot: how many objects were made in it, which is the last one's version, and that one while it lives
pub record SlotState : Type 0 where
  pub versions : ℕ
  pub body : Option (Body ℕ)

abbrev pub fresh_slot : SlotState
fresh_slot = record { versions = 0; body = None }

-- the states of the slots from 0 on, and the numbers of the slots at rest in the order in which they were freed
pub record State : Type 0 where
  pub region : ℕ
  pub states : List SlotState
  pub resting : List ℕ

abbrev pub state_of : State → Slot → SlotState
state_of st t = if t.region == st.region then get_or st.states t.number fresh_slot else fresh_slot

-- the live object of a version, and whether one is dead
abbrev pub live_at : SlotState → ℕ → Option (Body ℕ)
live_at p v = if v == p.versions then p.body else None

abbrev pub dead_at : SlotState → ℕ → Bool
dead_at p v = nat_lt 0 v && (nat_lt v p.versions || ((v == p.versions) && is_none p.body))

abbrev pub at_slot : {X : Type 0} → (Slot → X) → X → Option Slot → X
at_slot f x None = x
at_slot f x (Some t) = f t

-- what words name
abbrev pub live_by : State → Live
live_by st anchor word = at_slot (λ t. live_at (state_of st t) (version_of word)) None (slot_of anchor)

abbrev pub dead_by : State → Dead
dead_by st anchor word = at_slot (λ t. dead_at (state_of st t) (version_of word)) false (slot_of anchor)

abbrev pub one_if : Bool → ℕ
one_if b = cond b 1 0

abbrev pub live_objects : State → ℕ
live_objects st = sum_by (λ p. one_if (is_some p.body)) st.states

abbrev pub all_versions : State → ℕ
all_versions st = sum_by (λ p. p.versions) st.states

-- the number of an object's slot
abbrev pub slot_number : Name → ℕ
slot_number n = n.slot.number

-- the state stands for a heap of objects, of which it knows no makers, and of the dead their versions and which died last
pub record StandsFor (st : State) (h : Words) : Type 0 where
  pub live : (t : Slot) (v : ℕ) → live_body (is_at (Some t) v) h ≡ live_at (state_of st t) v
  pub dead : (t : Slot) (v : ℕ) → has_dead (is_at (Some t) v) h ≡ dead_at (state_of st t) v
  pub slot_live : (t : Slot) → live_count (is_in t) h ≡ one_if (is_some (state_of st t).body)
  pub slot_made : (t : Slot) → made_count (is_in t) h ≡ (state_of st t).versions
  pub region_live : live_count (is_of region st.region) h ≡ live_objects st
  pub region_made : made_count (is_of region st.region) h ≡ all_versions st
  pub at_rest : st.resting ≡ reverse (map slot_number (resting region st.region h))

-- ---- the next state

-- the state of one slot is another, or a slot is new
pub record ChangesSlot (st now : State) (s : Slot) (p : SlotState) : Type 0 where
  pub region_is : now.region ≡ st.region
  pub state : (t : Slot) → state_of now t ≡ cond (is_slot t s) p (state_of st t)
  pub live : live_objects now + one_if (is_some (state_of st s).body) ≡ live_objects st + one_if (is_some p.body)
  pub made : all_versions now + (state_of st s).versions ≡ all_versions st + p.versions
