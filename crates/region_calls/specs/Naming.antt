-- What a word names among the slots of a region.
use Rattle.std.specs.Prelude.{◌≡◌, ℕ, ◌+◌, ◌%◌, ◌<◌, ◌≤◌, true, false, length, Some, None, ◌==◌}
use Rattle.lowfat_regions.specs.Regions.{Slot, slot_of}
use Rattle.slot_headers.specs.Words.{address_of, version_of}
use Rattle.heap_model.specs.Cells.{Act, access_report, width}
use Rattle.heap_model.specs.Heap.{Body}
use Rattle.heap_model.specs.Answers.{access, is_inside, offset}
use Rattle.heap_model.specs.Forms.{is_access_report}
use Rattle.heap_model.specs.declared.calls.AccessKind.{AccessKind}
use Rattle.heap_model.specs.declared.calls.Reach.{Reach}
use Rattle.heap_model.specs.declared.calls.ReportKind.{ReportKind}
use Rattle.heap_model.specs.declared.calls.Reply.TheVariants.{Report}
use Rattle.heap_model.specs.State.{State, live_by, dead_by}
use Rattle.object_slots.specs.declared.facts.Facts.{Facts}
use Rattle.object_slots.specs.Objects.{facts_of}
use Rattle.object_slots.specs.SlotStates.{state_at, IsLive, OfObject}
use Rattle.region_calls.specs.declared.naming.NamedObject.{NamedObject}
use Rattle.region_calls.specs.declared.naming.NamedObject.TheVariants.{Nothing, Dead, Live}

abbrev pub nth_slot : State → ℕ → Slot
nth_slot st n = record { region = st.region; number = n }

-- an address lies in a slot that was taken
pub record IsInSlot (st : State) (anchor n : ℕ) : Type 0 where
  pub taken : n < length st.states
  pub slot : slot_of anchor ≡ Some (nth_slot st n)

-- by this anchor a word names no object
pub record NamesNone (st : State) (anchor word : ℕ) : Type 0 where
  pub live : live_by st anchor word ≡ None
  pub dead : dead_by st anchor word ≡ false

-- by this anchor a word names a dead object of a slot
pub record NamesDead (st : State) (anchor word n : ℕ) : Type 0 where
  pub at : IsInSlot st anchor n
  pub live : live_by st anchor word ≡ None
  pub dead : dead_by st anchor word ≡ true

-- by this anchor a word names the live object of a slot, of which this is known
pub record NamesLive (st : State) (anchor word n : ℕ) (facts : Facts) : Type 0 where
  pub at : IsInSlot st anchor n
  pub version : version_of word ≡ (state_at st.states n).versions
  pub object : Body ℕ
  pub body : (state_at st.states n).body ≡ Some object
  pub known : facts ≡ facts_of object

abbrev pub Names : State → ℕ → ℕ → NamedObject → Type 0
Names st anchor word Nothing = NamesNone st anchor word
Names st anchor word (Dead n) = NamesDead st anchor word n
Names st anchor word (Live n facts) = NamesLive st anchor word n facts

-- An access of this kind may be made: at this offset of the live object of a slot.
pub record IsAccess (st : State) (p : ℕ) (reach : Reach) (kind : AccessKind) (n k : ℕ) : Type 0 where
  pub not_null : (version_of p == 0) ≡ false
  pub facts : Facts
  pub named : NamesLive st reach.lo p n facts
  pub offset_is : k ≡ offset reach.lo p
  pub placed : access_report (is_inside reach (address_of p) (width kind)) k (width kind)
      (length named.object.cells) ≡ None

-- Where an access of this kind may be made, whoever asks for it: at this offset of the live object of a slot.
pub record IsPlace (st : State) (n k : ℕ) (kind : AccessKind) : Type 0 where
  pub live : IsLive st n
  pub aligned : k % width kind ≡ 0
  pub inside : OfObject st n (λ o. k + width kind ≤ length o.cells)

-- An access of this kind may not be made, and gets this report, whatever it does.
abbrev pub GetsReport : State → ℕ → Reach → AccessKind → ReportKind → Type 0
GetsReport st p reach kind report = ((act : Act ℕ) → access (live_by st) p reach kind act ≡ Report report) ×
    (is_access_report report ≡ true)
