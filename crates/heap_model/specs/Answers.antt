-- What the heap of a history answers. Its pointer values are words.
use Rattle.std.specs.Prelude.{ℕ, ◌+◌, Bool, true, false, ◌&&◌, ◌==◌, nat_le, if◌then◌else◌, length, Option, Some, None, unwrap_or}
use Rattle.lowfat_regions.specs.Regions.{Slot, is_slot, slot_of, object_address}
use Rattle.slot_headers.specs.Words.{address_of, version_of}
use Rattle.heap_model.specs.Objects.{offset_in}
use Rattle.slot_headers.specs.Cells.{zeros}
use Rattle.heap_model.specs.Cells.{Datum, Number, Pointer, Act, Loads, Stores, Adds, Outcome, Did, Gave, Refused, width, access_cells}
use Rattle.heap_model.specs.Heap.{Body, Object, Heap, live_body, has_dead, free_outcome, access_at, with_new, with_dead, with_cells}
use Rattle.heap_model.specs.Layouts.{Layouts}
use Rattle.type_layout.specs.declared.preference.Bounds.{Bounds}
use Rattle.heap_model.specs.declared.calls.AccessKind.{AccessKind}
use Rattle.heap_model.specs.declared.calls.Reach.{Reach}
use Rattle.heap_model.specs.declared.calls.Value.{Value}
use Rattle.heap_model.specs.declared.calls.Call.{Call}
use Rattle.heap_model.specs.declared.calls.Call.TheVariants.{Alloc, Free, Check, Load, Store, Add}
use Rattle.heap_model.specs.declared.calls.Reply.{Reply}
use Rattle.heap_model.specs.declared.calls.Reply.TheVariants.{Placed, NoSlot, Done, Found, Value as Moved, Report}
use Rattle.heap_model.specs.declared.calls.ReportKind.TheVariants.{WrongType, Free as Freed, Null, BadFree}

-- the name of an object: its slot, its version there, and the call that made it
pub record Name : Type 0 where
  pub slot : Slot
  pub version : ℕ
  pub worker : ℕ
  pub number : ℕ

abbrev pub region : Name → ℕ
region n = n.slot.region

abbrev pub Words : Type 0
Words = Heap Name ℕ

-- ---- names

abbrev pub is_in : Slot → Name → Bool
is_in s n = is_slot n.slot s

-- whether a word of this version names the object, where its anchor lies in this slot
abbrev pub is_at : Option Slot → ℕ → Name → Bool
is_at None version n = false
is_at (Some s) version n = is_in s n && (n.version == version)

-- whether the word names the object by an anchor address
abbrev pub names : ℕ → ℕ → Name → Bool
names anchor word = is_at (slot_of anchor) (version_of word)

unfoldable pub slot_at : ℕ → Slot
slot_at address = unwrap_or (slot_of address) (record { region = 0; number = 0 })

-- how far a word is past the first byte of the object that it names by the anchor
unfoldable pub offset : ℕ → ℕ → ℕ
offset anchor word = offset_in (slot_at anchor) (address_of word)

-- the address of the first byte
unfoldable pub first_byte : ℕ → ℕ
first_byte anchor = object_address (slot_at anchor)

-- ---- replies

abbrev pub datum : Value → Datum ℕ
datum v = if v.pointer then Pointer v.bits else Number v.bits

abbrev pub value : Datum ℕ → Value
value (Number n) = record { bits = n; pointer = false }
value (Pointer w) = record { bits = w; pointer = true }

abbrev pub reply : Outcome ℕ → Reply
reply Did = Done
reply (Gave d) = Moved (value d)
reply (Refused kind) = Report kind

abbrev pub found_reply : ℕ → Option Bounds → Reply
found_reply first None = Report WrongType
found_reply first (Some b) = Found (record { lo = first + b.lo; hi = first + b.hi })

abbrev pub check_reply : Layouts → ℕ → ℕ → ℕ → Option (Body ℕ) → Reply
check_reply layouts k first want None = Report Freed
check_reply layouts k first want (Some o) = found_reply first (layouts.preferred o.elem (length o.cells) k want)

-- whether the bytes of an access are inside its reach
abbrev pub is_inside : Reach → ℕ → ℕ → Bool
is_inside reach address w = nat_le reach.lo address && nat_le (address + w) reach.hi

-- the report of a null word, or else the reply
abbrev pub unless_null : ℕ → Reply → Reply → Reply
unless_null word null other = if version_of word == 0 then null else other

-- What a heap is asked for: the live object that a word names by an anchor, and whether a dead one is named so
abbrev pub Live : Type 0
Live = ℕ → ℕ → Option (Body ℕ)

abbrev pub Dead : Type 0
Dead = ℕ → ℕ → Bool

-- what an access answers
unfoldable pub access : Live → ℕ → Reach → AccessKind → Act ℕ → Reply
access live p reach kind act =
    unless_null p (Report Null)
    (reply (access_at (is_inside reach (address_of p) (width kind)) (offset reach.lo p) kind act (live reach.lo p)))

-- what is replied to a call that is no allocation
unfoldable pub answer_by : Layouts → Live → Dead → Call → Reply
answer_by layouts live dead (Alloc elem size fixed) = NoSlot
answer_by layouts live dead (Free p fixed) =
    if p == 0 then Done
    else unless_null p (Report BadFree)
    (reply (free_outcome (offset (address_of p) p) fixed (live (address_of p) p) (dead (address_of p) p)))
answer_by layouts live dead (Check p want) =
    unless_null p (Report Null)
    (check_reply layouts (offset (address_of p) p) (first_byte (address_of p)) want (live (address_of p) p))
answer_by layouts live dead (Load p reach kind) = access live p reach kind Loads
answer_by layouts live dead (Store p reach kind v) = access live p reach kind (Stores (datum v))
answer_by layouts live dead (Add p reach kind n) = access live p reach kind (Adds n)

abbrev pub live_in : Words → Live
live_in h anchor word = live_body (names anchor word) h

abbrev pub dead_in : Words → Dead
dead_in h anchor word = has_dead (names anchor word) h

abbrev pub answer : Layouts → Words → Call → Reply
answer layouts h call = answer_by layouts (live_in h) (dead_in h) call

-- ---- the next heap, after a call of a worker with this number and its reply

abbrev pub new_object : ℕ → ℕ → ℕ → ℕ → Bool → ℕ → Object Name ℕ
new_object worker number elem size fixed word =
    record {
      name = record { slot = slot_at (address_of word); version = version_of word; worker = worker; number = number };
      body = record { elem = elem; fixed = fixed; cells = zeros size };
    }

abbrev pub after_access : ℕ → Reach → AccessKind → Act ℕ → Words → Words
after_access p reach kind act h = with_cells (names reach.lo p) (access_cells (offset reach.lo p) kind act) h

unfoldable pub next : ℕ → ℕ → Words → Call → Reply → Words
next worker number h (Alloc elem size fixed) (Placed word) = with_new (new_object worker number elem size fixed word) h
next worker number h (Free p fixed) Done = with_dead (names (address_of p) p) h
next worker number h (Store p reach kind v) Done = after_access p reach kind (Stores (datum v)) h
next worker number h (Add p reach kind n) (Moved v) = after_access p reach kind (Adds n) h
next worker number h _ _ = h
