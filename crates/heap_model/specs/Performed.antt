-- Accesses that are performed, and bounds that are found.
use Rattle.std.specs.Prelude.{◌≡◌, ℕ, ◌+◌, ◌%◌, ◌≤◌, Bool, true, false, List, ◌∷◌, ◌++◌, length, Option, Some, None, IsFalse}
use Rattle.type_layout.specs.declared.preference.Bounds.{Bounds}
use Rattle.slot_headers.specs.Words.{address_of}
use Rattle.heap_model.specs.Cells.{width}
use Rattle.heap_model.specs.Heap.{Body, empty}
use Rattle.heap_model.specs.Layouts.{Layouts}
use Rattle.heap_model.specs.Answers.{Words, live_in, offset, first_byte}
use Rattle.heap_model.specs.Legal.{IsLegal, replay}
use Rattle.heap_model.specs.declared.calls.AccessKind.{AccessKind}
use Rattle.heap_model.specs.declared.calls.Reach.{Reach}
use Rattle.heap_model.specs.declared.calls.Call.{Call}
use Rattle.heap_model.specs.declared.calls.Call.TheVariants.{Alloc, Free, Check, Load, Store, Add}
use Rattle.heap_model.specs.declared.calls.Reply.{Reply}
use Rattle.heap_model.specs.declared.calls.Reply.TheVariants.{Placed, NoSlot, Done, Found, Value as Moved, Report}
use Rattle.heap_model.specs.declared.calls.Entry.{Entry}

-- where a call accesses: by which word, within which reach, and how
pub record Access : Type 0 where
  pub word : ℕ
  pub reach : Reach
  pub kind : AccessKind

-- of a load, a store or an add
abbrev pub access_of : Call → Option Access
access_of (Alloc elem size fixed) = None
access_of (Free p fixed) = None
access_of (Check p want) = None
access_of (Load p reach kind) = Some (record { word = p; reach = reach; kind = kind })
access_of (Store p reach kind v) = Some (record { word = p; reach = reach; kind = kind })
access_of (Add p reach kind n) = Some (record { word = p; reach = reach; kind = kind })

abbrev pub is_report : Reply → Bool
is_report (Placed word) = false
is_report NoSlot = false
is_report Done = false
is_report (Found reach) = false
is_report (Moved v) = false
is_report (Report kind) = true

-- An access is inside: its bytes are inside its reach and inside the live object that its word names, and aligned there.
pub record IsInside (h : Words) (at : Access) : Type 0 where
  pub body : Body ℕ
  pub named : live_in h at.reach.lo at.word ≡ Some body
  pub from : at.reach.lo ≤ address_of at.word
  pub to : address_of at.word + width at.kind ≤ at.reach.hi
  pub in_object : offset at.reach.lo at.word + width at.kind ≤ length body.cells
  pub aligned : offset at.reach.lo at.word % width at.kind ≡ 0

-- Bounds are found: they are the preferred ones, as addresses, of the live object that the word names.
pub record AreFound (layouts : Layouts) (h : Words) (word want : ℕ) (reach : Reach) : Type 0 where
  pub body : Body ℕ
  pub named : live_in h (address_of word) word ≡ Some body
  pub bounds : Bounds
  pub are_preferred : layouts.preferred body.elem (length body.cells) (offset (address_of word) word) want ≡ Some bounds
  pub from : reach.lo ≡ first_byte (address_of word) + bounds.lo
  pub to : reach.hi ≡ first_byte (address_of word) + bounds.hi

-- No access of a legal history that is performed leaves its reach or its object.
abbrev pub AccessesLaw : Type 0
AccessesLaw =
    (layouts : Layouts) (before later : List Entry) (e : Entry) (at : Access) → IsLegal layouts (before ++ e ∷ later)
    → access_of e.call ≡ Some at → IsFalse (is_report e.reply) → IsInside (replay empty before) at

-- Each check of a legal history that finds bounds finds the preferred ones.
abbrev pub FoundLaw : Type 0
FoundLaw =
    (layouts : Layouts) (before later : List Entry) (e : Entry) (word want : ℕ) (reach : Reach) → IsLegal layouts (before ++ e ∷ later)
    → e.call ≡ Check word want → e.reply ≡ Found reach → AreFound layouts (replay empty before) word want reach
