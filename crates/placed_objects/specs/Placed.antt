-- The objects that a history placed, and which of them a word names.
use Rattle.std.specs.Prelude.{◌≡◌, ℕ, ◌≤◌, Bool, List, length, filter, find, Option, Some, None, option_map}
use Rattle.std.specs.List.{filter_map}
use Rattle.lowfat_regions.specs.Regions.{slot_of}
use Rattle.slot_headers.specs.Words.{address_of, version_of}
use Rattle.heap_model.specs.Heap.{empty, made_count}
use Rattle.heap_model.specs.Answers.{Name, names}
use Rattle.heap_model.specs.Layouts.{Layouts}
use Rattle.heap_model.specs.Legal.{IsLegal, replay}
use Rattle.heap_model.specs.declared.calls.Call.{Call}
use Rattle.heap_model.specs.declared.calls.Call.TheVariants.{Alloc}
use Rattle.heap_model.specs.declared.calls.Reply.{Reply}
use Rattle.heap_model.specs.declared.calls.Reply.TheVariants.{Placed}
use Rattle.heap_model.specs.declared.calls.Entry.{Entry}

-- the name of the object that is placed by a worker's call of this number
abbrev pub name_in : ℕ → ℕ → Call → Reply → Option Name
name_in worker number (Alloc elem size fixed) (Placed word) =
    option_map (λ s. record { slot = s; version = version_of word; worker = worker; number = number }) (slot_of (address_of word))
name_in worker number _ _ = None

abbrev pub placed_name : Entry → Option Name
placed_name e = name_in e.worker e.number e.call e.reply

-- the names of the objects that a history placed, in order
abbrev pub placed_names : List Entry → List Name
placed_names history = filter_map placed_name history

-- The object that a word names by an anchor: the one that was placed in the anchor's slot as the word's version.
unfoldable pub object_named : List Entry → ℕ → ℕ → Option Name
object_named history anchor word = find (names anchor word) (placed_names history)

-- The objects that a legal history placed are those of the heap that it leaves, live and dead: of each kind as many.
abbrev pub PlacedLaw : Type 0
PlacedLaw =
    (layouts : Layouts) (history : List Entry) → IsLegal layouts history → (is : Name → Bool) →
    length (filter is (placed_names history)) ≡ made_count is (replay empty history)

-- A word names at most one object of a legal history by an anchor.
abbrev pub OneNamedLaw : Type 0
OneNamedLaw =
    (layouts : Layouts) (history : List Entry) → IsLegal layouts history → (anchor word : ℕ) →
    length (filter (names anchor word) (placed_names history)) ≤ 1
