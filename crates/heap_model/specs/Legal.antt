-- Legal histories.
use Rattle.std.specs.Prelude.{ℕ, ◌≡◌, ◌+◌, suc, ◌≤◌, Bool, true, false, ◌&&◌, ◌==◌, nat_le, List, [], ◌∷◌, length, filter, Some}
use Rattle.std.specs.List.{list_any}
use Rattle.lowfat_regions.specs.Regions.{last_region, Slot, slot_of, object_address}
use Rattle.slot_headers.specs.Words.{address_of, version_of}
use Rattle.heap_model.specs.Heap.{Object, empty, live_count, made_count, resting, is_full}
use Rattle.heap_model.specs.Answers.{Name, region, Words, is_in, is_at, answer, next}
use Rattle.heap_model.specs.Layouts.{Layouts}
use Rattle.heap_model.specs.Forms.{region_for, fits_call}
use Rattle.heap_model.specs.declared.calls.Call.{Call}
use Rattle.heap_model.specs.declared.calls.Call.TheVariants.{Alloc, Free, Check, Load, Store, Add}
use Rattle.heap_model.specs.declared.calls.Reply.{Reply}
use Rattle.heap_model.specs.declared.calls.Reply.TheVariants.{Placed, NoSlot}
use Rattle.heap_model.specs.declared.calls.Entry.{Entry}

-- An object may be placed by this word: at the address of a slot of the region, in which no object lives and which does not
-- rest, with the version after those of the slot's objects.
pub record MayPlace (h : Words) (r word : ℕ) : Type 0 where
  pub slot : Slot
  pub slot_is : slot_of (address_of word) ≡ Some slot
  pub of_region : slot.region ≡ r
  pub address : address_of word ≡ object_address slot
  pub no_live : live_count (is_in slot) h ≡ 0
  pub rested : list_any (is_in slot) (resting region r h) ≡ false
  pub version : version_of word ≡ 1 + made_count (is_in slot) h

-- the heap may give this reply to an allocation in a region
unfoldable pub AllocAnswers : Words → ℕ → Reply → Type 0
AllocAnswers h r NoSlot = is_full region h r ≡ true
AllocAnswers h r (Placed word) = (is_full region h r ≡ false) × MayPlace h r word
AllocAnswers h r _ = ⊥

-- the heap may give this reply to the call, in its region
unfoldable pub Answers : Layouts → Words → ℕ → Call → Reply → Type 0
Answers layouts h r (Alloc elem size fixed) reply = AllocAnswers h r reply
Answers layouts h r call reply = reply ≡ answer layouts h call

-- the type that a call names is one of those that there are
abbrev pub knows_types : Layouts → Call → Bool
knows_types layouts (Alloc elem size fixed) = layouts.has elem
knows_types layouts (Free p fixed) = true
knows_types layouts (Check p want) = layouts.has want
knows_types layouts (Load p reach kind) = true
knows_types layouts (Store p reach kind v) = true
knows_types layouts (Add p reach kind n) = true

-- an entry meets the rules at this heap
pub record Meets (layouts : Layouts) (h : Words) (e : Entry) : Type 0 where
  pub fits : fits_call e.call ≡ true
  pub types : knows_types layouts e.call ≡ true
  pub region_is : region_for e.call ≡ Some e.region
  pub answers : Answers layouts h e.region e.call e.reply

abbrev pub after : Words → Entry → Words
after h e = next e.worker e.number h e.call e.reply

-- each entry meets the rules at the heap that the entries before it leave
abbrev pub IsLegalFrom : Layouts → Words → List Entry → Type 0
IsLegalFrom layouts h [] = Unit {0}
IsLegalFrom layouts h (e ∷ es) = Meets layouts h e × IsLegalFrom layouts (after h e) es

abbrev pub IsLegal : Layouts → List Entry → Type 0
IsLegal layouts history = IsLegalFrom layouts empty history

-- the heap that a history leaves
abbrev pub replay : Words → List Entry → Words
replay h [] = h
replay h (e ∷ es) = replay (after h e) es

-- the entries of a region, and of a worker
abbrev pub of_region : ℕ → List Entry → List Entry
of_region r history = filter (λ e. e.region == r) history

abbrev pub own : List Entry → ℕ → List Entry
own history w = filter (λ e. e.worker == w) history

-- the numbers of the entries go on from n
abbrev pub CountsFrom : ℕ → List Entry → Type 0
CountsFrom n [] = Unit {0}
CountsFrom n (e ∷ es) = (e.number ≡ n) × CountsFrom (suc n) es

abbrev pub IsWellNumbered : List Entry → Type 0
IsWellNumbered history = (w : ℕ) → CountsFrom 0 (own history w)

-- each entry is of one of the regions
abbrev pub InRegions : List Entry → Type 0
InRegions [] = Unit {0}
InRegions (e ∷ es) = (1 ≤ e.region) × (e.region ≤ last_region) × InRegions es

-- whether an address is in the object, its end included
abbrev pub covers : ℕ → Object Name ℕ → Bool
covers a o = let first = object_address o.name.slot in nat_le first a && nat_le a (first + length o.body.cells)

-- each address is in at most one live object, and each version of a slot is that of at most one object
pub record IsApart (h : Words) : Type 0 where
  pub live : (a : ℕ) → length (filter (covers a) h.live) ≤ 1
  pub versions : (s : Slot) (v : ℕ) → made_count (is_at (Some s) v) h ≤ 1

-- In a legal history no two live objects overlap, and no slot has a version twice.
abbrev pub ApartLaw : Type 0
ApartLaw = (layouts : Layouts) (history : List Entry) → IsLegal layouts history → IsApart (replay empty history)
