-- The rows in which entries are kept, and the entries that they are.
use Rattle.std.specs.Prelude.{◌≡◌, ℕ, ◌+◌, ◌-◌, ◌*◌, ◌^◌, ◌<◌, Bool, false, if◌then◌else◌, List, map, slice_index_or, Option, Some, None, unwrap_or}
use Rattle.heap_model.specs.declared.calls.Reach.{Reach}
use Rattle.heap_model.specs.declared.calls.Value.{Value}
use Rattle.heap_model.specs.declared.calls.Call.{Call}
use Rattle.heap_model.specs.declared.calls.Call.TheVariants.{Alloc, Free, Check, Load, Store, Add}
use Rattle.heap_model.specs.declared.calls.Reply.{Reply}
use Rattle.heap_model.specs.declared.calls.Reply.TheVariants.{NoSlot, Done, Placed as Gives, Found as Finds, Value as Moved}
use Rattle.heap_model.specs.declared.calls.Entry.{Entry}
use Rattle.heap_model.specs.declared.row.Halves.{Halves}
use Rattle.heap_model.specs.declared.row.Span.{Span}
use Rattle.heap_model.specs.declared.row.Caller.{Caller}
use Rattle.heap_model.specs.declared.row.Moment.{Moment}
use Rattle.heap_model.specs.declared.row.Access.{Access}
use Rattle.heap_model.specs.declared.row.Row.{Row}
use Rattle.heap_model.specs.declared.row.Row.TheVariants.{Placed, Freed, Found, Loaded, Stored, Added, Whole}

-- ---- the parts of a row

-- 64 bits by their halves
abbrev pub number_of : Halves → ℕ
number_of h = h.low + 2 ^ 32 * h.high

-- the addresses of a span in a region
abbrev pub reach_in : ℕ → Span → Reach
reach_in region s = record { lo = region * 2 ^ 32 + s.from; hi = region * 2 ^ 32 + s.from + s.bytes }

-- what an add adds modulo 2^64: a number, or what is one more than a number below 2^64
abbrev pub added_number : Bool → ℕ → ℕ
added_number taken_off number = if taken_off then 2 ^ 64 - 1 - number else number

abbrev pub made : Caller → Moment → Call → Reply → Entry
made c m call reply =
    record { worker = c.worker; number = m.number; stamp = m.stamp; region = c.region; call = call; reply = reply }

-- The entry has these parts besides its call and its reply.
pub record HasParts (e : Entry) (c : Caller) (m : Moment) : Type 0 where
  pub worker : c.worker ≡ e.worker
  pub region : c.region ≡ e.region
  pub number : m.number ≡ e.number
  pub stamp : m.stamp ≡ e.stamp

-- ---- the entries of rows

abbrev pub value_of : Access → Value
value_of a = record { bits = number_of a.bits; pointer = a.pointer }

abbrev pub loaded : Access → Entry
loaded a =
    made a.caller a.moment (Load (number_of a.word) (reach_in a.caller.region a.span) a.kind) (Moved (value_of a))

abbrev pub stored : Access → Entry
stored a =
    made a.caller a.moment (Store (number_of a.word) (reach_in a.caller.region a.span) a.kind (value_of a)) Done

-- the entry that a row has by itself
abbrev pub own : Row → Option Entry
own (Placed fixed caller moment word elem size) =
    Some (made caller moment (Alloc elem size fixed) (Gives (number_of word)))
own (Freed fixed caller moment word) = Some (made caller moment (Free (number_of word) fixed) Done)
own (Found caller moment word want span) =
    Some (made caller moment (Check (number_of word) want) (Finds (reach_in caller.region span)))
own (Loaded access) = Some (loaded access)
own (Stored access) = Some (stored access)
own (Added kind taken_off caller moment word span old number) =
    Some
    (made caller moment (Add (number_of word) (reach_in caller.region span) kind (added_number taken_off number))
    (Moved (record { bits = old; pointer = false })))
own (Whole at) = None

-- The row has all of the entry, which need not stand whole.
abbrev pub Keeps : Entry → Row → Type 0
Keeps e row = own row ≡ Some e

-- an entry in place of one that is not there
abbrev pub blank : Entry
blank = record { worker = 0; number = 0; stamp = 0; region = 0; call = Free 0 false; reply = NoSlot }

-- the entry of a row, beside these that stand whole
abbrev pub entry_at : List Entry → Row → Entry
entry_at whole (Whole at) = slice_index_or whole at blank
entry_at whole row = unwrap_or (own row) blank

-- A row that stands for a whole entry has the place of one of so many.
abbrev pub IsWithin : ℕ → Row → Type 0
IsWithin count (Whole at) = at < count
IsWithin count row = Unit {0}

abbrev pub entries_in : List Entry → List Row → List Entry
entries_in whole rows = map (entry_at whole) rows
