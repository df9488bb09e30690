-- What holds of the calls that a record keeps, each with its reply.
use Rattle.std.specs.Prelude.{◌≡◌, ℕ, List, ◌∷◌, ◌++◌, Some, IsFalse, slice_get}
use Rattle.heap_model.specs.Heap.{empty}
use Rattle.heap_model.specs.Legal.{IsLegal, IsWellNumbered, own, replay}
use Rattle.heap_model.specs.Order.{IsStamped}
use Rattle.region_heaps.specs.Entries.{StampsFrom}
use Rattle.heap_model.specs.Checks.{IsCheckReply}
use Rattle.heap_model.specs.Performed.{Access, IsInside, access_of, is_report}
use Rattle.heap_model.specs.declared.calls.Call.TheVariants.{Check}
use Rattle.heap_model.specs.declared.calls.Entry.{Entry}
use Rattle.plain_meaning.specs.declared.record.Ending.TheVariants.{Reported}
use Rattle.plain_meaning.specs.declared.record.Record.{Record}
use Rattle.plain_meaning.specs.declared.record.Report.{Report}
use Rattle.plain_meaning.specs.Reported.{IsShown}
use Rattle.plain_meaning.specs.Run.{layouts}

-- Each check has one of four answers by its cause, at the heap that the entries before it leave: its word is null, it names no live
-- object, nothing there matches the type, or these are the preferred bounds.
abbrev pub ChecksAreAnswered : List Entry → Type 0
ChecksAreAnswered history =
    (before later : List Entry) (e : Entry) (word want : ℕ) → history ≡ before ++ e ∷ later
    → e.call ≡ Check word want → IsCheckReply layouts (replay empty before) word want e.reply

-- Each access that was performed, that is, got another reply than a report, is inside its reach and inside the live object
-- that its word names, as the heap stood before it.
abbrev pub AccessesAreInside : List Entry → Type 0
AccessesAreInside history =
    (before later : List Entry) (e : Entry) (at : Access) → history ≡ before ++ e ∷ later
    → access_of e.call ≡ Some at → IsFalse (is_report e.reply) → IsInside (replay empty before) at

-- What a record keeps is a history of the one-thread typed heap. Each worker's calls are numbered in their order, and the stamps
-- are 1, 2, 3 and so on.
pub record IsHistory (history : List Entry) : Type 0 where
  pub legal : IsLegal layouts history
  pub numbered : IsWellNumbered history
  pub stamped : IsStamped history
  pub stamps : StampsFrom 1 history
  pub checks : ChecksAreAnswered history
  pub accesses : AccessesAreInside history

-- Each worker that ended with a report has it shown by its own entries.
abbrev pub ReportsAreShown : Record → Type 0
ReportsAreShown run =
    (worker : ℕ) (report : Report) → slice_get run.endings worker ≡ Some (Reported report)
    → IsShown (own run.history.entries worker) report
