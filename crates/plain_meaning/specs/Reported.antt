-- How a record shows a report.
use Rattle.std.specs.Prelude.{◌≡◌, ℕ, Bool, false, List, [], ◌∷◌, ◌++◌, Some, slice_get}
use Rattle.heap_model.specs.Reaches.{may_escape, slot_bounds}
use Rattle.heap_model.specs.Legal.{own}
use Rattle.heap_model.specs.declared.calls.AccessKind.{AccessKind}
use Rattle.heap_model.specs.declared.calls.Reach.{Reach}
use Rattle.heap_model.specs.declared.calls.Value.{Value}
use Rattle.heap_model.specs.declared.calls.Call.{Call}
use Rattle.heap_model.specs.declared.calls.Call.TheVariants as call
use Rattle.heap_model.specs.declared.calls.Reply.TheVariants as reply
use Rattle.heap_model.specs.declared.calls.ReportKind.{ReportKind}
use Rattle.heap_model.specs.declared.calls.Entry.{Entry}
use Rattle.plain_meaning.specs.declared.record.Ending.TheVariants.{Reported}
use Rattle.plain_meaning.specs.declared.record.Record.{Record}
use Rattle.plain_meaning.specs.declared.record.Report.{Report}
use Rattle.plain_meaning.specs.declared.record.Setting.{Setting}
use Rattle.plain_meaning.specs.declared.scalar.CheckedPointer.{CheckedPointer}
use Rattle.plain_meaning.specs.declared.tree.Program.{Program}
use Rattle.plain_meaning.specs.Points.{report_on, escape}
use Rattle.plain_meaning.specs.Run.{Run}

-- What the heap's report of a kind, on a line, says of the call that it answers: the call's word with the reach that belongs to it,
-- which is an access's own and else the bounds of the word's slot, and at a check the type that was wanted.
pub data Tells (kind : ReportKind) (line : ℕ) : Call → Report → Type 0 where
  of_free : {p : ℕ} {fixed : Bool} → Tells kind line (call.Free p fixed) (report_on kind line p (slot_bounds p) 0)
  of_check : {p want : ℕ} → Tells kind line (call.Check p want) (report_on kind line p (slot_bounds p) want)
  of_load : {p : ℕ} {reach : Reach} {access : AccessKind} → Tells kind line (call.Load p reach access) (report_on kind line p reach 0)
  of_store : {p : ℕ} {reach : Reach} {access : AccessKind} {v : Value} →
      Tells kind line (call.Store p reach access v) (report_on kind line p reach 0)

-- A report is shown by a worker's entries: it is the one that the reply of the last of them gives, or that of a pointer out of its reach.
pub data IsShown (entries : List Entry) (report : Report) : Type 0 where
  by_last_entry : (earlier : List Entry) (last : Entry) (kind : ReportKind) (line : ℕ) → entries ≡ earlier ++ last ∷ [] →
      last.reply ≡ reply.Report kind → Tells kind line last.call report → IsShown entries report
  by_escape : (p : CheckedPointer) (line : ℕ) → may_escape p.reach p.word ≡ false → report ≡ escape line p → IsShown entries report

-- Each worker of a run that ends with a report has it shown by its own entries.
abbrev pub ReportedLaw : Type 0
ReportedLaw =
    (program : Program) (setting : Setting) (run : Record) (worker : ℕ) (report : Report) → Run program setting run →
    slice_get run.endings worker ≡ Some (Reported report) → IsShown (own run.history.entries worker) report
