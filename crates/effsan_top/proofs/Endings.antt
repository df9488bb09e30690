-- What the status of a run tells of its endings, and what its history keeps.
use Rattle.std.proofs.Common.{◌≡◌, ℕ, ◌≤◌, Bool, true, false, List, [], ◌∷◌, refl, sym, subst, ◌++◌, arith}
use Rattle.std.specs.Prelude.{◌↔◌, ◌&&◌, not, IsTrue, Some, slice_get}
use Rattle.std.specs.List.{AllByRecursion}
use Rattle.c_types.specs.Table.{basic_types}
use Rattle.heap_model.specs.Checks.{ChecksLaw}
use Rattle.heap_model.specs.Legal.{IsLegal, IsWellNumbered, own}
use Rattle.heap_model.specs.Order.{IsStamped}
use Rattle.heap_model.specs.Performed.{AccessesLaw}
use Rattle.heap_model.specs.declared.calls.Entry.{Entry}
use Rattle.heap_model.specs.declared.calls.Reply.{Reply}
use Rattle.region_heaps.specs.Entries.{StampsFrom}
use Rattle.plain_meaning.specs.Acts.{Ends}
use Rattle.plain_meaning.specs.Reported.{ReportedLaw}
use Rattle.plain_meaning.specs.Run.{Run, layouts, replies_of, worker}
use Rattle.plain_meaning.specs.declared.record.Ending.{Ending}
use Rattle.plain_meaning.specs.declared.record.Ending.TheVariants.{Finished, Spent, Reported}
use Rattle.plain_meaning.specs.declared.record.Record.{Record}
use Rattle.plain_meaning.specs.declared.record.Report.{Report}
use Rattle.plain_meaning.specs.declared.record.Setting.{Setting}
use Rattle.plain_meaning.specs.declared.tree.Program.{Program}
use Rattle.reports.specs.Lines.{KnowsType}
use Rattle.effsan_top.specs.Calls.{TellsEndings}
use Rattle.effsan_top.specs.Causes.{IsEmpty}
use Rattle.effsan_top.specs.Histories.{IsHistory, ReportsAreShown}
use Rattle.effsan_top.specs.Statuses.{all_finished, run_status, some_reported, some_spent, status_by}

-- ---- statuses

nor_true : (b : Bool) → (not b && false) ≡ false
nor_true true = refl
nor_true false = refl

-- each worker finished exactly where none was reported and none used up its turns
none_else : (endings : List Ending) → all_finished endings ≡ (not (some_reported endings) && not (some_spent endings))
none_else [] = refl
none_else (Finished ∷ endings) = none_else endings
none_else (Spent line ∷ endings) = sym (nor_true (some_reported endings))
none_else (Reported report ∷ endings) = refl

by_finished : (reported spent : Bool) → (status_by reported spent ≡ 0) ↔ IsTrue (not reported && not spent)
by_finished true spent = (λ is. absurd (omega arith), λ no. absurd (cc no))
by_finished false true = (λ is. absurd (omega arith), λ no. absurd (cc no))
by_finished false false = (λ is. refl, λ yes. refl)

by_reported : (reported spent : Bool) → (status_by reported spent ≡ 1) ↔ IsTrue reported
by_reported true spent = (λ is. refl, λ yes. refl)
by_reported false true = (λ is. absurd (omega arith), λ no. absurd (cc no))
by_reported false false = (λ is. absurd (omega arith), λ no. absurd (cc no))

by_spent : (reported spent : Bool) → (status_by reported spent ≡ 8) ↔ IsTrue (not reported && spent)
by_spent true spent = (λ is. absurd (omega arith), λ no. absurd (cc no))
by_spent false true = (λ is. refl, λ yes. refl)
by_spent false false = (λ is. absurd (omega arith), λ no. absurd (cc no))

of_endings : (endings : List Ending) → TellsEndings (run_status endings) endings
of_endings endings = record {
  finished = subst (λ b. (run_status endings ≡ 0) ↔ IsTrue b) (sym (none_else endings)) (by_finished (some_reported endings) (some_spent endings));
  reported = by_reported (some_reported endings) (some_spent endings);
  stopped = by_spent (some_reported endings) (some_spent endings);
}

pub tells : (status : ℕ) (run answered : Record) → run ≡ answered → status ≡ run_status answered.endings → TellsEndings status run.endings
tells status run answered same is =
    let here : status ≡ run_status run.endings = subst (λ (r : Record). status ≡ run_status r.endings) (sym same) is in
    subst (λ (n : ℕ). TellsEndings n run.endings) (sym here) (of_endings run.endings)

-- ---- types of reports

-- a report wants one of the nine types, or none
abbrev pub WantsLaw : Type 0
WantsLaw =
    (program : Program) (setting : Setting) (replies : List Reply) (report : Report)
    → (worker program setting replies).end ≡ Ends (Reported report) → report.want ≤ 9

knows : WantsLaw → (program : Program) (setting : Setting) (replies : List Reply) (ending : Ending)
    → (worker program setting replies).end ≡ Ends ending → KnowsType basic_types ending
knows law program setting replies Finished ended = tt
knows law program setting replies (Spent line) ended = tt
knows law program setting replies (Reported report) ended = law program setting replies report ended

pub knows_types : WantsLaw → (program : Program) (setting : Setting) (run : Record) → Run program setting run
    → AllByRecursion (KnowsType basic_types) run.endings
knows_types law program setting run r =
    let known : KnowsType basic_types r.ending =
    knows law program setting (replies_of (own run.history.entries 1)) r.ending r.worked.ended in
    subst (λ (endings : List Ending). AllByRecursion (KnowsType basic_types) endings) (sym r.endings) (tt, (known, tt))

-- ---- histories

-- a history that the heap may give, with its numbers and stamps
pub is_history : ChecksLaw → AccessesLaw → (history : List Entry) → IsLegal layouts history → IsWellNumbered history → IsStamped history
    → StampsFrom 1 history → IsHistory history
is_history checks accesses history legal numbered stamped stamps = record {
  legal = legal;
  numbered = numbered;
  stamped = stamped;
  stamps = stamps;
  checks = λ before later e word want is. checks layouts before later e word want (subst (λ h. IsLegal layouts h) is legal);
  accesses = λ before later e at is. accesses layouts before later e at (subst (λ h. IsLegal layouts h) is legal);
}

pub run_history : ChecksLaw → AccessesLaw → (program : Program) (setting : Setting) (run : Record) → Run program setting run
    → StampsFrom 1 run.history.entries → IsHistory run.history.entries
run_history checks accesses program setting run r stamps =
    is_history checks accesses run.history.entries r.legal r.numbered r.stamped stamps

pub run_reports : ReportedLaw → (program : Program) (setting : Setting) (run : Record) → Run program setting run → ReportsAreShown run
run_reports law program setting run r worker report is = law program setting run worker report r is

-- the record of no run
nothing_before : (before later : List Entry) (e : Entry) → [] ≡ before ++ e ∷ later → ⊥
nothing_before [] later e is = absurd cc
nothing_before (first ∷ before) later e is = absurd cc

no_history : IsHistory []
no_history = record {
  legal = tt;
  numbered = λ w. tt;
  stamped = record { workers = λ w. tt; regions = λ r. tt; order = tt };
  stamps = tt;
  checks = λ before later e word want is. absurd (nothing_before before later e is);
  accesses = λ before later e at is. absurd (nothing_before before later e is);
}

pub empty_history : (run : Record) → IsEmpty run → IsHistory run.history.entries
empty_history run e = subst IsHistory (sym e.history) no_history

none_there : (endings : List Ending) (worker : ℕ) (ending : Ending) → endings ≡ [] → slice_get endings worker ≡ Some ending → ⊥
none_there [] worker ending e is = absurd cc
none_there (first ∷ endings) worker ending e is = absurd cc

pub empty_reports : (run : Record) → IsEmpty run → ReportsAreShown run
empty_reports run e worker report is = absurd (none_there run.endings worker (Reported report) e.endings is)
