-- The lines that tell how the workers ended.
use Rattle.std.specs.Prelude.{ℕ, ◌+◌, ◌≤◌, List, [], ◌∷◌, ◌++◌, length, codes, Option}
use Rattle.std.specs.Fmt.{decimal}
use Rattle.c_types.specs.Table.{Types}
use Rattle.heap_model.specs.Answers.{Name}
use Rattle.heap_model.specs.declared.calls.Entry.{Entry}
use Rattle.heap_model.specs.declared.calls.ReportKind.{ReportKind}
use Rattle.heap_model.specs.declared.calls.ReportKind.TheVariants.{WrongType, Bounds, Free, Null, BadFree, DoubleFree, Align, PointerBytes, NotPointer, Escape, Compare}
use Rattle.plain_meaning.specs.declared.record.Report.{Report}
use Rattle.plain_meaning.specs.declared.record.Ending.{Ending}
use Rattle.plain_meaning.specs.declared.record.Ending.TheVariants.{Finished, Spent, Reported}
use Rattle.plain_meaning.specs.declared.record.Record.{Record}
use Rattle.reports.specs.TypeNames.{type_name}
use Rattle.placed_objects.specs.Placed.{object_named}
use Rattle.reports.specs.Objects.{pointer_text, bounds_text}

abbrev pub kind_name : ReportKind → List ℕ
kind_name WrongType = codes "WrongType"
kind_name Bounds = codes "Bounds"
kind_name Free = codes "Free"
kind_name Null = codes "Null"
kind_name BadFree = codes "BadFree"
kind_name DoubleFree = codes "DoubleFree"
kind_name Align = codes "Align"
kind_name PointerBytes = codes "PointerBytes"
kind_name NotPointer = codes "NotPointer"
kind_name Escape = codes "Escape"
kind_name Compare = codes "Compare"

-- what is told after the kind: of the first pointer's object, of the second's, and of the type that was wanted
abbrev pub details : Option Name → Option Name → List ℕ → Report → ReportKind → List ℕ
details first second want r Null = []
details first second want r WrongType = codes " " ++ pointer_text first r.first ++ codes " want " ++ want
details first second want r Bounds = codes " " ++ pointer_text first r.first ++ bounds_text first r.first_reach
details first second want r Escape = codes " " ++ pointer_text first r.first ++ bounds_text first r.first_reach
details first second want r Compare = codes " " ++ pointer_text first r.first ++ codes " " ++ pointer_text second r.second
details first second want r _ = codes " " ++ pointer_text first r.first

-- each pointer is at the object that it names by the beginning of its reach
abbrev pub first_object : List Entry → Report → Option Name
first_object history r = object_named history r.first_reach.lo r.first

abbrev pub second_object : List Entry → Report → Option Name
second_object history r = object_named history r.second_reach.lo r.second

abbrev pub report_details : List Entry → Types → Report → List ℕ
report_details history types r = details (first_object history r) (second_object history r) (type_name types r.want) r r.kind

abbrev pub report_line : List Entry → Types → Report → List ℕ
report_line history types r = kind_name r.kind ++ report_details history types r

abbrev pub prefix : ℕ → ℕ → List ℕ
prefix worker line = codes "worker " ++ decimal worker ++ codes ": line " ++ decimal line ++ codes ": "

-- nothing is said of a worker that finished
abbrev pub ending_line : List Entry → Types → ℕ → Ending → List ℕ
ending_line history types worker Finished = []
ending_line history types worker (Spent line) = prefix worker line ++ codes "Spent\n"
ending_line history types worker (Reported report) = prefix worker report.line ++ report_line history types report ++ codes "\n"

-- one for each worker in order, from this number on
abbrev pub lines_from : List Entry → Types → ℕ → List Ending → List ℕ
lines_from history types worker [] = []
lines_from history types worker (ending ∷ endings) =
    ending_line history types worker ending ++ lines_from history types (worker + 1) endings

abbrev pub ending_lines : Record → Types → List ℕ
ending_lines run types = lines_from run.history.entries types 0 run.endings

-- The type that an ending's line writes is one of the table, or none, whose number is 0.
abbrev pub KnowsType : Types → Ending → Type 0
KnowsType types Finished = Unit {0}
KnowsType types (Spent line) = Unit {0}
KnowsType types (Reported report) = report.want ≤ length types.kinds
