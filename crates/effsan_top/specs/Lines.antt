-- The lines that the program writes.
use Rattle.std.specs.Prelude.{ℕ, List, [], ◌∷◌, ◌++◌, Option, Some, None, codes}
use Rattle.std.specs.Fmt.{decimal}
use Rattle.c_types.specs.Table.{basic_types}
use Rattle.plain_meaning.specs.declared.record.Record.{Record}
use Rattle.reports.specs.Lines.{ending_lines}
use Rattle.effs_words.specs.Names.{error_name, error_place}
use Rattle.effs_words.specs.declared.error.WordError.{WordError}
use Rattle.effsan_top.specs.declared.faults.Fault.{Fault}
use Rattle.effsan_top.specs.declared.refusal.Refusal.{Refusal}
use Rattle.effsan_top.specs.declared.refusal.Refusal.TheVariants.{Words, NotYet, ReadFault, TooLarge, Faulty, NotFound, OutOfMemory, WriteFault}
use Rattle.effsan_top.specs.Faults.{fault_name}
use Rattle.effsan_top.specs.Statuses as status

-- ---- on the output

-- the texts one after another
abbrev pub joined : List (List ℕ) → List ℕ
joined [] = []
joined (text ∷ texts) = text ++ joined texts

-- what a run prints: its texts, then how its workers ended
abbrev pub printed : Record → List ℕ
printed run = joined run.texts ++ ending_lines run basic_types

-- ---- on the error output

abbrev pub status_of : Refusal → ℕ
status_of (Words e) = status.words_refused
status_of NotYet = status.words_refused
status_of ReadFault = status.read_fault
status_of TooLarge = status.too_large
status_of (Faulty fault) = status.text_refused
status_of (NotFound name) = status.text_refused
status_of OutOfMemory = status.out_of_memory
status_of WriteFault = status.write_fault

-- the place of a word, after a space
abbrev pub place_text : Option ℕ → List ℕ
place_text None = []
place_text (Some n) = codes " " ++ decimal n

abbrev pub words_line : WordError → List ℕ
words_line e = (codes "effsan: words: " ++ error_name e) ++ place_text (error_place e) ++ codes "\n"

abbrev pub fault_line : Fault → List ℕ
fault_line fault = codes "effsan: line " ++ decimal fault.line ++ (codes ": " ++ fault_name fault.kind) ++ codes "\n"

abbrev pub missing_line : List ℕ → List ℕ
missing_line name = codes "effsan: entry NotFound " ++ name ++ codes "\n"

abbrev pub line_of : Refusal → List ℕ
line_of (Words e) = words_line e
line_of NotYet = codes "effsan: words: NotYet\n"
line_of ReadFault = codes "effsan: read fault\n"
line_of TooLarge = codes "effsan: source too large\n"
line_of (Faulty fault) = fault_line fault
line_of (NotFound name) = missing_line name
line_of OutOfMemory = codes "effsan: out of memory\n"
line_of WriteFault = codes "effsan: write fault\n"
