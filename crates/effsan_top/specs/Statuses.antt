-- Statuses by name, and which of them say what.
use Rattle.std.specs.Prelude.{ℕ, Bool, true, false, ◌||◌, ◌==◌, List}
use Rattle.std.specs.List.{list_any, list_all}
use Rattle.plain_meaning.specs.declared.record.Ending.{Ending}
use Rattle.plain_meaning.specs.declared.record.Ending.TheVariants.{Finished, Spent, Reported}
use Rattle.effsan_top.specs.declared.statuses.TheConstants.{FINISHED, REPORTED, WORDS_REFUSED, TEXT_REFUSED, READ_FAULT, WRITE_FAULT, OUT_OF_MEMORY, TOO_LARGE, STOPPED}

-- every worker ended as `Finished`
abbrev pub finished : ℕ
finished = FINISHED

-- some worker ended with a report
abbrev pub reported : ℕ
reported = REPORTED

abbrev pub words_refused : ℕ
words_refused = WORDS_REFUSED

-- the text was read whole, and is at fault or has no such function
abbrev pub text_refused : ℕ
text_refused = TEXT_REFUSED

abbrev pub read_fault : ℕ
read_fault = READ_FAULT

abbrev pub write_fault : ℕ
write_fault = WRITE_FAULT

abbrev pub out_of_memory : ℕ
out_of_memory = OUT_OF_MEMORY

abbrev pub too_large : ℕ
too_large = TOO_LARGE

-- no worker ended with a report, and some used up its turns
abbrev pub stopped : ℕ
stopped = STOPPED

-- ---- of endings

abbrev pub is_finished : Ending → Bool
is_finished Finished = true
is_finished (Spent line) = false
is_finished (Reported report) = false

abbrev pub is_reported : Ending → Bool
is_reported Finished = false
is_reported (Spent line) = false
is_reported (Reported report) = true

-- it used up its turns
abbrev pub is_spent : Ending → Bool
is_spent Finished = false
is_spent (Spent line) = true
is_spent (Reported report) = false

abbrev pub all_finished : List Ending → Bool
all_finished = list_all is_finished

abbrev pub some_reported : List Ending → Bool
some_reported = list_any is_reported

abbrev pub some_spent : List Ending → Bool
some_spent = list_any is_spent

-- by whether some worker was reported, and whether some used up its turns
abbrev pub status_by : Bool → Bool → ℕ
status_by true spent = reported
status_by false true = stopped
status_by false false = finished

abbrev pub run_status : List Ending → ℕ
run_status endings = status_by (some_reported endings) (some_spent endings)

-- ---- of a call

-- the call has an answer, written whole
abbrev pub is_answer : ℕ → Bool
is_answer status = (status == finished) || ((status == reported) || (status == stopped))

-- there is a run
abbrev pub is_run : ℕ → Bool
is_run status = is_answer status || (status == write_fault)

-- the source was read to its end
abbrev pub is_read_whole : ℕ → Bool
is_read_whole status = is_run status || (status == text_refused)

-- the statuses there are
abbrev pub is_status : ℕ → Bool
is_status status =
    is_read_whole status || ((status == words_refused) || ((status == read_fault) || ((status == out_of_memory) || (status == too_large))))
