-- What a call ensures, group by group.
use Rattle.std.specs.Prelude.{◌≡◌, ◌↔◌, ℕ, ◌+◌, ◌<◌, ◌≤◌, ◌⊎◌, ◌&&◌, true, not, List, [], length, Option, Some, IfSome, IsTrue}
use Rattle.plain_meaning.specs.declared.record.Ending.{Ending}
use Rattle.plain_meaning.specs.declared.record.Record.{Record}
use Rattle.plain_meaning.specs.declared.tree.Program.{Program}
use Rattle.plain_meaning.specs.Names.{IsEntry, HasNone}
use Rattle.effs_io.specs.Streams.{max_text, Appends, AppendsSome, GaveSome, Writes}
use Rattle.effs_words.specs.Words.{Words as Ask, BadWord}
use Rattle.effs_words.specs.declared.command.Command.{Command}
use Rattle.effs_words.specs.declared.error.WordError.{WordError}
use Rattle.effsan_top.specs.declared.faults.Fault.{Fault}
use Rattle.effsan_top.specs.declared.refusal.Refusal.{Refusal}
use Rattle.effsan_top.specs.declared.served.SoloPlay.{SoloPlay}
use Rattle.effsan_top.specs.Statuses as s
use Rattle.effsan_top.specs.Statuses.{all_finished, some_reported, some_spent, is_answer, is_run, is_read_whole}
use Rattle.effsan_top.specs.Faults.{IsAtFault}
use Rattle.effsan_top.specs.Programs.{IsProgram}
use Rattle.effsan_top.specs.Served.{Words, AreServed, AreRefused, IsUnserved}
use Rattle.effsan_top.specs.Lines.{printed, status_of, line_of}
use Rattle.effsan_top.specs.Causes.{HasCause, HasRun}

-- ---- words

-- Words that are refused have their status, which nothing else has. Memory may run out in place of a refusal of a command that
-- is not served, and never in place of one of a bad word. Any other status is that of words that are served.
pub record JudgesWords (words : Words) (status : ℕ) : Type 0 where
  pub bad : (e : WordError) → BadWord words e → status ≡ s.words_refused
  pub unserved : (command : Command) (r : Refusal) → Ask words command → IsUnserved words command r →
      (status ≡ s.words_refused) ⊎ (status ≡ s.out_of_memory)
  pub refused : status ≡ s.words_refused → (r : Refusal) × AreRefused words r
  pub served : ((status ≡ s.words_refused) ⊎ (status ≡ s.out_of_memory)) ⊎ AreServed words

-- ---- `play` of one function

-- The status of an answer says how the workers ended.
pub record TellsEndings (status : ℕ) (endings : List Ending) : Type 0 where
  pub finished : (status ≡ s.finished) ↔ IsTrue (all_finished endings)
  pub reported : (status ≡ s.reported) ↔ IsTrue (some_reported endings)
  pub stopped : (status ≡ s.stopped) ↔ IsTrue (not (some_reported endings) && some_spent endings)

-- The text has no program, or its program no function of this name.
abbrev pub IsWithoutRun : List ℕ → List ℕ → Type 0
IsWithoutRun name text =
    ((fault : Fault) × IsAtFault text fault) ⊎ ((program : Program) × IsProgram text program × HasNone program name)

-- The status is this, but that a read fault or the end of memory may come in its place.
abbrev pub IsOrReadFault : ℕ → ℕ → Type 0
IsOrReadFault expected status = (status ≡ expected) ⊎ ((status ≡ s.read_fault) ⊎ (status ≡ s.out_of_memory))

-- There is an answer, but that a fault or the end of memory may come in its place.
abbrev pub IsAnswered : ℕ → Type 0
IsAnswered status = (is_answer status ≡ true) ⊎ ((status ≡ s.write_fault) ⊎ ((status ≡ s.read_fault) ⊎ (status ≡ s.out_of_memory)))

-- What status a text has that is known.
pub record AnswersText (play : SoloPlay) (text : List ℕ) (status : ℕ) : Type 0 where
  pub too_large : max_text < length text → IsOrReadFault s.too_large status
  pub refused : length text ≤ max_text → IsWithoutRun play.entry text → IsOrReadFault s.text_refused status
  pub accepted : (program : Program) (entry : ℕ) → length text ≤ max_text → IsProgram text program →
      IsEntry program play.entry entry → IsAnswered status

-- Where something ran, the record is that of a run, whether or not the source tells its bytes. The endings fix the status of an
-- answer, and a text that the source tells fixes whether there is one.
pub record Plays (play : SoloPlay) (left : Option (List ℕ)) (status : ℕ) (run : Record) : Type 0 where
  pub ran : is_run status ≡ true → HasRun play left run
  pub endings : is_answer status ≡ true → TellsEndings status run.endings
  pub text : (text : List ℕ) → left ≡ Some text → AnswersText play text status

-- ---- streams

-- The source was read to its end exactly as far as the status says, and never farther than one byte past the limit.
pub record ReadsSource (status : ℕ) (before after : Option (List ℕ)) : Type 0 where
  pub whole : is_read_whole status ≡ true → IfSome before (λ text. after ≡ Some [])
  pub front : GaveSome (max_text + 1) before after

-- The output took what the run prints, whole or in part.
pub record WritesRun (status : ℕ) (run : Record) (before after : Option (List ℕ)) : Type 0 where
  pub whole : is_answer status ≡ true → Appends (printed run) before after
  pub part : status ≡ s.write_fault → AppendsSome (printed run) before after

-- Where there is no answer, or only a part of it, there is a cause, the status is that of the cause, and the error output took
-- its line. `rose` says that its count of faults rose.
pub record TellsCause (words : Words) (left : Option (List ℕ)) (read written : Type 0) (status : ℕ) (before after : Option (List ℕ)) (rose : Type 0) : Type 0 where
  pub refusal : Refusal
  pub cause : HasCause words left read written refusal
  pub told : status ≡ status_of refusal
  pub line : Writes (line_of refusal) before after rose
