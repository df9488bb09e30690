-- What the code of the top call keeps between its steps.
use Rattle.std.specs.Prelude.{◌≡◌, ℕ, ◌≤◌, List, length, Option, Result, Ok, Err}
use Rattle.c_tokens.specs.declared.token.Token.{Token}
use Rattle.c_tokens.specs.Limits.{max_tokens}
use Rattle.token_texts.specs.Strings.{HaveStrings}
use Rattle.plain_meaning.specs.declared.record.Record.{Record}
use Rattle.plain_meaning.specs.declared.tree.Program.{Program}
use Rattle.plain_meaning.specs.Names.{IsEntry, HasNone}
use Rattle.plain_meaning.specs.Run.{Run}
use Rattle.effsan_top.specs.declared.answer.Answer.{Answer}
use Rattle.effsan_top.specs.declared.program.ProgramError.{ProgramError}
use Rattle.effsan_top.specs.declared.program.ProgramError.TheVariants as error
use Rattle.effsan_top.specs.declared.refusal.Refusal.{Refusal}
use Rattle.effsan_top.specs.declared.refusal.Refusal.TheVariants as refusal
use Rattle.effsan_top.specs.declared.served.SoloPlay.{SoloPlay}
use Rattle.effsan_top.specs.Statuses.{run_status}
use Rattle.effsan_top.specs.Lines.{status_of}
use Rattle.effsan_top.specs.Faults.{BecomesTokens, IsAtFault}
use Rattle.effsan_top.specs.Programs.{IsProgram}
use Rattle.effsan_top.specs.Served.{Words, AskSolo, AreGood, AreRefused}
use Rattle.effsan_top.specs.Causes.{HasRun, setting_of}

-- The tokens that a text becomes, whose string literals mean bytes.
pub record IsReading (text : List ℕ) (tokens : List Token) : Type 0 where
  pub becomes : BecomesTokens text tokens
  pub strings : HaveStrings text tokens
  pub few : length tokens ≤ max_tokens

-- Why a text has no program.
abbrev pub HasProgramCause : List ℕ → ProgramError → Type 0
HasProgramCause text error.Memory = Unit {0}
HasProgramCause text (error.Faulty fault) = IsAtFault text fault

-- The record is that of a run of the text.
pub record RunsText (play : SoloPlay) (text : List ℕ) (run : Record) : Type 0 where
  pub program : Program
  pub read : IsProgram text program
  pub entry : ℕ
  pub named : IsEntry program play.entry entry
  pub runs : Run program (setting_of play entry) run

-- The text has a program, without a function of the name.
pub record HasNoEntry (name text : List ℕ) : Type 0 where
  pub program : Program
  pub read : IsProgram text program
  pub missing : HasNone program name

-- Why a text that was read whole gives no run.
abbrev pub HasTextCause : List ℕ → List ℕ → Refusal → Type 0
HasTextCause name text (refusal.Faulty fault) = IsAtFault text fault
HasTextCause name text (refusal.NotFound missing) = (missing ≡ name) × HasNoEntry name text
HasTextCause name text refusal.OutOfMemory = Unit {0}
HasTextCause name text other = ⊥

-- Why words give nothing to run.
abbrev pub HasWordsCause : Words → Refusal → Type 0
HasWordsCause words (refusal.Words e) = AreRefused words (refusal.Words e)
HasWordsCause words refusal.NotYet = AreRefused words refusal.NotYet
HasWordsCause words refusal.OutOfMemory = AreGood words
HasWordsCause words other = ⊥

-- the status of a run that is written whole, or that of a refusal
abbrev pub status_in : Result Answer Refusal → ℕ
status_in (Ok answer) = run_status answer.run.endings
status_in (Err r) = status_of r

-- The record is that of what the words ask for.
pub record RunsWords (words : Words) (left : Option (List ℕ)) (run : Record) : Type 0 where
  pub play : SoloPlay
  pub asked : AskSolo words play
  pub has : HasRun play left run
