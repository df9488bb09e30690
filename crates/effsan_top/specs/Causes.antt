-- Why there is a run, and why there is none. A text here is one that the source gave whole: the one that it tells, where it
-- tells its bytes.
use Rattle.std.specs.Prelude.{◌≡◌, ℕ, ◌<◌, ◌≤◌, List, [], length, Option, IfSome}
use Rattle.plain_meaning.specs.declared.record.Setting.{Setting}
use Rattle.plain_meaning.specs.declared.record.Record.{Record}
use Rattle.plain_meaning.specs.declared.tree.Program.{Program}
use Rattle.plain_meaning.specs.Names.{IsEntry, HasNone}
use Rattle.plain_meaning.specs.Run.{Run}
use Rattle.effs_io.specs.Streams.{max_text}
use Rattle.effsan_top.specs.declared.faults.Fault.{Fault}
use Rattle.effsan_top.specs.declared.refusal.Refusal.{Refusal}
use Rattle.effsan_top.specs.declared.refusal.Refusal.TheVariants as refusal
use Rattle.effsan_top.specs.declared.served.SoloPlay.{SoloPlay}
use Rattle.effsan_top.specs.Faults.{IsAtFault}
use Rattle.effsan_top.specs.Programs.{IsProgram}
use Rattle.effsan_top.specs.Served.{Words, AskSolo, AreServed, AreGood, AreRefused}

-- The text is what a source has left, where it tells that.
abbrev pub IsTold : Option (List ℕ) → List ℕ → Type 0
IsTold left text = IfSome left (λ told. text ≡ told)

-- The text was given whole, and is not too large.
pub record IsGiven (left : Option (List ℕ)) (text : List ℕ) : Type 0 where
  pub told : IsTold left text
  pub fits : length text ≤ max_text

-- More bytes were given than a text may have.
pub record IsTooLarge (left : Option (List ℕ)) : Type 0 where
  pub text : List ℕ
  pub told : IsTold left text
  pub over : max_text < length text

-- The text that was given has no program, for this fault.
pub record HasFault (left : Option (List ℕ)) (fault : Fault) : Type 0 where
  pub text : List ℕ
  pub given : IsGiven left text
  pub is : IsAtFault text fault

-- The text that was given has a program, without a function of this name.
pub record LacksEntry (name : List ℕ) (left : Option (List ℕ)) : Type 0 where
  pub text : List ℕ
  pub given : IsGiven left text
  pub program : Program
  pub read : IsProgram text program
  pub missing : HasNone program name

abbrev pub setting_of : SoloPlay → ℕ → Setting
setting_of play entry = record { entry = entry; turns = play.turns }

-- The record is that of a run of the program of the text that was given, from the function that is named, with the turns that
-- are asked for.
pub record HasRun (play : SoloPlay) (left : Option (List ℕ)) (run : Record) : Type 0 where
  pub text : List ℕ
  pub given : IsGiven left text
  pub program : Program
  pub read : IsProgram text program
  pub entry : ℕ
  pub named : IsEntry program play.entry entry
  pub runs : Run program (setting_of play entry) run

-- The words are served, and name a function that the text lacks.
pub record NamesNone (words : Words) (left : Option (List ℕ)) (name : List ℕ) : Type 0 where
  pub play : SoloPlay
  pub asked : AskSolo words play
  pub is : name ≡ play.entry
  pub lacks : LacksEntry play.entry left

-- Why there is no answer, or only a part of it. `read` and `written` say that the count of faults of the source, or of the
-- output, rose. Nothing but a bad word is told before all words are judged.
abbrev pub HasCause : Words → Option (List ℕ) → Type 0 → Type 0 → Refusal → Type 0
HasCause words left read written (refusal.Words e) = AreRefused words (refusal.Words e)
HasCause words left read written refusal.NotYet = AreRefused words refusal.NotYet
HasCause words left read written refusal.ReadFault = AreServed words × read
HasCause words left read written refusal.TooLarge = AreServed words × IsTooLarge left
HasCause words left read written (refusal.Faulty fault) = AreServed words × HasFault left fault
HasCause words left read written (refusal.NotFound name) = NamesNone words left name
HasCause words left read written refusal.OutOfMemory = AreGood words
HasCause words left read written refusal.WriteFault = AreServed words × written

-- a record of no run
pub record IsEmpty (run : Record) : Type 0 where
  pub history : run.history.entries ≡ []
  pub endings : run.endings ≡ []
  pub texts : run.texts ≡ []
