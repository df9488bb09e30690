-- Which of the commands that words ask for are served, and how the others are refused.
use Rattle.std.specs.Prelude.{◌≡◌, ℕ, true, false, List, [], ◌∷◌, drop, Option, Some, None, slice_get}
use Rattle.effs_words.specs.Options.{watch_places}
use Rattle.effs_words.specs.Words.{Words as Ask, BadWord}
use Rattle.effs_words.specs.declared.command.Command.{Command}
use Rattle.effs_words.specs.declared.command.Command.TheVariants as command
use Rattle.effs_words.specs.declared.command.RunWords.{RunWords}
use Rattle.effs_words.specs.declared.error.WordError.{WordError}
use Rattle.effs_words.specs.declared.error.WordError.TheVariants.{NeedsThreads, UnknownWatch}
use Rattle.effsan_top.specs.declared.served.SoloPlay.{SoloPlay}
use Rattle.effsan_top.specs.declared.refusal.Refusal.{Refusal}
use Rattle.effsan_top.specs.declared.refusal.Refusal.TheVariants as refusal

-- the words after the program's name, each as its bytes
abbrev pub Words : Type 0
Words = List (List ℕ)

-- ---- what is served

abbrev pub solo_words : SoloPlay → RunWords
solo_words play = record {
  entries = play.entry ∷ [];
  setup = None;
  finish = None;
  turns = play.turns;
  show = false;
  watch = [];
  bytes = false;
  trim = false;
}

-- The words ask for `play` of one function with so many turns, and for nothing besides.
abbrev pub AskSolo : Words → SoloPlay → Type 0
AskSolo words play = Ask words (command.Play (solo_words play) [])

-- The words ask for what is served.
abbrev pub AreServed : Words → Type 0
AreServed words = (play : SoloPlay) × AskSolo words play

-- The words ask for something, served or not.
abbrev pub AreGood : Words → Type 0
AreGood words = (command : Command) × Ask words command

-- ---- what is refused

-- where the first name of a watcher stands, among the words after the command
abbrev pub first_watch : Words → Option ℕ
first_watch words = slice_get (watch_places true (drop 1 words)) 0

-- A command is not served: it needs threads, or no watcher has a name that `--watch` gives, or it is not built yet.
pub data IsUnserved (words : Words) : Command → Refusal → Type 0 where
  run_needs_threads : {run : RunWords} → IsUnserved words (command.Run run) (refusal.Words NeedsThreads)
  big_needs_threads : {n : ℕ} → IsUnserved words (command.Big n) (refusal.Words NeedsThreads)
  unknown_watch : {run : RunWords} {schedule : List ℕ} {n : ℕ} → first_watch words ≡ Some n →
      IsUnserved words (command.Play run schedule) (refusal.Words (UnknownWatch n))
  play_not_yet : {run : RunWords} {schedule : List ℕ} → run.watch ≡ [] →
      ((play : SoloPlay) → run ≡ solo_words play → schedule ≡ [] → ⊥) → IsUnserved words (command.Play run schedule) refusal.NotYet
  layout_not_yet : {elem want : List ℕ} {size k : ℕ} → IsUnserved words (command.Layout elem size k want) refusal.NotYet
  check_not_yet : IsUnserved words command.Check refusal.NotYet
  verify_not_yet : IsUnserved words command.Verify refusal.NotYet

-- The words are refused: for their first bad one, or because what they ask for is not served.
pub data AreRefused (words : Words) : Refusal → Type 0 where
  bad_word : {e : WordError} → BadWord words e → AreRefused words (refusal.Words e)
  unserved : {command : Command} {r : Refusal} → Ask words command → IsUnserved words command r → AreRefused words r
