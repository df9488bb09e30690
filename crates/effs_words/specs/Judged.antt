-- What the judging of a line of options keeps from one option to the next.
use Rattle.std.specs.Prelude.{◌≡◌, ℕ, ◌<◌, ◌≤◌, Result, Ok, Err, Bool, List, ◌++◌, ◌⊎◌, length}
use Rattle.std.specs.Option.{option_map, ForSome}
use Rattle.effs_words.specs.Numbers.{Word}
use Rattle.effs_words.specs.Options.{Asked, has_some, with_value, entry_count}
use Rattle.effs_words.specs.Lines.{AreOptions, IsBadNext, place_after}
use Rattle.effs_words.specs.Words.{Words, HasCause, IsMemory, run_words, schedule_in}
use Rattle.effs_words.specs.declared.command.Command.{Command}
use Rattle.effs_words.specs.declared.command.RunWords.{RunWords}
use Rattle.effs_words.specs.declared.error.WordError.{WordError}
use Rattle.effs_words.specs.declared.judge.Options.{Options}
use Rattle.effs_words.specs.declared.options.OptionName.{OptionName}

-- what options say that were read one after another, with the names that are not kept
abbrev pub asked_of : Options → List Word → List Word → Asked
asked_of options entries watch = record {
  entries = entries;
  setup = option_map (λ name. name.now) options.setup;
  finish = option_map (λ name. name.now) options.finish;
  turns = options.turns;
  show = options.show;
  bytes = options.bytes;
  trim = options.trim;
  watch = watch;
  schedule = option_map (λ list. list.now) options.schedule;
}

-- The words are options, and say this.
pub record Says (play : Bool) (workers : ℕ) (words : List Word) (options : Options) : Type 0 where
  pub entries : List Word
  pub watch : List Word
  pub reads : AreOptions play workers words (asked_of options entries watch)
  pub counted : options.entries ≡ length entries
  pub watched : options.watched ≡ has_some watch
  pub few : options.entries ≤ 8
  pub small : ForSome options.turns (λ n. n ≤ 5000000)

-- The words before are options, and the next of the line is the first bad one.
pub record IsBadLine (play : Bool) (workers : ℕ) (before rest : List Word) (e : WordError) : Type 0 where
  pub asked : Asked
  pub reads : AreOptions play workers before asked
  pub bad : IsBadNext play workers asked (place_after before) rest e

-- What a value changes in what options say, whatever names were given before.
pub record Takes (old new : Options) (name : OptionName) (given : Word) : Type 0 where
  pub asked : (entries watch : List Word) → let after : Asked = with_value (asked_of old entries watch) name given in
      asked_of new after.entries after.watch ≡ after
  pub counted : (entries watch : List Word) → old.entries ≡ length entries
      → new.entries ≡ length (with_value (asked_of old entries watch) name given).entries
  pub watched : (entries watch : List Word) → old.watched ≡ has_some watch
      → new.watched ≡ has_some (with_value (asked_of old entries watch) name given).watch
  pub small : ForSome old.turns (λ n. n ≤ 5000000) → ForSome new.turns (λ n. n ≤ 5000000)

-- Somewhere in the line is its first bad word.
pub record IsBadSomewhere (play : Bool) (workers : ℕ) (words : List Word) (e : WordError) : Type 0 where
  pub before : List Word
  pub rest : List Word
  pub joined : words ≡ before ++ rest
  pub bad : IsBadLine play workers before rest e

-- What the options of a line ask for.
pub record Asks (play : Bool) (workers : ℕ) (words : List Word) (run : RunWords) (list : List ℕ) : Type 0 where
  pub asked : Asked
  pub reads : AreOptions play workers words asked
  pub some : 0 < length asked.entries
  pub is : run ≡ run_words asked
  pub turns : list ≡ schedule_in workers asked.schedule

-- The answer fits the words.
abbrev pub IsAnswer : List Word → Result Command WordError → Type 0
IsAnswer words (Ok command) = Words words command
IsAnswer words (Err e) = HasCause words e

abbrev pub AsksIn : Bool → List Word → RunWords → List ℕ → Type 0
AsksIn play words run list = Asks play (entry_count play words) words run list

-- Out of memory is told of a line that asks for something alone.
pub record IsLineOutOfMemory (play : Bool) (words : List Word) (e : WordError) : Type 0 where
  pub memory : IsMemory e
  pub run : RunWords
  pub list : List ℕ
  pub asks : AsksIn play words run list

abbrev pub HasLineCause : Bool → List Word → WordError → Type 0
HasLineCause play words e = IsBadSomewhere play (entry_count play words) words e ⊎ IsLineOutOfMemory play words e
