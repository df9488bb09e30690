-- The words of the command line, which are those after the program's name, numbered from 1.
use Rattle.std.specs.Prelude.{◌≡◌, ℕ, ◌<◌, ◌⊎◌, true, false, List, [], ◌∷◌, ◌++◌, length, Option, Some, None, if◌then◌else◌, codes, unwrap_or}
use Rattle.std.specs.Str.{bytes_eq}
use Rattle.effs_words.specs.Numbers.{Word, number_in}
use Rattle.effs_words.specs.Schedules.{schedule_of}
use Rattle.effs_words.specs.Options.{Asked, entry_count}
use Rattle.effs_words.specs.Lines.{AreOptions, IsBadNext, place_after}
use Rattle.effs_words.specs.declared.command.Command.{Command}
use Rattle.effs_words.specs.declared.command.Command.TheVariants as command
use Rattle.effs_words.specs.declared.command.RunWords.{RunWords}
use Rattle.effs_words.specs.declared.error.WordError.{WordError}
use Rattle.effs_words.specs.declared.error.WordError.TheVariants as error
use Rattle.effs_words.specs.declared.options.CommandName.{CommandName}
use Rattle.effs_words.specs.declared.options.CommandName.TheVariants.{Run, Play, Layout, Check, Big, Verify}

unfoldable pub command_of : Word → Option CommandName
command_of word =
    if bytes_eq word (codes "run") then Some Run
    else if bytes_eq word (codes "play") then Some Play
    else if bytes_eq word (codes "layout") then Some Layout
    else if bytes_eq word (codes "check") then Some Check
    else if bytes_eq word (codes "big") then Some Big
    else if bytes_eq word (codes "verify") then Some Verify
    else None

abbrev pub run_words : Asked → RunWords
run_words a = record {
  entries = a.entries;
  setup = a.setup;
  finish = a.finish;
  turns = unwrap_or a.turns 1000000;
  show = a.show;
  watch = a.watch;
  bytes = a.bytes;
  trim = a.trim;
}

-- whose turn it is, in their order; no turn where no list was given
abbrev pub schedule_in : ℕ → Option Word → List ℕ
schedule_in workers None = []
schedule_in workers (Some list) = unwrap_or (schedule_of workers list) []

-- the numbers of `layout`: the size of an object, and a place in it
abbrev pub size_of : Word → Option ℕ
size_of word = number_in 0 1048559 word

abbrev pub offset_of : Word → Option ℕ
offset_of word = number_in 0 1048576 word

-- how big a generated source is
abbrev pub scale_of : Word → Option ℕ
scale_of word = number_in 1 2000 word

-- `Words words command`: the words ask for this.
pub data Words : List Word → Command → Type 0 where
  run : {word : Word} {words : List Word} (a : Asked) → command_of word ≡ Some Run
      → AreOptions false (entry_count false words) words a → 0 < length a.entries
      → Words (word ∷ words) (command.Run (run_words a))
  play : {word : Word} {words : List Word} (a : Asked) → command_of word ≡ Some Play
      → AreOptions true (entry_count true words) words a → 0 < length a.entries
      → Words (word ∷ words) (command.Play (run_words a) (schedule_in (entry_count true words) a.schedule))
  layout : {word elem size offset want : Word} {s k : ℕ} → command_of word ≡ Some Layout
      → size_of size ≡ Some s → offset_of offset ≡ Some k
      → Words (word ∷ elem ∷ size ∷ offset ∷ want ∷ []) (command.Layout elem s k want)
  check : {word : Word} → command_of word ≡ Some Check → Words (word ∷ []) command.Check
  big : {word scale : Word} {n : ℕ} → command_of word ≡ Some Big → scale_of scale ≡ Some n
      → Words (word ∷ scale ∷ []) (command.Big n)
  verify : {word : Word} → command_of word ≡ Some Verify → Words (word ∷ []) command.Verify

-- `BadWord words e`: this is wrong with the first bad word.
pub data BadWord : List Word → WordError → Type 0 where
  no_command : BadWord [] error.NoCommand
  unknown : {word : Word} {words : List Word} → command_of word ≡ None → BadWord (word ∷ words) (error.UnknownWord 1)
  run : {word : Word} {e : WordError} (read words : List Word) (a : Asked) → command_of word ≡ Some Run
      → AreOptions false (entry_count false (read ++ words)) read a
      → IsBadNext false (entry_count false (read ++ words)) a (place_after read) words e
      → BadWord (word ∷ (read ++ words)) e
  play : {word : Word} {e : WordError} (read words : List Word) (a : Asked) → command_of word ≡ Some Play
      → AreOptions true (entry_count true (read ++ words)) read a
      → IsBadNext true (entry_count true (read ++ words)) a (place_after read) words e
      → BadWord (word ∷ (read ++ words)) e
  -- `layout` takes four words
  no_elem : {word : Word} → command_of word ≡ Some Layout → BadWord (word ∷ []) (error.MissingValue 1)
  no_size : {word elem : Word} → command_of word ≡ Some Layout → BadWord (word ∷ elem ∷ []) (error.MissingValue 2)
  bad_size : {word elem size : Word} {words : List Word} → command_of word ≡ Some Layout → size_of size ≡ None
      → BadWord (word ∷ elem ∷ size ∷ words) (error.BadNumber 3)
  no_offset : {word elem size : Word} (s : ℕ) → command_of word ≡ Some Layout → size_of size ≡ Some s
      → BadWord (word ∷ elem ∷ size ∷ []) (error.MissingValue 3)
  bad_offset : {word elem size offset : Word} {words : List Word} (s : ℕ) → command_of word ≡ Some Layout
      → size_of size ≡ Some s → offset_of offset ≡ None → BadWord (word ∷ elem ∷ size ∷ offset ∷ words) (error.BadNumber 4)
  no_want : {word elem size offset : Word} (s k : ℕ) → command_of word ≡ Some Layout
      → size_of size ≡ Some s → offset_of offset ≡ Some k → BadWord (word ∷ elem ∷ size ∷ offset ∷ []) (error.MissingValue 4)
  after_layout : {word elem size offset want next : Word} {words : List Word} (s k : ℕ) → command_of word ≡ Some Layout
      → size_of size ≡ Some s → offset_of offset ≡ Some k
      → BadWord (word ∷ elem ∷ size ∷ offset ∷ want ∷ next ∷ words) (error.UnknownWord 6)
  -- `check` and `verify` take none
  after_check : {word next : Word} {words : List Word} → command_of word ≡ Some Check
      → BadWord (word ∷ next ∷ words) (error.UnknownWord 2)
  after_verify : {word next : Word} {words : List Word} → command_of word ≡ Some Verify
      → BadWord (word ∷ next ∷ words) (error.UnknownWord 2)
  -- `big` takes one
  no_scale : {word : Word} → command_of word ≡ Some Big → BadWord (word ∷ []) (error.MissingValue 1)
  bad_scale : {word scale : Word} {words : List Word} → command_of word ≡ Some Big → scale_of scale ≡ None
      → BadWord (word ∷ scale ∷ words) (error.BadNumber 2)
  after_big : {word scale next : Word} {words : List Word} (n : ℕ) → command_of word ≡ Some Big → scale_of scale ≡ Some n
      → BadWord (word ∷ scale ∷ next ∷ words) (error.UnknownWord 3)

abbrev pub IsMemory : WordError → Type 0
IsMemory (error.Memory e) = Unit {0}
IsMemory e = ⊥

-- Out of memory is told of words that ask for something alone.
pub record IsOutOfMemory (words : List Word) (e : WordError) : Type 0 where
  pub memory : IsMemory e
  pub command : Command
  pub asked : Words words command

abbrev pub HasCause : List Word → WordError → Type 0
HasCause words e = BadWord words e ⊎ IsOutOfMemory words e
