-- The options of `run` and `play`.
use Rattle.std.specs.Prelude.{ℕ, ◌+◌, ◌||◌, Bool, true, false, nat_le, List, [], ◌∷◌, ◌++◌, length, Option, Some, None, is_some, if◌then◌else◌, codes}
use Rattle.std.specs.List.{list_any}
use Rattle.std.specs.Str.{bytes_eq}
use Rattle.effs_words.specs.Numbers.{Word, number_in}
use Rattle.effs_words.specs.Schedules.{schedule_of}
use Rattle.effs_words.specs.declared.error.WordError.{WordError}
use Rattle.effs_words.specs.declared.error.WordError.TheVariants as error
use Rattle.effs_words.specs.declared.options.OptionName.{OptionName}
use Rattle.effs_words.specs.declared.options.OptionName.TheVariants.{Entry, Setup, Finish, Turns, Record, Bytes, Trim, Watch, Schedule}
use Rattle.effs_words.specs.declared.values.Listed.{Listed}
use Rattle.effs_words.specs.declared.values.Listed.TheVariants.{Entries, Watches}

-- ---- names

abbrev pub option_in_play : Bool → Word → Option OptionName
option_in_play true word = if bytes_eq word (codes "--schedule") then Some Schedule else None
option_in_play false word = None

-- The option that a word names. `--schedule` is one of `play` alone.
unfoldable pub option_of : Bool → Word → Option OptionName
option_of play word =
    if bytes_eq word (codes "--entry") then Some Entry
    else if bytes_eq word (codes "--setup") then Some Setup
    else if bytes_eq word (codes "--finish") then Some Finish
    else if bytes_eq word (codes "--turns") then Some Turns
    else if bytes_eq word (codes "--record") then Some Record
    else if bytes_eq word (codes "--bytes") then Some Bytes
    else if bytes_eq word (codes "--trim") then Some Trim
    else if bytes_eq word (codes "--watch") then Some Watch
    else option_in_play play word

-- A value is the next word, whatever it is.
abbrev pub takes_value : OptionName → Bool
takes_value Entry = true
takes_value Setup = true
takes_value Finish = true
takes_value Turns = true
takes_value Record = false
takes_value Bytes = false
takes_value Trim = false
takes_value Watch = true
takes_value Schedule = true

-- ---- the values in a line, whatever else is wrong in it

abbrev pub awaited_by : Option OptionName → Option OptionName
awaited_by None = None
awaited_by (Some name) = if takes_value name then Some name else None

-- the option with a value that a word is
abbrev pub awaited : Bool → Word → Option OptionName
awaited play word = awaited_by (option_of play word)

abbrev pub is_listed : Listed → OptionName → Bool
is_listed Entries Entry = true
is_listed Watches Watch = true
is_listed _ _ = false

abbrev pub onto_if : {A : Type 0} → Bool → A → List A → List A
onto_if true one others = one ∷ others
onto_if false one others = others

-- The values of `--entry`, or of `--watch`, in their order. A word that is no option is passed over alone, and an option
-- without a word after it has no value. The next word is the value of the option before it, where there is one.
abbrev pub values_of : Bool → Listed → Option OptionName → List Word → List Word
values_of play listed before [] = []
values_of play listed None (word ∷ words) = values_of play listed (awaited play word) words
values_of play listed (Some name) (word ∷ words) = onto_if (is_listed listed name) word (values_of play listed None words)

-- The places of those values, of words of which the first is word n.
abbrev pub places_of : Bool → Listed → Option OptionName → ℕ → List Word → List ℕ
places_of play listed before n [] = []
places_of play listed None n (word ∷ words) = places_of play listed (awaited play word) (n + 1) words
places_of play listed (Some name) n (word ∷ words) = onto_if (is_listed listed name) n (places_of play listed None (n + 1) words)

-- The places of the names that `--watch` gives, in the words after the command.
unfoldable pub watch_places : Bool → List Word → List ℕ
watch_places play words = places_of play Watches None 2 words

unfoldable pub entry_count : Bool → List Word → ℕ
entry_count play words = length (values_of play Entries None words)

-- ---- what options say

pub record Asked : Type 0 where
  pub entries : List Word
  pub setup : Option Word
  pub finish : Option Word
  pub turns : Option ℕ
  pub show : Bool
  pub bytes : Bool
  pub trim : Bool
  pub watch : List Word
  pub schedule : Option Word

abbrev pub nothing : Asked
nothing = record {
  entries = [];
  setup = None;
  finish = None;
  turns = None;
  show = false;
  bytes = false;
  trim = false;
  watch = [];
  schedule = None;
}

abbrev pub turns_in : Word → Option ℕ
turns_in value = number_in 1 5000000 value

abbrev pub with_flag : Asked → OptionName → Asked
with_flag a Record = record a { show = true }
with_flag a Bytes = record a { bytes = true }
with_flag a Trim = record a { trim = true }
with_flag a _ = a

abbrev pub with_value : Asked → OptionName → Word → Asked
with_value a Entry value = record a { entries = a.entries ++ value ∷ [] }
with_value a Setup value = record a { setup = Some value }
with_value a Finish value = record a { finish = Some value }
with_value a Turns value = record a { turns = turns_in value }
with_value a Watch value = record a { watch = a.watch ++ value ∷ [] }
with_value a Schedule value = record a { schedule = Some value }
with_value a _ value = a

-- ---- what is wrong with an option after others

abbrev pub told_if : Bool → WordError → Option WordError
told_if true e = Some e
told_if false e = None

abbrev pub or_told_if : Option WordError → Bool → WordError → Option WordError
or_told_if None b e = told_if b e
or_told_if (Some first) b e = Some first

abbrev pub has_some : List Word → Bool
has_some [] = false
has_some (word ∷ words) = true

-- What is wrong with the option's own word, which is word n, after options that say this: what stands once stands again, or
-- `--bytes` stands with `--record` or `--watch`.
abbrev pub word_fault : Asked → ℕ → OptionName → Option WordError
word_fault a n Entry = None
word_fault a n Setup = told_if (is_some a.setup) (error.Repeated n)
word_fault a n Finish = told_if (is_some a.finish) (error.Repeated n)
word_fault a n Turns = told_if (is_some a.turns) (error.Repeated n)
word_fault a n Record = or_told_if (told_if a.show (error.Repeated n)) a.bytes (error.Excluded n)
word_fault a n Bytes = or_told_if (told_if a.bytes (error.Repeated n)) (a.show || has_some a.watch) (error.Excluded n)
word_fault a n Trim = told_if a.trim (error.Repeated n)
word_fault a n Watch = told_if a.bytes (error.Excluded n)
word_fault a n Schedule = told_if (is_some a.schedule) (error.Repeated n)

abbrev pub told_unless : Bool → WordError → Option WordError
told_unless true e = None
told_unless false e = Some e

-- What is wrong with the option and its value, which is the word after it: a ninth entry, a watch name again, or what is no
-- number or list of its range.
abbrev pub value_fault : ℕ → Asked → ℕ → OptionName → Word → Option WordError
value_fault workers a n Entry value = told_if (nat_le 8 (length a.entries)) error.TooManyEntries
value_fault workers a n Turns value = told_unless (is_some (turns_in value)) (error.BadNumber (n + 1))
value_fault workers a n Watch value = told_if (list_any (bytes_eq value) a.watch) (error.Repeated n)
value_fault workers a n Schedule value = told_unless (is_some (schedule_of workers value)) (error.BadNumber (n + 1))
value_fault workers a n _ value = None
