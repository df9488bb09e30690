-- Lines of options: which words are options that may stand so, what they say, and the first bad word after them.
use Rattle.std.specs.Prelude.{◌≡◌, ℕ, ◌+◌, Bool, true, false, List, [], ◌∷◌, ◌++◌, length, Some, None}
use Rattle.effs_words.specs.Numbers.{Word}
use Rattle.effs_words.specs.Options.{Asked, nothing, option_of, takes_value, word_fault, value_fault, with_flag, with_value}
use Rattle.effs_words.specs.declared.error.WordError.{WordError}
use Rattle.effs_words.specs.declared.error.WordError.TheVariants as error
use Rattle.effs_words.specs.declared.options.OptionName.{OptionName}

-- the place of the word that stands after the command and these words
abbrev pub place_after : List Word → ℕ
place_after words = length words + 2

-- `AreOptions play workers words asked`: the words are options, each of which may stand after those before it, and they say this.
-- `workers` is how many entries the whole line names.
pub data AreOptions (play : Bool) (workers : ℕ) : List Word → Asked → Type 0 where
  start : AreOptions play workers [] nothing
  alone : (words : List Word) (a : Asked) (word : Word) (name : OptionName) → AreOptions play workers words a
      → option_of play word ≡ Some name → word_fault a (place_after words) name ≡ None → takes_value name ≡ false
      → AreOptions play workers (words ++ word ∷ []) (with_flag a name)
  valued : (words : List Word) (a : Asked) (word value : Word) (name : OptionName) → AreOptions play workers words a
      → option_of play word ≡ Some name → word_fault a (place_after words) name ≡ None → takes_value name ≡ true
      → value_fault workers a (place_after words) name value ≡ None
      → AreOptions play workers (words ++ word ∷ value ∷ []) (with_value a name value)

-- `IsBadNext play workers asked n words e`: after options that say this, the next of the line's words, which is word n, is the
-- first bad one, or its value is; or no word is left, and no entry was named.
pub data IsBadNext (play : Bool) (workers : ℕ) (a : Asked) (n : ℕ) : List Word → WordError → Type 0 where
  unknown : {word : Word} {words : List Word} → option_of play word ≡ None → IsBadNext play workers a n (word ∷ words) (error.UnknownWord n)
  misplaced : {word : Word} {words : List Word} {e : WordError} (name : OptionName) → option_of play word ≡ Some name
      → word_fault a n name ≡ Some e → IsBadNext play workers a n (word ∷ words) e
  missing : {word : Word} (name : OptionName) → option_of play word ≡ Some name → word_fault a n name ≡ None
      → takes_value name ≡ true → IsBadNext play workers a n (word ∷ []) (error.MissingValue n)
  bad_value : {word value : Word} {words : List Word} {e : WordError} (name : OptionName) → option_of play word ≡ Some name
      → word_fault a n name ≡ None → takes_value name ≡ true → value_fault workers a n name value ≡ Some e
      → IsBadNext play workers a n (word ∷ value ∷ words) e
  no_entry : a.entries ≡ [] → IsBadNext play workers a n [] error.NoEntry
