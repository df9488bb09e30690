-- The line of words judged as a function on lists, which finds what the relations say, and nothing else.
use Rattle.std.proofs.Common.{◌≡◌, ℕ, ◌+◌, Bool, true, false, List, [], ◌∷◌, ◌++◌, Option, Some, None, Result, Ok, Err, refl, sym, ap, ◌∙◌, subst, append_assoc, append-nil, length-append, arith, cond}
use Rattle.effs_words.specs.Numbers.{Word}
use Rattle.effs_words.specs.Options.{Asked, nothing, option_of, takes_value, word_fault, value_fault, with_flag, with_value, values_of, is_listed, onto_if}
use Rattle.effs_words.specs.Lines.{AreOptions, start, alone, valued, IsBadNext, unknown, misplaced, missing, bad_value, no_entry, place_after}
use Rattle.effs_words.specs.declared.error.WordError.{WordError}
use Rattle.effs_words.specs.declared.error.WordError.TheVariants as error
use Rattle.effs_words.specs.declared.options.OptionName.{OptionName}
use Rattle.effs_words.specs.declared.options.OptionName.TheVariants as option
use Rattle.effs_words.specs.declared.values.Listed.{Listed}
use Rattle.effs_words.specs.declared.values.Listed.TheVariants.{Entries, Watches}

pub by_option : {X C : Type 0} (o : Option X) → (o ≡ None → C) → ((x : X) → o ≡ Some x → C) → C
by_option None nothing_there there = nothing_there refl
by_option (Some x) nothing_there there = there x refl

by_bool : {C : Type 0} (b : Bool) → (b ≡ true → C) → (b ≡ false → C) → C
by_bool true on_true on_false = on_true refl
by_bool false on_true on_false = on_false refl

by_list : {C : Type 0} (ws : List Word) → (ws ≡ [] → C) → ((w : Word) (more : List Word) → ws ≡ w ∷ more → C) → C
by_list [] nothing_there there = nothing_there refl
by_list (w ∷ more) nothing_there there = there w more refl

-- ---- the judge

abbrev pub ends : Asked → List Word → Result Asked WordError
ends a [] = Err error.NoEntry
ends a (entry ∷ entries) = Ok a

module _ (play : Bool) (workers : ℕ) where
  -- after options that say this, at word n of the line: an option, or the value of one
  abbrev pub judge : Asked → ℕ → Option OptionName → List Word → Result Asked WordError
  judge a n None [] = ends a a.entries
  judge a n (Some name) [] = Err (error.MissingValue n)
  judge a n None (word ∷ words) = elim (option_of play word) [
    | None ↦ Err (error.UnknownWord n)
    | Some name ↦ elim (word_fault a n name) [
      | Some e ↦ Err e
      | None ↦ cond (takes_value name) (judge a n (Some name) words) (judge (with_flag a name) (n + 1) None words)
    ]
  ]
  judge a n (Some name) (value ∷ words) = elim (value_fault workers a n name value) [
    | Some e ↦ Err e
    | None ↦ judge (with_value a name value) (n + 2) None words
  ]

  -- ---- what is read leads on

  one_more : (words : List Word) (word : Word) → place_after (words ++ word ∷ []) ≡ place_after words + 1
  one_more words word = omega (arith, length-append words (word ∷ []))

  two_more : (words : List Word) (word value : Word) → place_after (words ++ word ∷ value ∷ []) ≡ place_after words + 2
  two_more words word value = omega (arith, length-append words (word ∷ value ∷ []))

  -- an option waits for its value
  waits : (a : Asked) (n : ℕ) (word : Word) (name : OptionName) (words : List Word) → option_of play word ≡ Some name
      → word_fault a n name ≡ None → takes_value name ≡ true → judge a n None (word ∷ words) ≡ judge a n (Some name) words
  waits a n word name words named sound taken = rw (judge, named, sound, taken) refl

  pub reads_on : (words : List Word) (a : Asked) → AreOptions play workers words a → (rest : List Word)
      → judge nothing 2 None (words ++ rest) ≡ judge a (place_after words) None rest
  reads_on [] _ start rest = refl
  reads_on _ _ (alone words a word name before named sound bare) rest =
      ap (judge nothing 2 None) (append_assoc words (word ∷ []) rest)
      ∙ reads_on words a before (word ∷ rest)
      ∙ step
    where
      step : judge a (place_after words) None (word ∷ rest) ≡ judge (with_flag a name) (place_after (words ++ word ∷ [])) None rest
      step = rw (judge, named, sound, bare, one_more words word) refl
  reads_on _ _ (valued words a word given name before named sound taken fits) rest =
      ap (judge nothing 2 None) (append_assoc words (word ∷ given ∷ []) rest)
      ∙ reads_on words a before (word ∷ given ∷ rest)
      ∙ step
    where
      step : judge a (place_after words) None (word ∷ given ∷ rest) ≡ judge (with_value a name given) (place_after (words ++ word ∷ given ∷ [])) None rest
      step = waits a (place_after words) word name (given ∷ rest) named sound taken ∙ rw (judge, fits, two_more words word given) refl

  pub bad_is_told : (a : Asked) (n : ℕ) (rest : List Word) (e : WordError) → IsBadNext play workers a n rest e → judge a n None rest ≡ Err e
  bad_is_told a n _ _ (unknown named) = rw (judge, named) refl
  bad_is_told a n _ _ (misplaced name named wrong) = rw (judge, named, wrong) refl
  bad_is_told a n _ _ (missing name named sound taken) = rw (judge, named, sound, taken) refl
  bad_is_told a n (word ∷ given ∷ words) e (bad_value name named sound taken wrong) =
      waits a n word name (given ∷ words) named sound taken ∙ rw (judge, wrong) refl
  bad_is_told a n _ _ (no_entry empty) = rw (judge, empty) refl

  -- ---- each line has one of the two

  -- the line is read whole and names an entry, or it has a first bad word
  pub data Outcome (all : List Word) : Type 0 where
    good : (a : Asked) (entry : Word) (entries : List Word) → AreOptions play workers all a → a.entries ≡ entry ∷ entries → Outcome all
    bad : (read rest : List Word) (a : Asked) (e : WordError) → all ≡ read ++ rest → AreOptions play workers read a
        → IsBadNext play workers a (place_after read) rest e → Outcome all

  -- where the reading stands after some words: between two options, or with the value of one to come
  pub data Stands (all : List Word) : Type 0 where
    between : (a : Asked) → AreOptions play workers all a → Stands all
    within : (read : List Word) (a : Asked) (word : Word) (name : OptionName) → all ≡ read ++ word ∷ [] → AreOptions play workers read a
        → option_of play word ≡ Some name → word_fault a (place_after read) name ≡ None → takes_value name ≡ true → Stands all

  later : (read : List Word) (word : Word) (rest : List Word) → Outcome ((read ++ word ∷ []) ++ rest) → Outcome (read ++ (word ∷ rest))
  later read word rest o = subst Outcome (append_assoc read (word ∷ []) rest) o

  outcome_between : (read : List Word) (a : Asked) (word : Word) (rest : List Word) → AreOptions play workers read a
      → ((s : Stands (read ++ word ∷ [])) → Outcome ((read ++ word ∷ []) ++ rest)) → Outcome (read ++ (word ∷ rest))
  outcome_between read a word rest reads go =
      by_option (option_of play word)
      (λ no. bad read (word ∷ rest) a (error.UnknownWord (place_after read)) refl reads (unknown no))
      (λ name named. by_option (word_fault a (place_after read) name)
      (λ sound. by_bool (takes_value name)
      (λ taken. later read word rest (go (within read a word name refl reads named sound taken)))
      (λ bare. later read word rest (go (between (with_flag a name) (alone read a word name reads named sound bare)))))
      (λ e wrong. bad read (word ∷ rest) a e refl reads (misplaced name named wrong)))

  pub outcome : (read : List Word) → Stands read → (rest : List Word) → Outcome (read ++ rest)
  outcome read (between a reads) [] =
      by_list a.entries
      (λ empty. bad read [] a error.NoEntry refl reads (no_entry empty))
      (λ entry entries is. good a entry entries (subst (λ ws. AreOptions play workers ws a) (sym (append-nil read)) reads) is)
  outcome read (within before a word name is reads named sound taken) [] =
      bad before (word ∷ []) a (error.MissingValue (place_after before)) (append-nil read ∙ is) reads (missing name named sound taken)
  outcome read (between a reads) (word ∷ rest) = outcome_between read a word rest reads (λ s. outcome (read ++ word ∷ []) s rest)
  outcome read (within before a word name is reads named sound taken) (given ∷ rest) =
      by_option (value_fault workers a (place_after before) name given)
      (λ fits. later read given rest (outcome (read ++ given ∷ [])
      (between (with_value a name given) (subst (λ ws. AreOptions play workers ws (with_value a name given)) (sym (whole given)) (valued before a word given name reads named sound taken fits))) rest))
      (λ e wrong. bad before (word ∷ given ∷ rest) a e (ap (λ ws. ws ++ (given ∷ rest)) is ∙ append_assoc before (word ∷ []) (given ∷ rest)) reads (bad_value name named sound taken wrong))
    where
      whole : (v : Word) → read ++ v ∷ [] ≡ before ++ word ∷ v ∷ []
      whole v = ap (λ ws. ws ++ v ∷ []) is ∙ append_assoc before (word ∷ []) (v ∷ [])

-- ---- the values of options in what is read

abbrev pub listed_of : Listed → Asked → List Word
listed_of Entries a = a.entries
listed_of Watches a = a.watch

flag_keeps : (listed : Listed) (a : Asked) (name : OptionName) → listed_of listed (with_flag a name) ≡ listed_of listed a
flag_keeps Entries a option.Entry = refl
flag_keeps Entries a option.Setup = refl
flag_keeps Entries a option.Finish = refl
flag_keeps Entries a option.Turns = refl
flag_keeps Entries a option.Record = refl
flag_keeps Entries a option.Bytes = refl
flag_keeps Entries a option.Trim = refl
flag_keeps Entries a option.Watch = refl
flag_keeps Entries a option.Schedule = refl
flag_keeps Watches a option.Entry = refl
flag_keeps Watches a option.Setup = refl
flag_keeps Watches a option.Finish = refl
flag_keeps Watches a option.Turns = refl
flag_keeps Watches a option.Record = refl
flag_keeps Watches a option.Bytes = refl
flag_keeps Watches a option.Trim = refl
flag_keeps Watches a option.Watch = refl
flag_keeps Watches a option.Schedule = refl

value_adds : (listed : Listed) (a : Asked) (name : OptionName) (v : Word) (more : List Word) → takes_value name ≡ true
    → listed_of listed a ++ onto_if (is_listed listed name) v more ≡ listed_of listed (with_value a name v) ++ more
value_adds Entries a option.Entry v more taken = sym (append_assoc a.entries (v ∷ []) more)
value_adds Entries a option.Setup v more taken = refl
value_adds Entries a option.Finish v more taken = refl
value_adds Entries a option.Turns v more taken = refl
value_adds Entries a option.Record v more taken = refl
value_adds Entries a option.Bytes v more taken = refl
value_adds Entries a option.Trim v more taken = refl
value_adds Entries a option.Watch v more taken = refl
value_adds Entries a option.Schedule v more taken = refl
value_adds Watches a option.Entry v more taken = refl
value_adds Watches a option.Setup v more taken = refl
value_adds Watches a option.Finish v more taken = refl
value_adds Watches a option.Turns v more taken = refl
value_adds Watches a option.Record v more taken = refl
value_adds Watches a option.Bytes v more taken = refl
value_adds Watches a option.Trim v more taken = refl
value_adds Watches a option.Watch v more taken = sym (append_assoc a.watch (v ∷ []) more)
value_adds Watches a option.Schedule v more taken = refl

-- what is read has named these, whatever stands after it
pub values_on : (play : Bool) (workers : ℕ) (listed : Listed) (words : List Word) (a : Asked) → AreOptions play workers words a → (rest : List Word)
    → values_of play listed None (words ++ rest) ≡ listed_of listed a ++ values_of play listed None rest
values_on play workers Entries [] _ start rest = refl
values_on play workers Watches [] _ start rest = refl
values_on play workers listed _ _ (alone words a word name before named sound bare) rest =
    ap (values_of play listed None) (append_assoc words (word ∷ []) rest)
    ∙ values_on play workers listed words a before (word ∷ rest)
    ∙ step
  where
    step : listed_of listed a ++ values_of play listed None (word ∷ rest) ≡ listed_of listed (with_flag a name) ++ values_of play listed None rest
    step = rw (values_of, named, bare, flag_keeps listed a name) refl
values_on play workers listed _ _ (valued words a word given name before named sound taken fits) rest =
    ap (values_of play listed None) (append_assoc words (word ∷ given ∷ []) rest)
    ∙ values_on play workers listed words a before (word ∷ given ∷ rest)
    ∙ step
  where
    step : listed_of listed a ++ values_of play listed None (word ∷ given ∷ rest) ≡ listed_of listed (with_value a name given) ++ values_of play listed None rest
    step = rw (values_of, named, taken) (value_adds listed a name given (values_of play listed None rest) taken)
