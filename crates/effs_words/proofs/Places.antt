-- Places of the values of options.
use Rattle.std.proofs.Common.{◌≡◌, ℕ, ◌+◌, suc, Bool, true, false, List, [], ◌∷◌, length, drop, Option, Some, None, refl, ap, ◌∙◌}
use Rattle.effs_words.specs.Numbers.{Word}
use Rattle.effs_words.specs.Options.{values_of, places_of, watch_places, awaited, is_listed, onto_if}
use Rattle.effs_words.specs.Words.{Words, play}
use Rattle.effs_words.specs.declared.command.Command.TheVariants as command
use Rattle.effs_words.specs.declared.command.RunWords.{RunWords}
use Rattle.effs_words.specs.declared.options.OptionName.{OptionName}
use Rattle.effs_words.specs.declared.values.Listed.{Listed}
use Rattle.effs_words.specs.declared.values.Listed.TheVariants.{Watches}
use Rattle.effs_words.proofs.Answering.{watch_all}

as_many : (b : Bool) (n : ℕ) (word : Word) (places : List ℕ) (values : List Word) → length places ≡ length values
    → length (onto_if b n places) ≡ length (onto_if b word values)
as_many true n word places values e = ap suc e
as_many false n word places values e = e

-- each value has one place
one_each : (in_play : Bool) (listed : Listed) (before : Option OptionName) (n : ℕ) (words : List Word)
    → length (places_of in_play listed before n words) ≡ length (values_of in_play listed before words)
one_each in_play listed before n [] = refl
one_each in_play listed None n (word ∷ words) = one_each in_play listed (awaited in_play word) (n + 1) words
one_each in_play listed (Some name) n (word ∷ words) =
    as_many (is_listed listed name) n word _ _ (one_each in_play listed None (n + 1) words)

pub watches_placed : (words : List Word) (run : RunWords) (schedule : List ℕ) → Words words (command.Play run schedule)
    → length (watch_places true (drop 1 words)) ≡ length run.watch
unfolding watch_places
watches_placed [] run schedule none = elim none [ ]
watches_placed (word ∷ words) run schedule (play a named reads some) =
    one_each true Watches None 2 words ∙ ap length (watch_all true _ words a reads)
