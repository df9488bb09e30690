-- From a judged line to the answer.
use Rattle.std.proofs.Common.{◌≡◌, ℕ, inl, inr, Bool, true, false, List, [], ◌∷◌, length, Some, None, Result, Ok, Err, sym, ap, ◌∙◌, subst, append-nil}
use Rattle.std.specs.Prelude.{IfOk, IfErr, MatchResult}
use Rattle.effs_words.specs.Numbers.{Word}
use Rattle.effs_words.specs.Options.{Asked, entry_count, values_of}
use Rattle.effs_words.specs.Lines.{AreOptions, IsBadNext, place_after}
use Rattle.effs_words.specs.Words as words
use Rattle.effs_words.specs.Words.{Words, BadWord, HasCause, IsMemory, IsOutOfMemory, command_of, run_words, schedule_in}
use Rattle.effs_words.specs.Judged.{AsksIn, IsAnswer, IsBadSomewhere, HasLineCause}
use Rattle.effs_words.specs.declared.command.Command.{Command}
use Rattle.effs_words.specs.declared.command.Command.TheVariants as command
use Rattle.effs_words.specs.declared.command.RunWords.{RunWords}
use Rattle.effs_words.specs.declared.error.WordError.{WordError}
use Rattle.effs_words.specs.declared.options.CommandName.TheVariants as name
use Rattle.effs_words.specs.declared.values.Listed.TheVariants.{Entries, Watches}
use Rattle.effs_words.proofs.Judging.{values_on}
use Rattle.effs_words.proofs.OneAnswer.{apart, one_command, one_refusal}

module _ (word : Word) (ws : List Word) where
  pub asks_run : (run : RunWords) (list : List ℕ) → AsksIn false ws run list → command_of word ≡ Some name.Run
      → Words (word ∷ ws) (command.Run run)
  asks_run run list asks named = subst (λ r. Words (word ∷ ws) (command.Run r)) (sym asks.is) (words.run asks.asked named asks.reads asks.some)

  pub asks_play : (run : RunWords) (list : List ℕ) → AsksIn true ws run list → command_of word ≡ Some name.Play
      → Words (word ∷ ws) (command.Play run list)
  asks_play run list asks named =
      subst (λ r. Words (word ∷ ws) (command.Play r list)) (sym asks.is)
      (subst (λ l. Words (word ∷ ws) (command.Play (run_words asks.asked) l)) (sym asks.turns)
      (words.play asks.asked named asks.reads asks.some))

  bad_run : (e : WordError) → IsBadSomewhere false (entry_count false ws) ws e → command_of word ≡ Some name.Run → BadWord (word ∷ ws) e
  bad_run e b named =
      subst (λ l. BadWord (word ∷ l) e) (sym b.joined)
      (words.run b.before b.rest b.bad.asked named
      (subst (λ l. AreOptions false (entry_count false l) b.before b.bad.asked) b.joined b.bad.reads)
      (subst (λ l. IsBadNext false (entry_count false l) b.bad.asked (place_after b.before) b.rest e) b.joined b.bad.bad))

  bad_play : (e : WordError) → IsBadSomewhere true (entry_count true ws) ws e → command_of word ≡ Some name.Play → BadWord (word ∷ ws) e
  bad_play e b named =
      subst (λ l. BadWord (word ∷ l) e) (sym b.joined)
      (words.play b.before b.rest b.bad.asked named
      (subst (λ l. AreOptions true (entry_count true l) b.before b.bad.asked) b.joined b.bad.reads)
      (subst (λ l. IsBadNext true (entry_count true l) b.bad.asked (place_after b.before) b.rest e) b.joined b.bad.bad))

  pub run_refused : (e : WordError) → HasLineCause false ws e → command_of word ≡ Some name.Run → HasCause (word ∷ ws) e
  run_refused e (inl b) named = inl (bad_run e b named)
  run_refused e (inr m) named = inr (record { memory = m.memory; command = command.Run m.run; asked = asks_run m.run m.list m.asks named })

  pub play_refused : (e : WordError) → HasLineCause true ws e → command_of word ≡ Some name.Play → HasCause (word ∷ ws) e
  play_refused e (inl b) named = inl (bad_play e b named)
  play_refused e (inr m) named = inr (record { memory = m.memory; command = command.Play m.run m.list; asked = asks_play m.run m.list m.asks named })

-- ---- all clauses of an answer that fits

pub is_found : (ws : List Word) (r : Result Command WordError) → IsAnswer ws r → IfOk r (λ c. Words ws c)
is_found ws (Ok c) fits = fits
is_found ws (Err e) fits = tt

pub is_refused : (ws : List Word) (r : Result Command WordError) → IsAnswer ws r → IfErr r (λ e. HasCause ws e)
is_refused ws (Ok c) fits = tt
is_refused ws (Err e) fits = fits

pub is_only : (ws : List Word) (r : Result Command WordError) → IsAnswer ws r → (c : Command) → Words ws c
    → MatchResult r (λ other. other ≡ c) IsMemory
is_only ws (Ok other) fits c is = one_command ws c other is fits
is_only ws (Err e) (inl wrong) c is = absurd (apart ws c e is wrong)
is_only ws (Err e) (inr memory) c is = memory.memory

pub is_only_refused : (ws : List Word) (r : Result Command WordError) → IsAnswer ws r → (e : WordError) → BadWord ws e → r ≡ Err e
is_only_refused ws (Ok c) fits e wrong = absurd (apart ws c e fits wrong)
is_only_refused ws (Err other) (inl was) e wrong = ap (λ x. Err x) (one_refusal ws e other wrong was)
is_only_refused ws (Err other) (inr memory) e wrong = absurd (apart ws memory.command e memory.asked wrong)

-- ---- what the options of a line ask for

pub entries_read : (play : Bool) (workers : ℕ) (ws : List Word) (a : Asked) → AreOptions play workers ws a → values_of play Entries None ws ≡ a.entries
entries_read play workers ws a reads =
    ap (values_of play Entries None) (sym (append-nil ws)) ∙ values_on play workers Entries ws a reads [] ∙ append-nil a.entries

pub watch_all : (play : Bool) (workers : ℕ) (ws : List Word) (a : Asked) → AreOptions play workers ws a → values_of play Watches None ws ≡ a.watch
watch_all play workers ws a reads =
    ap (values_of play Watches None) (sym (append-nil ws)) ∙ values_on play workers Watches ws a reads [] ∙ append-nil a.watch

pub counted : (play : Bool) (workers : ℕ) (ws : List Word) (a : Asked) → AreOptions play workers ws a → entry_count play ws ≡ length a.entries
unfolding entry_count
counted play workers ws a reads = ap length (entries_read play workers ws a reads)
