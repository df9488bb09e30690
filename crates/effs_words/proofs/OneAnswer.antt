-- Each list of words asks for one thing, or has one first bad word.
use Rattle.std.proofs.Common.{◌≡◌, ℕ, ◌<◌, ◌⊎◌, inl, inr, Bool, true, false, List, [], ◌∷◌, ◌++◌, length, Option, Some, None, Result, Ok, Err, refl, sym, ap, ◌∙◌, subst, append-nil, arith}
use Rattle.effs_words.specs.Numbers.{Word}
use Rattle.effs_words.specs.Options.{Asked, nothing, entry_count}
use Rattle.effs_words.specs.Lines.{AreOptions, start, place_after, IsBadNext}
use Rattle.effs_words.specs.Words as words
use Rattle.effs_words.specs.Words.{Words, BadWord, command_of, run_words, schedule_in, size_of, offset_of, scale_of}
use Rattle.effs_words.specs.declared.command.Command.{Command}
use Rattle.effs_words.specs.declared.command.Command.TheVariants as command
use Rattle.effs_words.specs.declared.error.WordError.{WordError}
use Rattle.effs_words.specs.declared.error.WordError.TheVariants as error
use Rattle.effs_words.specs.declared.options.CommandName.{CommandName}
use Rattle.effs_words.specs.declared.options.CommandName.TheVariants as name
use Rattle.effs_words.proofs.Judging.{judge, ends, reads_on, bad_is_told, Outcome, good, bad, outcome, between, by_option}

-- ---- the judge of all words

abbrev as_run : Result Asked WordError → Result Command WordError
as_run (Ok a) = Ok (command.Run (run_words a))
as_run (Err e) = Err e

abbrev as_play : ℕ → Result Asked WordError → Result Command WordError
as_play workers (Ok a) = Ok (command.Play (run_words a) (schedule_in workers a.schedule))
as_play workers (Err e) = Err e

abbrev layout_end : Word → ℕ → ℕ → List Word → Result Command WordError
layout_end elem s k [] = Err (error.MissingValue 4)
layout_end elem s k (want ∷ []) = Ok (command.Layout elem s k want)
layout_end elem s k (want ∷ next ∷ rest) = Err (error.UnknownWord 6)

abbrev layout_by_offset : Word → ℕ → Option ℕ → List Word → Result Command WordError
layout_by_offset elem s None rest = Err (error.BadNumber 4)
layout_by_offset elem s (Some k) rest = layout_end elem s k rest

abbrev layout_after_size : Word → ℕ → List Word → Result Command WordError
layout_after_size elem s [] = Err (error.MissingValue 3)
layout_after_size elem s (offset ∷ rest) = layout_by_offset elem s (offset_of offset) rest

abbrev layout_by_size : Word → Option ℕ → List Word → Result Command WordError
layout_by_size elem None rest = Err (error.BadNumber 3)
layout_by_size elem (Some s) rest = layout_after_size elem s rest

abbrev layout : List Word → Result Command WordError
layout [] = Err (error.MissingValue 1)
layout (elem ∷ []) = Err (error.MissingValue 2)
layout (elem ∷ size ∷ rest) = layout_by_size elem (size_of size) rest

abbrev big_end : ℕ → List Word → Result Command WordError
big_end n [] = Ok (command.Big n)
big_end n (next ∷ rest) = Err (error.UnknownWord 3)

abbrev big_by : Option ℕ → List Word → Result Command WordError
big_by None rest = Err (error.BadNumber 2)
big_by (Some n) rest = big_end n rest

abbrev big : List Word → Result Command WordError
big [] = Err (error.MissingValue 1)
big (scale ∷ rest) = big_by (scale_of scale) rest

abbrev lone : Command → List Word → Result Command WordError
lone c [] = Ok c
lone c (next ∷ rest) = Err (error.UnknownWord 2)

abbrev judge_command : Option CommandName → List Word → Result Command WordError
judge_command None rest = Err (error.UnknownWord 1)
judge_command (Some name.Run) rest = as_run (judge false (entry_count false rest) nothing 2 None rest)
judge_command (Some name.Play) rest = as_play (entry_count true rest) (judge true (entry_count true rest) nothing 2 None rest)
judge_command (Some name.Layout) rest = layout rest
judge_command (Some name.Check) rest = lone command.Check rest
judge_command (Some name.Big) rest = big rest
judge_command (Some name.Verify) rest = lone command.Verify rest

abbrev judge_words : List Word → Result Command WordError
judge_words [] = Err error.NoCommand
judge_words (word ∷ rest) = judge_command (command_of word) rest

-- ---- it finds what the relations say

whole : (play : Bool) (workers : ℕ) (ws : List Word) (a : Asked) → AreOptions play workers ws a → 0 < length a.entries
    → judge play workers nothing 2 None ws ≡ Ok a
whole play workers ws a reads some =
    ap (judge play workers nothing 2 None) (sym (append-nil ws)) ∙ reads_on play workers ws a reads [] ∙ at_end a.entries some
  where
    at_end : (entries : List Word) → 0 < length entries → ends a entries ≡ Ok a
    at_end [] none = absurd (omega arith)
    at_end (entry ∷ entries) some = refl

broken : (play : Bool) (workers : ℕ) (read rest : List Word) (a : Asked) (e : WordError) → AreOptions play workers read a
    → IsBadNext play workers a (place_after read) rest e → judge play workers nothing 2 None (read ++ rest) ≡ Err e
broken play workers read rest a e reads wrong = reads_on play workers read a reads rest ∙ bad_is_told play workers a (place_after read) rest e wrong

pub complete : (ws : List Word) (c : Command) → Words ws c → judge_words ws ≡ Ok c
complete _ _ (words.run {word = word} {words = ws} a named reads some) =
    ap (λ n. judge_command n ws) named ∙ ap as_run (whole false (entry_count false ws) ws a reads some)
complete _ _ (words.play {word = word} {words = ws} a named reads some) =
    ap (λ n. judge_command n ws) named ∙ ap (as_play (entry_count true ws)) (whole true (entry_count true ws) ws a reads some)
complete (word ∷ elem ∷ size ∷ offset ∷ want ∷ []) _ (words.layout named sized placed) = rw (named, sized, placed) refl
complete (word ∷ []) _ (words.check named) = rw named refl
complete (word ∷ scale ∷ []) _ (words.big named scaled) = rw (named, scaled) refl
complete (word ∷ []) _ (words.verify named) = rw named refl

pub refuses : (ws : List Word) (e : WordError) → BadWord ws e → judge_words ws ≡ Err e
refuses _ _ words.no_command = refl
refuses (word ∷ ws) _ (words.unknown named) = rw named refl
refuses _ e (words.run {word = word} read rest a named reads wrong) =
    ap (λ n. judge_command n (read ++ rest)) named ∙ ap as_run (broken false (entry_count false (read ++ rest)) read rest a e reads wrong)
refuses _ e (words.play {word = word} read rest a named reads wrong) =
    ap (λ n. judge_command n (read ++ rest)) named ∙ ap (as_play (entry_count true (read ++ rest))) (broken true (entry_count true (read ++ rest)) read rest a e reads wrong)
refuses (word ∷ []) _ (words.no_elem named) = rw named refl
refuses (word ∷ elem ∷ []) _ (words.no_size named) = rw named refl
refuses (word ∷ elem ∷ size ∷ ws) _ (words.bad_size named sized) = rw (named, sized) refl
refuses (word ∷ elem ∷ size ∷ []) _ (words.no_offset s named sized) = rw (named, sized) refl
refuses (word ∷ elem ∷ size ∷ offset ∷ ws) _ (words.bad_offset s named sized placed) = rw (named, sized, placed) refl
refuses (word ∷ elem ∷ size ∷ offset ∷ []) _ (words.no_want s k named sized placed) = rw (named, sized, placed) refl
refuses (word ∷ elem ∷ size ∷ offset ∷ want ∷ next ∷ ws) _ (words.after_layout s k named sized placed) = rw (named, sized, placed) refl
refuses (word ∷ next ∷ ws) _ (words.after_check named) = rw named refl
refuses (word ∷ next ∷ ws) _ (words.after_verify named) = rw named refl
refuses (word ∷ []) _ (words.no_scale named) = rw named refl
refuses (word ∷ scale ∷ ws) _ (words.bad_scale named scaled) = rw (named, scaled) refl
refuses (word ∷ scale ∷ next ∷ ws) _ (words.after_big n named scaled) = rw (named, scaled) refl

-- ---- and each list has one of them

abbrev pub Either : List Word → Type 0
Either ws = ((c : Command) × Words ws c) ⊎ ((e : WordError) × BadWord ws e)

line_of_run : (word : Word) (ws : List Word) → command_of word ≡ Some name.Run → Outcome false (entry_count false ws) ws → Either (word ∷ ws)
line_of_run word ws named (good a entry entries reads is) =
    inl (command.Run (run_words a), words.run a named reads (omega (arith, ap length is)))
line_of_run word ws named (bad read rest a e joined reads wrong) =
    inr (
      e,
      subst (λ all. BadWord (word ∷ all) e) (sym joined)
          (words.run read rest a named
          (subst (λ all. AreOptions false (entry_count false all) read a) joined reads)
          (subst (λ all. IsBadNext false (entry_count false all) a (place_after read) rest e) joined wrong)),
    )

line_of_play : (word : Word) (ws : List Word) → command_of word ≡ Some name.Play → Outcome true (entry_count true ws) ws → Either (word ∷ ws)
line_of_play word ws named (good a entry entries reads is) =
    inl (command.Play (run_words a) (schedule_in (entry_count true ws) a.schedule), words.play a named reads (omega (arith, ap length is)))
line_of_play word ws named (bad read rest a e joined reads wrong) =
    inr (
      e,
      subst (λ all. BadWord (word ∷ all) e) (sym joined)
          (words.play read rest a named
          (subst (λ all. AreOptions true (entry_count true all) read a) joined reads)
          (subst (λ all. IsBadNext true (entry_count true all) a (place_after read) rest e) joined wrong)),
    )

line_of_layout : (word : Word) (ws : List Word) → command_of word ≡ Some name.Layout → Either (word ∷ ws)
line_of_layout word [] named = inr (error.MissingValue 1, words.no_elem named)
line_of_layout word (elem ∷ []) named = inr (error.MissingValue 2, words.no_size named)
line_of_layout word (elem ∷ size ∷ ws) named =
    by_option (size_of size) (λ no. inr (error.BadNumber 3, words.bad_size named no)) (λ s sized. after_size s sized ws)
  where
    after_offset : (s k : ℕ) → size_of size ≡ Some s → (offset : Word) → offset_of offset ≡ Some k → (rest : List Word) → Either (word ∷ elem ∷ size ∷ offset ∷ rest)
    after_offset s k sized offset placed [] = inr (error.MissingValue 4, words.no_want s k named sized placed)
    after_offset s k sized offset placed (want ∷ []) = inl (command.Layout elem s k want, words.layout named sized placed)
    after_offset s k sized offset placed (want ∷ next ∷ rest) = inr (error.UnknownWord 6, words.after_layout s k named sized placed)

    after_size : (s : ℕ) → size_of size ≡ Some s → (rest : List Word) → Either (word ∷ elem ∷ size ∷ rest)
    after_size s sized [] = inr (error.MissingValue 3, words.no_offset s named sized)
    after_size s sized (offset ∷ rest) =
        by_option (offset_of offset) (λ no. inr (error.BadNumber 4, words.bad_offset s named sized no)) (λ k placed. after_offset s k sized offset placed rest)

line_of_check : (word : Word) (ws : List Word) → command_of word ≡ Some name.Check → Either (word ∷ ws)
line_of_check word [] named = inl (command.Check, words.check named)
line_of_check word (next ∷ ws) named = inr (error.UnknownWord 2, words.after_check named)

line_of_verify : (word : Word) (ws : List Word) → command_of word ≡ Some name.Verify → Either (word ∷ ws)
line_of_verify word [] named = inl (command.Verify, words.verify named)
line_of_verify word (next ∷ ws) named = inr (error.UnknownWord 2, words.after_verify named)

line_of_big : (word : Word) (ws : List Word) → command_of word ≡ Some name.Big → Either (word ∷ ws)
line_of_big word [] named = inr (error.MissingValue 1, words.no_scale named)
line_of_big word (scale ∷ ws) named =
    by_option (scale_of scale) (λ no. inr (error.BadNumber 2, words.bad_scale named no)) (λ n scaled. after_scale n scaled ws)
  where
    after_scale : (n : ℕ) → scale_of scale ≡ Some n → (rest : List Word) → Either (word ∷ scale ∷ rest)
    after_scale n scaled [] = inl (command.Big n, words.big named scaled)
    after_scale n scaled (next ∷ rest) = inr (error.UnknownWord 3, words.after_big n named scaled)

line_of : (word : Word) (ws : List Word) (n : CommandName) → command_of word ≡ Some n → Either (word ∷ ws)
line_of word ws name.Run named = line_of_run word ws named (outcome false (entry_count false ws) [] (between nothing start) ws)
line_of word ws name.Play named = line_of_play word ws named (outcome true (entry_count true ws) [] (between nothing start) ws)
line_of word ws name.Layout named = line_of_layout word ws named
line_of word ws name.Check named = line_of_check word ws named
line_of word ws name.Big named = line_of_big word ws named
line_of word ws name.Verify named = line_of_verify word ws named

pub either : (ws : List Word) → Either ws
either [] = inr (error.NoCommand, words.no_command)
either (word ∷ ws) = by_option (command_of word) (λ no. inr (error.UnknownWord 1, words.unknown no)) (λ n named. line_of word ws n named)

-- ---- and no two

abbrev as_answer : Command → Result Command WordError
as_answer c = Ok c

abbrev as_refusal : WordError → Result Command WordError
as_refusal e = Err e

same_command : (c other : Command) → as_answer c ≡ as_answer other → other ≡ c
same_command c other same = cc same

same_refusal : (e other : WordError) → as_refusal e ≡ as_refusal other → other ≡ e
same_refusal e other same = cc same

pub one_command : (ws : List Word) (c other : Command) → Words ws c → Words ws other → other ≡ c
one_command ws c other is was = same_command c other (sym (complete ws c is) ∙ complete ws other was)

pub one_refusal : (ws : List Word) (e other : WordError) → BadWord ws e → BadWord ws other → other ≡ e
one_refusal ws e other is was = same_refusal e other (sym (refuses ws e is) ∙ refuses ws other was)

not_both : (c : Command) (e : WordError) → as_answer c ≡ as_refusal e → ⊥
not_both c e same = cc same

pub apart : (ws : List Word) (c : Command) (e : WordError) → Words ws c → BadWord ws e → ⊥
apart ws c e is was = not_both c e (sym (complete ws c is) ∙ refuses ws e was)
