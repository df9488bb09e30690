-- One option more of a line.
use Rattle.std.proofs.Common.{◌≡◌, ℕ, zero, suc, ◌+◌, ◌<◌, ◌≤◌, ◌⊎◌, inl, inr, Bool, true, false, List, [], ◌∷◌, ◌++◌, length, map, get_or, take, drop, Some, None, refl, sym, ap, ◌∙◌, subst, append_assoc, append-nil, length-append, length-take-le, arith}
use Rattle.std.specs.Prelude.{nat_le}
use Rattle.std.proofs.lemmas.List.{drop_more, drop_all, take-map, take_more, length-map}
use Rattle.std.proofs.lemmas.Bool.Decides.{leb_tells}
use Rattle.effs_words.specs.Numbers.{Word}
use Rattle.effs_words.specs.Options.{Asked, option_of, takes_value, word_fault, value_fault, with_flag, with_value, values_of, told_if}
use Rattle.effs_words.specs.Lines.{AreOptions, alone, valued, IsBadNext, unknown, misplaced, missing, bad_value, place_after}
use Rattle.effs_words.specs.Judged.{IsBadLine}
use Rattle.effs_words.specs.declared.error.WordError.{WordError}
use Rattle.effs_words.specs.declared.error.WordError.TheVariants as error
use Rattle.effs_words.specs.declared.options.OptionName.{OptionName}
use Rattle.effs_words.specs.declared.options.OptionName.TheVariants as option
use Rattle.effs_words.specs.declared.values.Listed.TheVariants.{Watches}
use Rattle.effs_words.proofs.Judging.{values_on}

get_or-map : {X : Type 0} (f : X → Word) (ws : List X) (at : ℕ) (x : X) → get_or (map f ws) at (f x) ≡ f (get_or ws at x)
get_or-map f [] at x = refl
get_or-map f (y ∷ ws) zero x = refl
get_or-map f (y ∷ ws) (suc at) x = get_or-map f ws at x

-- the entries stay 8 at most
pub few_after : (workers : ℕ) (a : Asked) (n : ℕ) (name : OptionName) (v : Word) → None ≡ value_fault workers a n name v
    → length a.entries ≤ 8 → length (with_value a name v).entries ≤ 8
few_after workers a n option.Entry v fits few = by_order (leb_tells 8 (length a.entries))
  where
    by_order : ((nat_le 8 (length a.entries) ≡ true) × (8 ≤ length a.entries)) ⊎ ((nat_le 8 (length a.entries) ≡ false) × (length a.entries < 8))
        → length (a.entries ++ v ∷ []) ≤ 8
    by_order (inl many) = absurd (let said : None ≡ told_if true error.TooManyEntries = fits ∙ ap (λ b. told_if b error.TooManyEntries) many.0 in cc said)
    by_order (inr room) = omega (arith, room.1, length-append a.entries (v ∷ []))
few_after workers a n option.Setup v fits few = few
few_after workers a n option.Finish v fits few = few
few_after workers a n option.Turns v fits few = few
few_after workers a n option.Record v fits few = few
few_after workers a n option.Bytes v fits few = few
few_after workers a n option.Trim v fits few = few
few_after workers a n option.Watch v fits few = few
few_after workers a n option.Schedule v fits few = few

module _ {X : Type 0} (f : X → Word) (play : Bool) (workers : ℕ) (ws : List X) where
  pub next_word : (at : ℕ) (x : X) → at < length ws → x ≡ get_or ws at x → drop at (map f ws) ≡ f x ∷ drop (at + 1) (map f ws)
  next_word at x lt is =
      let inside : at < length (map f ws) = omega (arith, lt, length-map ws f) in
      drop_more (map f ws) at (f x) inside
      ∙ ap (λ w. w ∷ drop (at + 1) (map f ws)) (get_or-map f ws at x ∙ ap f (sym is))

  pub one_word_more : (at : ℕ) (x : X) → at < length ws → x ≡ get_or ws at x → take (at + 1) (map f ws) ≡ take at (map f ws) ++ f x ∷ []
  one_word_more at x lt is =
      let inside : at < length (map f ws) = omega (arith, lt, length-map ws f) in
      take_more (map f ws) at (f x) inside
      ∙ ap (λ w. take at (map f ws) ++ w ∷ []) (get_or-map f ws at x ∙ ap f (sym is))

  pub place_at : (at : ℕ) → at ≤ length ws → place_after (take at (map f ws)) ≡ at + 2
  place_at at le =
      let inside : at ≤ length (map f ws) = omega (arith, le, length-map ws f) in
      omega (arith, length-take-le at (map f ws) inside)

  -- which names of watchers were read
  pub watch_read : (at : ℕ) (a : Asked) → AreOptions play workers (take at (map f ws)) a → a.watch ≡ values_of play Watches None (map f (take at ws))
  watch_read at a reads =
      sym (append-nil a.watch)
      ∙ sym (values_on play workers Watches (take at (map f ws)) a reads [])
      ∙ ap (values_of play Watches None) (append-nil (take at (map f ws)) ∙ take-map f at ws)

  module _ (at : ℕ) (x : X) (lt : at < length ws) (is : x ≡ get_or ws at x) (a : Asked) (reads : AreOptions play workers (take at (map f ws)) a) where
    line : (e : WordError) → IsBadNext play workers a (at + 2) (f x ∷ drop (at + 1) (map f ws)) e
        → IsBadLine play workers (take at (map f ws)) (drop at (map f ws)) e
    line e wrong = record {
      asked = a;
      reads = reads;
      bad =
          subst (λ rest. IsBadNext play workers a (place_after (take at (map f ws))) rest e) (sym (next_word at x lt is))
          (subst (λ n. IsBadNext play workers a n (f x ∷ drop (at + 1) (map f ws)) e) (sym (place_at at (omega (arith, lt)))) wrong);
    }

    pub unknown_next : None ≡ option_of play (f x) → IsBadLine play workers (take at (map f ws)) (drop at (map f ws)) (error.UnknownWord (at + 2))
    unknown_next other = line (error.UnknownWord (at + 2)) (unknown (sym other))

    pub misplaced_next : (name : OptionName) (e : WordError) → Some name ≡ option_of play (f x) → Some e ≡ word_fault a (at + 2) name
        → IsBadLine play workers (take at (map f ws)) (drop at (map f ws)) e
    misplaced_next name e named wrong = line e (misplaced name (sym named) (sym wrong))

    module _ (name : OptionName) (named : Some name ≡ option_of play (f x)) (sound : None ≡ word_fault a (at + 2) name) where
      pub missing_next : takes_value name ≡ true → at + 1 ≡ length ws
          → IsBadLine play workers (take at (map f ws)) (drop at (map f ws)) (error.MissingValue (at + 2))
      missing_next taken last =
          let end : drop (at + 1) (map f ws) ≡ [] = drop_all (at + 1) (map f ws) (omega (arith, last, length-map ws f)) in
          line (error.MissingValue (at + 2))
          (subst (λ rest. IsBadNext play workers a (at + 2) (f x ∷ rest) (error.MissingValue (at + 2))) (sym end)
          (missing name (sym named) (sym sound) taken))

      pub bad_value_next : (y : X) (e : WordError) → takes_value name ≡ true → at + 1 < length ws → y ≡ get_or ws (at + 1) y
          → Some e ≡ value_fault workers a (at + 2) name (f y) → IsBadLine play workers (take at (map f ws)) (drop at (map f ws)) e
      bad_value_next y e taken more there wrong =
          line e (subst (λ rest. IsBadNext play workers a (at + 2) (f x ∷ rest) e) (sym (next_word (at + 1) y more there))
          (bad_value name (sym named) (sym sound) taken (sym wrong)))

      placed_sound : word_fault a (place_after (take at (map f ws))) name ≡ None
      placed_sound = ap (λ n. word_fault a n name) (place_at at (omega (arith, lt))) ∙ sym sound

      pub read_alone : takes_value name ≡ false → AreOptions play workers (take (at + 1) (map f ws)) (with_flag a name)
      read_alone bare =
          subst (λ front. AreOptions play workers front (with_flag a name)) (sym (one_word_more at x lt is))
          (alone (take at (map f ws)) a (f x) name reads (sym named) placed_sound bare)

      pub read_valued : (y : X) → takes_value name ≡ true → at + 1 < length ws → y ≡ get_or ws (at + 1) y
          → None ≡ value_fault workers a (at + 2) name (f y) → AreOptions play workers (take (at + 2) (map f ws)) (with_value a name (f y))
      read_valued y taken more there fits =
          let two : at + 2 ≡ at + 1 + 1 = omega arith in
          let both : take (at + 2) (map f ws) ≡ take at (map f ws) ++ f x ∷ f y ∷ [] =
          ap (λ n. take n (map f ws)) two
          ∙ one_word_more (at + 1) y more there
          ∙ ap (λ front. front ++ f y ∷ []) (one_word_more at x lt is)
          ∙ append_assoc (take at (map f ws)) (f x ∷ []) (f y ∷ []) in
          subst (λ front. AreOptions play workers front (with_value a name (f y))) (sym both)
          (valued (take at (map f ws)) a (f x) (f y) name reads (sym named) placed_sound taken
          (ap (λ n. value_fault workers a n name (f y)) (place_at at (omega (arith, lt))) ∙ sym fits))

pub empty_list : (ws : List Word) → length ws ≡ 0 → ws ≡ []
empty_list [] empty = refl
empty_list (w ∷ ws) empty = absurd (omega arith)
