-- Lists of turns that are read part by part.
use Rattle.std.proofs.Common.{◌≡◌, ℕ, ◌+◌, Bool, true, false, List, [], ◌∷◌, ◌++◌, ◌-◌, ◌<◌, ◌≤◌, ◌⊎◌, inl, inr, length, replicate, Option, Some, None, refl, sym, ap, ◌∙◌, append_assoc, cond}
use Rattle.std.specs.Prelude.{◌==◌, nat_le, is_some}
use Rattle.std.proofs.lemmas.Bool.{le-leb, lt-leb}
use Rattle.std.proofs.lemmas.Bool.Decides.{leb_tells}
use Rattle.effs_words.specs.declared.schedule.Turns.{Turns}
use Rattle.std.specs.List.{onto_first}
use Rattle.effs_words.specs.Numbers.{Word}
use Rattle.effs_words.specs.Schedules.{Cut, cut, parts, parts_left, turns_of, all_turns, onto, schedule_of}

abbrev pub left_measure : Option Word → ℕ
left_measure None = 0
left_measure (Some list) = length list + 1

abbrev pub onto_list : List ℕ → Option (List ℕ) → Option (List ℕ)
onto_list before None = None
onto_list before (Some rest) = Some (before ++ rest)

abbrev pick : Bool → Cut → Cut → Cut
pick c x y = cond c x y

-- the first part ends at the first comma
pub first_part : (list : Word) → parts list ≡ (cut 44 list).front ∷ parts_left (cut 44 list).rest
first_part [] = refl
first_part (b ∷ bs) =
    elim (b == 44) as (λ c. cond c ([] ∷ parts bs) (onto_first b (parts bs))
    ≡ (pick c (record { front = []; rest = Some bs }) (record { front = b ∷ (cut 44 bs).front; rest = (cut 44 bs).rest })).front
    ∷ parts_left (pick c (record { front = []; rest = Some bs }) (record { front = b ∷ (cut 44 bs).front; rest = (cut 44 bs).rest })).rest) [
      | true ↦ refl
      | false ↦ ap (onto_first b) (first_part bs)
    ]

-- ---- one part more

no_turns : (workers room : ℕ) (now front : Word) → front ≡ (cut 44 now).front → None ≡ turns_of workers front
    → all_turns workers room (parts now) ≡ None
no_turns workers room now front is none_there =
    let first : turns_of workers (cut 44 now).front ≡ None = ap (turns_of workers) (sym is) ∙ sym none_there in
    rw (first_part now, all_turns, first) refl

over : (workers room : ℕ) (now front : Word) (t : Turns) → front ≡ (cut 44 now).front → Some t ≡ turns_of workers front
    → room < t.times → all_turns workers room (parts now) ≡ None
over workers room now front t is said many =
    let first : turns_of workers (cut 44 now).front ≡ Some t = ap (turns_of workers) (sym is) ∙ sym said in
    let no_room : nat_le t.times room ≡ false = lt-leb _ _ many in
    rw (first_part now, all_turns, first, no_room) refl

within : (workers room : ℕ) (now front : Word) (t : Turns) → front ≡ (cut 44 now).front → Some t ≡ turns_of workers front
    → t.times ≤ room → all_turns workers room (parts now) ≡ onto t (all_turns workers (room - t.times) (parts_left (cut 44 now).rest))
within workers room now front t is said few =
    let first : turns_of workers (cut 44 now).front ≡ Some t = ap (turns_of workers) (sym is) ∙ sym said in
    let has_room : nat_le t.times room ≡ true = le-leb _ _ few in
    rw (first_part now, all_turns, first, has_room) refl

is_some-onto : (t : Turns) (o : Option (List ℕ)) → is_some (onto t o) ≡ is_some o
is_some-onto t None = refl
is_some-onto t (Some list) = refl

onto_list-onto : (before : List ℕ) (t : Turns) (o : Option (List ℕ)) → onto_list before (onto t o) ≡ onto_list (before ++ replicate t.times t.worker) o
onto_list-onto before t None = refl
onto_list-onto before t (Some list) = ap Some (sym (append_assoc before (replicate t.times t.worker) list))

-- ---- a list that is judged

module _ (workers room : ℕ) (left : Option Word) (list now front : Word)
    (so_far : is_some (all_turns workers room (parts_left left)) ≡ is_some (all_turns workers 100000 (parts list)))
    (some_left : left ≡ Some now) (first : front ≡ (cut 44 now).front) where
  here : all_turns workers room (parts_left left) ≡ all_turns workers room (parts now)
  here = ap (λ o. all_turns workers room (parts_left o)) some_left

  pub stops : None ≡ turns_of workers front → false ≡ is_some (schedule_of workers list)
  unfolding schedule_of
  stops none_there = sym (ap is_some (here ∙ no_turns workers room now front first none_there)) ∙ so_far

  pub stops_over : (t : Turns) → Some t ≡ turns_of workers front → room < t.times → false ≡ is_some (schedule_of workers list)
  unfolding schedule_of
  stops_over t said many = sym (ap is_some (here ∙ over workers room now front t first said many)) ∙ so_far

  pub goes_on : (t : Turns) (rest : Option Word) → Some t ≡ turns_of workers front → t.times ≤ room → rest ≡ (cut 44 now).rest
      → is_some (all_turns workers (room - t.times) (parts_left rest)) ≡ is_some (all_turns workers 100000 (parts list))
  goes_on t rest said few is =
      ap (λ o. is_some (all_turns workers (room - t.times) (parts_left o))) is
      ∙ sym (is_some-onto t (all_turns workers (room - t.times) (parts_left (cut 44 now).rest)))
      ∙ sym (ap is_some (here ∙ within workers room now front t first said few))
      ∙ so_far

-- ---- a list that is read

module _ (workers room : ℕ) (schedule : List ℕ) (left : Option Word) (list now front : Word)
    (so_far : onto_list schedule (all_turns workers room (parts_left left)) ≡ all_turns workers 100000 (parts list))
    (some_left : left ≡ Some now) (first : front ≡ (cut 44 now).front) where
  there : all_turns workers room (parts_left left) ≡ all_turns workers room (parts now)
  there = ap (λ o. all_turns workers room (parts_left o)) some_left

  not_none : is_some (schedule_of workers list) ≡ true → all_turns workers room (parts now) ≡ None → ⊥
  unfolding schedule_of
  not_none sound none_there =
      let gone : all_turns workers 100000 (parts list) ≡ None = sym so_far ∙ ap (onto_list schedule) (there ∙ none_there) in
      let both : false ≡ true = sym (ap is_some gone) ∙ sound in
      cc both

  pub must_turn : is_some (schedule_of workers list) ≡ true → (r : Option Turns) → r ≡ turns_of workers front → is_some r ≡ true
  must_turn sound None said = absurd (not_none sound (no_turns workers room now front first said))
  must_turn sound (Some t) said = refl

  pub must_fit : is_some (schedule_of workers list) ≡ true → (t : Turns) → Some t ≡ turns_of workers front → t.times ≤ room
  must_fit sound t said =
      by_order (leb_tells t.times room)
    where
      by_order : ((nat_le t.times room ≡ true) × (t.times ≤ room)) ⊎ ((nat_le t.times room ≡ false) × (room < t.times)) → t.times ≤ room
      by_order (inl few) = few.1
      by_order (inr many) = absurd (not_none sound (over workers room now front t first said many.1))

  pub adds : is_some (schedule_of workers list) ≡ true → (t : Turns) (rest : Option Word) → Some t ≡ turns_of workers front → rest ≡ (cut 44 now).rest
      → onto_list (schedule ++ replicate t.times t.worker) (all_turns workers (room - t.times) (parts_left rest)) ≡ all_turns workers 100000 (parts list)
  adds sound t rest said is =
      ap (λ o. onto_list (schedule ++ replicate t.times t.worker) (all_turns workers (room - t.times) (parts_left o))) is
      ∙ sym (onto_list-onto schedule t (all_turns workers (room - t.times) (parts_left (cut 44 now).rest)))
      ∙ sym (ap (onto_list schedule) (there ∙ within workers room now front t first said (must_fit sound t said)))
      ∙ so_far
