-- What holds of the slot that comes next.
use Rattle.std.proofs.Common.{◌≡◌, ℕ, ◌+◌, ◌-◌, ◌<◌, ◌≤◌, true, false, cond, List, [], ◌∷◌, ◌++◌, length, get_or, take, drop, Option, Some, None, refl, sym, ap, ◌∙◌, subst, inl, inr, ◌⊎◌, arith, length-drop, length-take}
use Rattle.std.specs.Prelude.{◌↔◌, IsNone, IfSome, slice_get, Contains}
use Rattle.std.proofs.lemmas.Bool.{cases_eq, cases_lt, lt-ltb, le-ltb, false≢true, true≢false}
use Rattle.std.proofs.lemmas.List.{take-append-drop, get_or_default, length_push, drop-drop, drop-append-le}
use Rattle.std.proofs.lemmas.Option.{slice_get-get_or}
use Rattle.std.specs.FinSet.{contains}
use Rattle.free_slots.specs.declared.slots.Taken.{Taken}
use Rattle.free_slots.specs.Slots.{Slots, IsTaken, made_count, ready_count, ready_slots, resting_slots, IsFull, IsFree, TellsFresh, rest_limit, last_resting, after_take, after_give, again_or, next_fresh, next_of}
use Rattle.free_slots.specs.Fields.{times, IsWhole}
use Rattle.free_slots.proofs.Marks.{contains-insert_same}
use Rattle.free_slots.proofs.Wholes.{times-append, times_of_index, times_of_contains, out_of_given, made_of_taken, out_of_unmade}

-- what the clauses of `take` say of a next slot
pub record IsLawful (s : Slots) (next : Option Taken) : Type 0 where
  pub none : IsNone next ↔ IsFull s
  pub free : IfSome next (λ taken. IsFree s taken.slot)
  pub fresh : IfSome next (TellsFresh s)

module _ (s : Slots) (whole : IsWhole s) where
  parts : (slot : ℕ) → times slot s.given_back ≡ times slot (ready_slots s) + times slot (resting_slots s)
  parts slot =
      ap (λ l. times slot l) (sym (take-append-drop (ready_count s) s.given_back)) ∙ times-append slot (ready_slots s) (resting_slots s)

  rested : length (resting_slots s) ≡ length s.given_back - ready_count s
  rested = length-drop (ready_count s) s.given_back

  -- what is nowhere at rest is not in the list of those
  apart_from : (slot : ℕ) → contains s.taken slot ≡ false → times slot (resting_slots s) ≡ 0 → IsFree s slot
  apart_from slot out none = (
    λ inside. false≢true (sym out ∙ inside),
    λ rests. let some = times_of_contains (resting_slots s) slot rests in absurd (omega (arith, none, some)),
  )

  law_again : (slot : ℕ) → 0 < ready_count s → slice_get (ready_slots s) (ready_count s - 1) ≡ Some slot → 0 < times slot (ready_slots s)
      → IsLawful s (Some (record { slot = slot; fresh = false }))
  law_again slot some last here =
      let was = out_of_given s whole slot (omega (arith, parts slot, here)) in
      record {
        none = (λ none. absurd (true≢false none), λ full. absurd (omega (arith, full, rested, some, whole.within)));
        free = apart_from slot was.0 (omega (arith, parts slot, here, was.2));
        fresh = (λ fresh. absurd (false≢true fresh), λ past. absurd (omega (arith, past, was.1)));
      }

  law_fresh : made_count s < s.count → IsLawful s (Some (record { slot = made_count s; fresh = true }))
  law_fresh left =
      let out = out_of_unmade s whole (made_count s) (omega arith) in
      record {
        none = (λ none. absurd (true≢false none), λ full. absurd (omega (arith, full, rested, left)));
        free = apart_from (made_count s) out.0 (omega (arith, parts (made_count s), out.1));
        fresh = (λ _. omega arith, λ _. refl);
      }

  law_none : ready_count s ≡ 0 → s.count ≤ made_count s → IsLawful s None
  law_none unready past = record { none = (λ _. omega (arith, rested, unready, past, whole.within), λ _. refl); free = tt; fresh = tt }

  law_unready : ready_count s ≡ 0 → IsLawful s (next_fresh s)
  law_unready unready = go (cases_lt (made_count s) s.count)
    where
      go : (made_count s < s.count) ⊎ (s.count ≤ made_count s) → IsLawful s (next_fresh s)
      go (inl left) =
          subst (λ b. IsLawful s (cond b (Some (record { slot = made_count s; fresh = true })) None)) (sym (lt-ltb _ _ left)) (law_fresh left)
      go (inr past) =
          subst (λ b. IsLawful s (cond b (Some (record { slot = made_count s; fresh = true })) None)) (sym (le-ltb _ _ past)) (law_none unready past)

  pub law_next : IsLawful s (next_of s)
  unfolding next_of
  law_next = go (cases_eq (ready_count s) 0)
    where
      go : (ready_count s ≡ 0) ⊎ (ready_count s ≡ 0 → ⊥) → IsLawful s (again_or (slice_get (ready_slots s) (ready_count s - 1)) (next_fresh s))
      go (inl unready) =
          let nothing : ready_slots s ≡ [] = ap (λ n. take n s.given_back) unready in
          subst (λ l. IsLawful s (again_or (slice_get l (ready_count s - 1)) (next_fresh s))) (sym nothing) (law_unready unready)
      go (inr some) =
          let within : ready_count s - 1 < length (ready_slots s) = omega (arith, length-take (ready_count s) s.given_back, some) in
          let slot : ℕ = get_or (ready_slots s) (ready_count s - 1) 0 in
          let last : slice_get (ready_slots s) (ready_count s - 1) ≡ Some slot = slice_get-get_or (ready_slots s) (ready_count s - 1) 0 within in
          let here : 0 < times slot (ready_slots s) =
          times_of_index (ready_slots s) (ready_count s - 1) slot within (get_or_default (ready_slots s) (ready_count s - 1) slot 0 within) in
          subst (λ o. IsLawful s (again_or o (next_fresh s))) (sym last) (law_again slot (omega (arith, some)) last here)

-- the same of an answer that is the next slot
pub law_of_next : (s : Slots) (next : Option Taken) → IsWhole s → next ≡ next_of s → IsLawful s next
law_of_next s next whole e = subst (λ o. IsLawful s o) (sym e) (law_next s whole)

-- ---- what rests

-- a slot that is taken does not rest
pub apart_at_rest : (s : Slots) (slot : ℕ) → IsWhole s → IsTaken s slot → Contains (resting_slots s) slot → ⊥
apart_at_rest s slot whole inside rests =
    let some : 0 < times slot (resting_slots s) = times_of_contains (resting_slots s) slot rests in
    let none : times slot s.given_back ≡ 0 = (made_of_taken s whole slot inside).1 in
    omega (arith, some, none, parts s whole slot)

-- those that rest of a longer list are those of the ones that rested and what was added
pub last_resting-push : (count : ℕ) (slots : List ℕ) (slot : ℕ) → last_resting count (slots ++ slot ∷ []) ≡ last_resting count (last_resting count slots ++ slot ∷ [])
last_resting-push count slots slot = go (cases_lt (rest_limit count) (length slots))
  where
    before : ℕ
    before = length slots - rest_limit count

    go : (rest_limit count < length slots) ⊎ (length slots ≤ rest_limit count) → last_resting count (slots ++ slot ∷ []) ≡ last_resting count (last_resting count slots ++ slot ∷ [])
    go (inr few) = let none : length slots - rest_limit count ≡ 0 = omega arith in ap (λ l. last_resting count (l ++ slot ∷ [])) (sym (ap (λ k. drop k slots) none))
    go (inl more) =
        let one_more : length (slots ++ slot ∷ []) - rest_limit count ≡ before + 1 = omega (arith, length_push slots slot, more) in
        let left : length (drop before slots) ≡ length slots - before = length-drop before slots in
        let one : length (drop before slots ++ slot ∷ []) - rest_limit count ≡ 1 = omega (arith, length_push (drop before slots) slot, left, more) in
        ap (λ k. drop k (slots ++ slot ∷ [])) one_more ∙ sym (drop-drop 1 before (slots ++ slot ∷ []))
        ∙ ap (λ l. drop 1 l) (drop-append-le before slots (slot ∷ []) (omega arith))
        ∙ sym (ap (λ k. drop k (drop before slots ++ slot ∷ [])) one)

pub resting-given : (s : Slots) (slot : ℕ) → resting_slots (after_give s slot) ≡ last_resting s.count (resting_slots s ++ slot ∷ [])
resting-given s slot = last_resting-push s.count s.given_back slot

-- ---- what is taken

-- the next slot is taken after its step
pub taken_of_step : (s t : Slots) (next : Option Taken) → t ≡ after_take s next → IfSome next (λ taken. IsTaken t taken.slot)
unfolding after_take
taken_of_step s t None step = tt
taken_of_step s t (Some next) step = ap (λ (u : Slots). contains u.taken next.slot) step ∙ contains-insert_same s.taken next.slot
