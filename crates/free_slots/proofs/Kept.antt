-- What the fields keep, step by step.
use Rattle.std.proofs.Common.{◌≡◌, ℕ, ◌+◌, ◌-◌, ◌^◌, ◌<◌, ◌≤◌, true, false, cond, List, [], ◌∷◌, ◌++◌, length, set, Some, None, refl, sym, ap, subst, ◌∙◌, inl, inr, ◌⊎◌, arith, length-append, length-set}
use Rattle.std.specs.Prelude.{nat_lt, remove, slice_get, vec_capacity}
use Rattle.std.specs.VecDeque.{deque_capacity}
use Rattle.std.proofs.lemmas.Bool.{le-ltb, lt-ltb, cases_eq}
use Rattle.std.proofs.lemmas.List.{take_at, drop_at, length_push}
use Rattle.std.specs.Ordering.{nat_cmp}
use Rattle.std.specs.FinSet as finite
use Rattle.free_slots.specs.declared.slots.FreeSlots.TheInside.{Inside}
use Rattle.free_slots.specs.Slots.{Slots, made_count, rest_limit, ready_count, ready_slots, resting_slots, again_or, next_fresh, next_of, after_take, after_give}
use Rattle.free_slots.specs.Fields.{marked, slots_of, one_if, times, IsWhole, IsKept}
use Rattle.free_slots.proofs.Marks.{some_of_contains, marked-set_true, marked-set_false, marked-push}
use Rattle.free_slots.proofs.Steps.{IsLawful, law_of_next}
use Rattle.free_slots.proofs.Wholes.{times-append, times_same, out_of_given, made_of_taken, made-again, whole-again, made-fresh, whole-fresh, made-given, whole-given}

-- ---- lists

slice_get-last : (before : List ℕ) (slot : ℕ) → slice_get (before ++ slot ∷ []) (length before) ≡ Some slot
slice_get-last [] slot = refl
slice_get-last (x ∷ before) slot = slice_get-last before slot

remove-at : (before : List ℕ) (slot : ℕ) (after : List ℕ) → remove ((before ++ slot ∷ []) ++ after) (length before) ≡ before ++ after
remove-at [] slot after = refl
remove-at (x ∷ before) slot after = ap (λ l. x ∷ l) (remove-at before slot after)

-- ---- nothing was taken yet

pub kept_unused : (a : Inside) → a.slots < 2 ^ 32 → a.taken.items ≡ [] → a.ready.items ≡ [] → a.resting.items ≡ [] → IsKept a
kept_unused a fits marks ready resting =
    let none : marked a.taken.items ≡ finite.empty = ap marked marks in
    let given : a.ready.items ++ a.resting.items ≡ [] = λ i. ready i ++ resting i in
    let live : finite.len (marked a.taken.items) ≡ 0 = ap finite.len none ∙ finite.len-empty nat_cmp in
    let few : length (a.ready.items ++ a.resting.items) ≡ 0 = ap length given in
    let made : made_count (slots_of a) ≡ 0 = omega (arith, live, few) in
    let no_marks : length a.taken.items ≡ 0 = ap length marks in
    let no_ready : length a.ready.items ≡ 0 = ap length ready in
    let no_resting : length a.resting.items ≡ 0 = ap length resting in
    record {
      whole = record {
        within = omega (arith, made);
        once = λ slot.
            (λ i. one_if (finite.contains (none i) slot) + times slot (given i))
            ∙ (let out : one_if (finite.contains (finite.empty {R = nat_cmp}) slot) ≡ 0 = ap one_if (finite.contains-empty nat_cmp slot) in
            let unmade : one_if (nat_lt slot (made_count (slots_of a))) ≡ 0 = ap one_if (le-ltb slot (made_count (slots_of a)) (omega (arith, made))) in
            omega (arith, out, unmade));
      };
      fits = fits;
      marks = omega (arith, made, no_marks);
      few = omega (arith, no_resting);
      full = λ some. absurd (omega (arith, some, no_ready));
      room = omega (arith, no_marks);
      resting_room = λ some. absurd (omega (arith, some, no_marks));
    }

module _ (a : Inside) (kept : IsKept a) where
  -- ---- what is ready and what rests

  ready_count-is : ready_count (slots_of a) ≡ length a.ready.items
  ready_count-is = counted ∙ go (cases_eq (length a.ready.items) 0)
    where
      counted : ready_count (slots_of a) ≡ length (a.ready.items ++ a.resting.items) - rest_limit a.slots
      counted = refl

      go : (length a.ready.items ≡ 0) ⊎ (length a.ready.items ≡ 0 → ⊥)
          → length (a.ready.items ++ a.resting.items) - rest_limit a.slots ≡ length a.ready.items
      go (inl none) = omega (arith, length-append a.ready.items a.resting.items, kept.few, none)
      go (inr some) = omega (arith, length-append a.ready.items a.resting.items, kept.full (omega (arith, some)))

  pub ready-is : ready_slots (slots_of a) ≡ a.ready.items
  ready-is = take_at a.ready.items a.resting.items (ready_count (slots_of a)) (sym ready_count-is)

  pub resting-is : resting_slots (slots_of a) ≡ a.resting.items
  resting-is = drop_at a.ready.items a.resting.items (ready_count (slots_of a)) (sym ready_count-is)

-- what rests does so where the fields do not change it
pub resting-kept : (a b : Inside) → IsKept a → IsKept b → b.resting.items ≡ a.resting.items → resting_slots (slots_of b) ≡ resting_slots (slots_of a)
resting-kept a b kept kept_b same = resting-is b kept_b ∙ same ∙ sym (resting-is a kept)

module _ (a : Inside) (kept : IsKept a) where
  -- ---- a slot that is ready is taken

  module _ (before : List ℕ) (slot : ℕ) (last : a.ready.items ≡ before ++ slot ∷ []) where
    at_last : ready_count (slots_of a) - 1 ≡ length before
    at_last = let longer : length a.ready.items ≡ length before + 1 = ap length last ∙ length_push before slot in omega (arith, ready_count-is a kept, longer)

    pub next-again : Some (record { slot = slot; fresh = false }) ≡ next_of (slots_of a)
    unfolding next_of
    next-again =
        ap (λ o. again_or o (next_fresh (slots_of a)))
        (sym ((λ i. slice_get ((ready-is a kept ∙ last) i) (at_last i)) ∙ slice_get-last before slot))

    -- what the clauses of `take` say of it
    pub lawful-again : (now : Slots) → slots_of a ≡ now → IsLawful now (Some (record { slot = slot; fresh = false }))
    lawful-again now is = law_of_next now _ (subst IsWhole is kept.whole) (next-again ∙ ap next_of is)

    pub within-again : slot < length a.taken.items
    within-again =
        let given : times slot (a.ready.items ++ a.resting.items) ≡ times slot before + times slot (slot ∷ []) + times slot a.resting.items =
        ap (λ l. times slot (l ++ a.resting.items)) last ∙ times-append slot (before ++ slot ∷ []) a.resting.items
        ∙ ap (λ n. n + times slot a.resting.items) (times-append slot before (slot ∷ [])) in
        let made = (out_of_given (slots_of a) kept.whole slot (omega (arith, given, times_same slot))).1 in
        omega (arith, made, kept.marks)

    module _ (b : Inside) (all : b.slots ≡ a.slots) (marks : b.taken.items ≡ set a.taken.items slot true) (ready : b.ready.items ≡ before)
        (resting : b.resting.items ≡ a.resting.items) where
      taken_again : marked b.taken.items ≡ finite.insert (marked a.taken.items) slot
      taken_again = ap marked marks ∙ marked-set_true a.taken.items slot within-again

      given_again : b.ready.items ++ b.resting.items ≡ before ++ a.resting.items
      given_again = λ i. ready i ++ resting i

      pub step-again : slots_of b ≡ after_take (slots_of a) (Some (record { slot = slot; fresh = false }))
      unfolding after_take
      step-again =
          let rest : before ++ a.resting.items ≡ remove (a.ready.items ++ a.resting.items) (ready_count (slots_of a) - 1) =
          sym ((λ i. remove (last i ++ a.resting.items) (at_last i)) ∙ remove-at before slot a.resting.items) in
          λ i. record { count = all i; taken = taken_again i; given_back = (given_again ∙ rest) i }

      pub kept-again : vec_capacity b.ready ≡ vec_capacity a.ready → deque_capacity b.resting ≡ deque_capacity a.resting → IsKept b
      kept-again room resting_room =
          let given = ap (λ l. l ++ a.resting.items) last in
          let made : made_count (slots_of b) ≡ made_count (slots_of a) =
          made-again (slots_of a) (slots_of b) slot before a.resting.items kept.whole all taken_again given given_again in
          let same_marks : length b.taken.items ≡ length a.taken.items = ap length marks ∙ length-set a.taken.items slot true in
          let limit : rest_limit b.slots ≡ rest_limit a.slots = ap rest_limit all in
          let same_resting : length b.resting.items ≡ length a.resting.items = ap length resting in
          let longer : length a.ready.items ≡ length before + 1 = ap length last ∙ length_push before slot in
          record {
            whole = whole-again (slots_of a) (slots_of b) slot before a.resting.items kept.whole all taken_again given given_again;
            fits = omega (arith, all, kept.fits);
            marks = omega (arith, same_marks, made, kept.marks);
            few = omega (arith, same_resting, limit, kept.few);
            full = λ some. omega (arith, same_resting, limit, longer, kept.full);
            room = omega (arith, same_marks, room, kept.room);
            resting_room = λ some. omega (arith, limit, resting_room, kept.resting_room (omega (arith, some, same_marks)));
          }

  -- ---- a slot is taken for the first time

  pub next-unready : a.ready.items ≡ [] → next_fresh (slots_of a) ≡ next_of (slots_of a)
  unfolding next_of
  next-unready none =
      ap (λ o. again_or o (next_fresh (slots_of a))) (sym (ap (λ l. slice_get l (ready_count (slots_of a) - 1)) (ready-is a kept ∙ none)))

  pub next-full : a.ready.items ≡ [] → length a.taken.items ≡ a.slots → None ≡ next_of (slots_of a)
  next-full none all =
      let past : nat_lt (made_count (slots_of a)) a.slots ≡ false = le-ltb _ _ (omega (arith, kept.marks, all)) in
      sym (ap (λ b. cond b (Some (record { slot = made_count (slots_of a); fresh = true })) None) past) ∙ next-unready none

  module _ (left : length a.taken.items < a.slots) where
    left_made : made_count (slots_of a) < a.slots
    left_made = omega (arith, left, kept.marks)

    pub next-made : (slot : ℕ) → slot ≡ length a.taken.items → a.ready.items ≡ [] → Some (record { slot = slot; fresh = true }) ≡ next_of (slots_of a)
    next-made slot is none =
        (λ i. Some (record { slot = (is ∙ kept.marks) i; fresh = true }))
        ∙ sym (ap (λ b. cond b (Some (record { slot = made_count (slots_of a); fresh = true })) None) (lt-ltb _ _ left_made)) ∙ next-unready none

    module _ (b : Inside) (all : b.slots ≡ a.slots) (marks : b.taken.items ≡ a.taken.items ++ true ∷ []) (ready : b.ready.items ≡ a.ready.items)
        (resting : b.resting.items ≡ a.resting.items) where
      taken_fresh : marked b.taken.items ≡ finite.insert (marked a.taken.items) (made_count (slots_of a))
      taken_fresh = ap marked marks ∙ marked-push a.taken.items ∙ ap (finite.insert (marked a.taken.items)) kept.marks

      given_fresh : b.ready.items ++ b.resting.items ≡ a.ready.items ++ a.resting.items
      given_fresh = λ i. ready i ++ resting i

      pub step-fresh : (slot : ℕ) → slot ≡ length a.taken.items → slots_of b ≡ after_take (slots_of a) (Some (record { slot = slot; fresh = true }))
      unfolding after_take
      step-fresh slot is =
          λ i. record {
            count = all i;
            taken = (taken_fresh ∙ ap (finite.insert (marked a.taken.items)) (sym (is ∙ kept.marks))) i;
            given_back = given_fresh i;
          }

      pub kept-fresh : length a.taken.items + 1 ≤ vec_capacity b.ready → rest_limit a.slots + 1 ≤ deque_capacity b.resting → IsKept b
      kept-fresh room resting_room =
          let made : made_count (slots_of b) ≡ made_count (slots_of a) + 1 =
          made-fresh (slots_of a) (slots_of b) kept.whole left_made all taken_fresh given_fresh in
          let more_marks : length b.taken.items ≡ length a.taken.items + 1 = ap length marks ∙ length_push a.taken.items true in
          let limit : rest_limit b.slots ≡ rest_limit a.slots = ap rest_limit all in
          let same_resting : length b.resting.items ≡ length a.resting.items = ap length resting in
          let same_ready : length b.ready.items ≡ length a.ready.items = ap length ready in
          record {
            whole = whole-fresh (slots_of a) (slots_of b) kept.whole left_made all taken_fresh given_fresh;
            fits = omega (arith, all, kept.fits);
            marks = omega (arith, more_marks, made, kept.marks);
            few = omega (arith, same_resting, limit, kept.few);
            full = λ some. omega (arith, some, same_ready, same_resting, limit, kept.full);
            room = omega (arith, more_marks, room);
            resting_room = λ some. omega (arith, limit, resting_room);
          }

  -- ---- a slot is given back

  module _ (slot : ℕ) (member : finite.contains (marked a.taken.items) slot ≡ true) where
    pub within-given : slot < length a.taken.items
    within-given = let made = (made_of_taken (slots_of a) kept.whole slot member).0 in omega (arith, made, kept.marks)

    -- there is room for its return
    pub room-given : length a.ready.items < vec_capacity a.ready
    room-given = omega (arith, kept.room, kept.marks, length-append a.ready.items a.resting.items, some_live)
      where
        some_live : 0 < finite.len (marked a.taken.items)
        some_live = some_of_contains (marked a.taken.items) slot member

    module _ (b : Inside) (all : b.slots ≡ a.slots) (marks : b.taken.items ≡ set a.taken.items slot false)
        (order : b.ready.items ++ b.resting.items ≡ (a.ready.items ++ a.resting.items) ++ slot ∷ []) where
      taken_given : marked b.taken.items ≡ finite.remove (marked a.taken.items) slot
      taken_given = ap marked marks ∙ marked-set_false a.taken.items slot within-given

      pub step-given : slots_of b ≡ after_give (slots_of a) slot
      step-given = λ i. record { count = all i; taken = taken_given i; given_back = order i }

      pub kept-given : length b.resting.items ≤ rest_limit a.slots
          → (length a.ready.items < length b.ready.items → length b.resting.items ≡ rest_limit a.slots)
          → (length a.resting.items ≡ rest_limit a.slots → length b.resting.items ≡ rest_limit a.slots)
          → vec_capacity b.ready ≡ vec_capacity a.ready → deque_capacity b.resting ≡ deque_capacity a.resting → IsKept b
      kept-given few full still_full room resting_room =
          let made : made_count (slots_of b) ≡ made_count (slots_of a) =
          made-given (slots_of a) (slots_of b) slot kept.whole member all taken_given order in
          let same_marks : length b.taken.items ≡ length a.taken.items = ap length marks ∙ length-set a.taken.items slot false in
          let limit : rest_limit b.slots ≡ rest_limit a.slots = ap rest_limit all in
          record {
            whole = whole-given (slots_of a) (slots_of b) slot kept.whole member all taken_given order;
            fits = omega (arith, all, kept.fits);
            marks = omega (arith, same_marks, made, kept.marks);
            few = omega (arith, limit, few);
            full = λ some. full_then some limit;
            room = omega (arith, same_marks, room, kept.room);
            resting_room = λ some. omega (arith, limit, resting_room, kept.resting_room (omega (arith, some, same_marks)));
          }
        where
          full_then : 0 < length b.ready.items → rest_limit b.slots ≡ rest_limit a.slots → length b.resting.items ≡ rest_limit b.slots
          full_then some limit = go (cases_eq (length a.ready.items) 0)
            where
              go : (length a.ready.items ≡ 0) ⊎ (length a.ready.items ≡ 0 → ⊥) → length b.resting.items ≡ rest_limit b.slots
              go (inl none) = full (omega (arith, none, some)) ∙ sym limit
              go (inr more) = still_full (kept.full (omega (arith, more))) ∙ sym limit
