-- The slots that are taken are those with a live object: what a new object, a death and a change of cells leave of it.
use Rattle.std.proofs.Common.{◌≡◌, ℕ, ◌+◌, ◌-◌, ◌<◌, ◌≤◌, Bool, true, false, cond, ◌==◌, List, [], ◌∷◌, ◌++◌, length, get_or, set, Option, Some, None, is_some, refl, sym, ap, ◌∙◌, subst, ◌⊎◌, inl, inr, arith, length-append, length-set}
use Rattle.std.specs.Prelude.{nat_lt, slice_get, remove, sum_by}
use Rattle.std.specs.Ordering.{nat_cmp}
use Rattle.std.specs.FinSet.{contains, insert}
use Rattle.std.specs.FinSet as finite
use Rattle.std.proofs.lemmas.Bool.{eq-eqb, ne_eqb, cases_eq, cases_lt, ltb-true, ltb-false, false≢true}
use Rattle.std.proofs.lemmas.List.{length-take, length-drop, get_or-set_same, get_or-set_other, get_or_past, get_or_push, get_or_append_left}
use Rattle.std.proofs.lemmas.List.Edits.{length-remove}
use Rattle.std.proofs.lemmas.List.Sums.{sum_by-set, sum_by_push, get_or-le-sum_by}
use Rattle.std.proofs.lemmas.Option.{same_Some, none-some, slice_get_within, slice_get-get_or}
use Rattle.free_slots.specs.Slots.{Slots, TellsFresh, again_or, made_count, live_count, resting_slots, rest_limit, next_fresh, next_of, ready_count, ready_slots, unused, after_take, after_give}
use Rattle.free_slots.specs.declared.slots.Taken.{Taken}
use Rattle.free_slots.proofs.Marks.{contains-insert_same, contains-insert_other, contains-remove_same, contains-remove_other, len-insert_new, len-remove_member}
use Rattle.heap_model.specs.Heap.{Body}
use Rattle.heap_model.specs.State.{SlotState, fresh_slot, one_if}
use Rattle.object_slots.specs.SlotStates.{state_at, count_live, count_made, next_object, without_object, with_object}
use Rattle.object_slots.specs.View.{TakesLive}

-- ---- the slot that comes next

-- it is the next that was never taken, where none is ready
pub record IsFresh (s : Slots) (t : Taken) : Type 0 where
  pub is_fresh : t.fresh ≡ true
  pub slot_is : t.slot ≡ made_count s
  pub left : made_count s < s.count
  pub none_ready : ready_count s ≡ 0

-- or one that was given back
pub record IsAgain (s : Slots) (t : Taken) : Type 0 where
  pub not_fresh : t.fresh ≡ false
  pub made : t.slot < made_count s
  pub given : ready_count s - 1 < length s.given_back

fresh-next : (s : Slots) (t : Taken) → ready_count s ≡ 0 → Some t ≡ next_fresh s → IsFresh s t
fresh-next s t none is = go (nat_lt (made_count s) s.count) refl is
  where
    go : (b : Bool) → nat_lt (made_count s) s.count ≡ b → Some t ≡ cond {A = Option Taken} b (Some (record { slot = made_count s; fresh = true })) None → IsFresh s t
    go true e f =
        let same : t ≡ record { slot = made_count s; fresh = true } = same_Some _ _ f in
        record { is_fresh = ap (λ t. t.fresh) same; slot_is = ap (λ t. t.slot) same; left = ltb-true _ _ e; none_ready = none }
    go false e f = absurd (none-some t (sym f))

made-before : (s : Slots) (t : Taken) → TellsFresh s t → t.fresh ≡ false → t.slot < made_count s
made-before s t tells not_fresh = go (cases_lt t.slot (made_count s))
  where
    go : (t.slot < made_count s) ⊎ (made_count s ≤ t.slot) → t.slot < made_count s
    go (inl below) = below
    go (inr past) = absurd (false≢true (sym not_fresh ∙ tells.1 past))

-- the last of those that are ready is there, if any is
none-ready : (s : Slots) → slice_get (ready_slots s) (ready_count s - 1) ≡ None → ready_count s ≡ 0
none-ready s none = go (cases_lt (ready_count s - 1) (length (ready_slots s)))
  where
    go : (ready_count s - 1 < length (ready_slots s)) ⊎ (length (ready_slots s) ≤ ready_count s - 1) → ready_count s ≡ 0
    go (inl inside) = absurd (none-some _ (sym none ∙ slice_get-get_or (ready_slots s) (ready_count s - 1) 0 inside))
    go (inr past) = omega (arith, past, length-take (ready_count s) s.given_back)

pub next-cases : (s : Slots) (t : Taken) → Some t ≡ next_of s → TellsFresh s t → IsFresh s t ⊎ IsAgain s t
unfolding next_of
next-cases s t is tells = go (slice_get (ready_slots s) (ready_count s - 1)) refl is
  where
    go : (o : Option ℕ) → slice_get (ready_slots s) (ready_count s - 1) ≡ o → Some t ≡ again_or o (next_fresh s) → IsFresh s t ⊎ IsAgain s t
    go None e f = inl (fresh-next s t (none-ready s e) f)
    go (Some x) e f =
        let same : t ≡ record { slot = x; fresh = false } = same_Some _ _ f in
        let not_fresh : t.fresh ≡ false = ap (λ t. t.fresh) same in
        let within : ready_count s - 1 < length (ready_slots s) = slice_get_within (ready_slots s) (ready_count s - 1) x e in
        inr (record { not_fresh = not_fresh; made = made-before s t tells not_fresh; given = omega (arith, within, length-take (ready_count s) s.given_back) })

-- where none is ready, each slot that was taken lives or rests
pub all-at-rest : (s : Slots) → ready_count s ≡ 0 → live_count s + length (resting_slots s) ≡ made_count s
all-at-rest s none = omega (arith, none, length-drop (length s.given_back - rest_limit s.count) s.given_back)

pub few-at-rest : (s : Slots) → live_count s + length (resting_slots s) ≤ made_count s
few-at-rest s = omega (arith, length-drop (length s.given_back - rest_limit s.count) s.given_back)

-- how many slots were taken then
made-after : (s : Slots) (t : Taken) → IsFresh s t ⊎ IsAgain s t → contains s.taken t.slot ≡ false
    → (t.slot < made_count s → made_count (after_take s (Some t)) ≡ made_count s) × (made_count s ≤ t.slot → made_count (after_take s (Some t)) ≡ made_count s + 1)
unfolding after_take
made-after s t (inl f) out =
    let more = len-insert_new s.taken t.slot out in
    let same : length (cond t.fresh s.given_back (remove s.given_back (ready_count s - 1))) ≡ length s.given_back = ap (λ b. length (cond b s.given_back (remove s.given_back (ready_count s - 1)))) f.is_fresh in
    (λ below. absurd (omega (arith, below, f.slot_is)), λ past. omega (arith, more, same))
made-after s t (inr a) out =
    let more = len-insert_new s.taken t.slot out in
    let one_less : length (cond t.fresh s.given_back (remove s.given_back (ready_count s - 1))) ≡ length (remove s.given_back (ready_count s - 1)) = ap (λ b. length (cond b s.given_back (remove s.given_back (ready_count s - 1)))) a.not_fresh in
    (λ below. omega (arith, more, one_less, length-remove s.given_back (ready_count s - 1) a.given), λ past. absurd (omega (arith, past, a.made)))

pub made-given : (s : Slots) (n : ℕ) → contains s.taken n ≡ true → made_count (after_give s n) ≡ made_count s
made-given s n is = omega (arith, len-remove_member s.taken n is, length-append s.given_back (n ∷ []))

-- ---- a state by its number

pub set-at : (xs : List SlotState) (n : ℕ) (p : SlotState) → n < length xs → (m : ℕ) → get_or (set xs n p) m fresh_slot ≡ cond (m == n) p (get_or xs m fresh_slot)
set-at xs n p below m = go (cases_eq m n)
  where
    go : (m ≡ n) ⊎ (m ≡ n → ⊥) → get_or (set xs n p) m fresh_slot ≡ cond (m == n) p (get_or xs m fresh_slot)
    go (inl e) =
        ap (λ k. get_or (set xs n p) k fresh_slot) e ∙ get_or-set_same xs n p fresh_slot below ∙ ap (λ b. cond b p (get_or xs m fresh_slot)) (sym (eq-eqb m n e))
    go (inr other) = get_or-set_other xs n m p fresh_slot other ∙ ap (λ b. cond b p (get_or xs m fresh_slot)) (sym (ne_eqb m n other))

push-at : (xs : List SlotState) (p : SlotState) (m : ℕ) → get_or (xs ++ p ∷ []) m fresh_slot ≡ cond (m == length xs) p (get_or xs m fresh_slot)
push-at xs p m = go (cases_eq m (length xs))
  where
    go : (m ≡ length xs) ⊎ (m ≡ length xs → ⊥) → get_or (xs ++ p ∷ []) m fresh_slot ≡ cond (m == length xs) p (get_or xs m fresh_slot)
    go (inl e) = get_or_push xs p fresh_slot m (sym e) ∙ ap (λ b. cond b p (get_or xs m fresh_slot)) (sym (eq-eqb m (length xs) e))
    go (inr other) = two (cases_lt m (length xs)) ∙ ap (λ b. cond b p (get_or xs m fresh_slot)) (sym (ne_eqb m (length xs) other))
      where
        two : (m < length xs) ⊎ (length xs ≤ m) → get_or (xs ++ p ∷ []) m fresh_slot ≡ get_or xs m fresh_slot
        two (inl below) = get_or_append_left xs (p ∷ []) fresh_slot m below
        two (inr past) = get_or_past (xs ++ p ∷ []) m fresh_slot (omega (arith, length-append xs (p ∷ []))) ∙ sym (get_or_past xs m fresh_slot past)

object-at : (xs : List SlotState) (n : ℕ) (o : Body ℕ) → n ≤ length xs → (m : ℕ)
    → state_at (with_object xs n o) m ≡ cond (m == n) (next_object (state_at xs n) o) (state_at xs m)
object-at xs n o next m = go (nat_lt n (length xs)) refl
  where
    go : (b : Bool) → nat_lt n (length xs) ≡ b
        → state_at (cond b (set xs n (next_object (state_at xs n) o)) (xs ++ next_object fresh_slot o ∷ [])) m ≡ cond (m == n) (next_object (state_at xs n) o) (state_at xs m)
    go true e = set-at xs n (next_object (state_at xs n) o) (ltb-true _ _ e) m
    go false e =
        let last : n ≡ length xs = omega (arith, ltb-false _ _ e) in
        let past : state_at xs n ≡ fresh_slot = get_or_past xs n fresh_slot (omega arith) in
        push-at xs (next_object fresh_slot o) m ∙ (λ i. cond (m == sym last i) (next_object (sym past i) o) (state_at xs m))

-- ---- how many slots have a state, how many live, and how many objects were made

length-object : (states : List SlotState) (n : ℕ) (o : Body ℕ) → n ≤ length states
    → (n < length states → length (with_object states n o) ≡ length states) × (length states ≤ n → length (with_object states n o) ≡ length states + 1)
length-object states n o next = go (nat_lt n (length states)) refl
  where
    go : (b : Bool) → nat_lt n (length states) ≡ b
        → (n < length states → length (cond b (set states n (next_object (state_at states n) o)) (states ++ next_object fresh_slot o ∷ [])) ≡ length states)
        × (length states ≤ n → length (cond b (set states n (next_object (state_at states n) o)) (states ++ next_object fresh_slot o ∷ [])) ≡ length states + 1)
    go true e = (λ below. length-set states n (next_object (state_at states n) o), λ past. let below = ltb-true n (length states) e in absurd (omega (arith, below, past)))
    go false e = (λ below. let past = ltb-false n (length states) e in absurd (omega (arith, below, past)), λ past. length-append states (next_object fresh_slot o ∷ []))

-- a sum over the states with an object more
sum-object : (f : SlotState → ℕ) (states : List SlotState) (n : ℕ) (o : Body ℕ) → n ≤ length states → f fresh_slot ≡ 0
    → sum_by f (with_object states n o) + f (state_at states n) ≡ sum_by f states + f (next_object (state_at states n) o)
sum-object f states n o next none = go (nat_lt n (length states)) refl
  where
    go : (b : Bool) → nat_lt n (length states) ≡ b
        → sum_by f (cond b (set states n (next_object (state_at states n) o)) (states ++ next_object fresh_slot o ∷ [])) + f (state_at states n)
        ≡ sum_by f states + f (next_object (state_at states n) o)
    go true e = sum_by-set f states n (next_object (state_at states n) o) fresh_slot (ltb-true _ _ e)
    go false e =
        let past : state_at states n ≡ fresh_slot = get_or_past states n fresh_slot (ltb-false _ _ e) in
        let gone : f (state_at states n) ≡ 0 = ap f past ∙ none in
        let new : f (next_object (state_at states n) o) ≡ f (next_object fresh_slot o) = ap (λ p. f (next_object p o)) past in
        omega (arith, sum_by_push f states (next_object fresh_slot o), gone, new)

pub count_live-object : (states : List SlotState) (n : ℕ) (o : Body ℕ) → n ≤ length states → (state_at states n).body ≡ None → count_live (with_object states n o) ≡ count_live states + 1
count_live-object states n o next free =
    let none : one_if (is_some (state_at states n).body) ≡ 0 = ap (λ o. one_if (is_some o)) free in
    omega (arith, sum-object (λ p. one_if (is_some p.body)) states n o next refl, none)

pub count_made-object : (states : List SlotState) (n : ℕ) (o : Body ℕ) → n ≤ length states → count_made (with_object states n o) ≡ count_made states + 1
count_made-object states n o next = omega (arith, sum-object (λ p. p.versions) states n o next refl)

pub count_live-set : (states : List SlotState) (n : ℕ) (p : SlotState) → n < length states → count_live (set states n p) + one_if (is_some (state_at states n).body) ≡ count_live states + one_if (is_some p.body)
count_live-set states n p below = sum_by-set (λ p. one_if (is_some p.body)) states n p fresh_slot below

pub count_made-set : (states : List SlotState) (n : ℕ) (p : SlotState) → n < length states → p.versions ≡ (state_at states n).versions → count_made (set states n p) ≡ count_made states
count_made-set states n p below same = omega (arith, sum_by-set (λ (p : SlotState). p.versions) states n p fresh_slot below, same)

pub version-bound : (states : List SlotState) (n : ℕ) → n < length states → (state_at states n).versions ≤ count_made states
version-bound states n below = get_or-le-sum_by (λ (p : SlotState). p.versions) states n fresh_slot below

not-true : (b : Bool) → (b ≡ true → ⊥) → b ≡ false
not-true true apart = absurd (apart refl)
not-true false apart = refl

none-of : (o : Option (Body ℕ)) → is_some o ≡ false → o ≡ None
none-of None e = refl
none-of (Some x) e = absurd (false≢true (sym e))

-- ---- no slot was taken

pub none-taken : (states : List SlotState) (s : Slots) (count : ℕ) → states ≡ [] → s ≡ unused count → TakesLive states s
none-taken states s count no_states none =
    let first : TakesLive [] (unused count) = record {
      made = omega (arith, finite.len-empty nat_cmp);
      few = omega arith;
      live = finite.len-empty nat_cmp;
      each = λ n. finite.contains-empty nat_cmp n;
    } in
    subst (λ (states : List SlotState). TakesLive states s) (sym no_states) (subst (λ (s : Slots). TakesLive [] s) (sym none) first)

-- ---- a slot is taken

module _ (states : List SlotState) (s : Slots) (k : TakesLive states s) (t : Taken) (is : Some t ≡ next_of s) (tells : TellsFresh s t) (out : contains s.taken t.slot ≡ true → ⊥) where
  apart : contains s.taken t.slot ≡ false
  apart = not-true (contains s.taken t.slot) out

  pub taken-next : t.slot ≤ length states
  taken-next = go (next-cases s t is tells)
    where
      go : IsFresh s t ⊎ IsAgain s t → t.slot ≤ length states
      go (inl f) = omega (arith, f.slot_is, k.made)
      go (inr a) = omega (arith, a.made, k.made)

  pub taken-within : t.slot < s.count
  taken-within = go (next-cases s t is tells)
    where
      go : IsFresh s t ⊎ IsAgain s t → t.slot < s.count
      go (inl f) = omega (arith, f.slot_is, f.left)
      go (inr a) = omega (arith, a.made, k.made, k.few)

  pub taken-free : (state_at states t.slot).body ≡ None
  taken-free = none-of (state_at states t.slot).body (sym (k.each t.slot) ∙ apart)

  pub made-again : t.slot < made_count s → made_count (after_take s (Some t)) ≡ made_count s
  made-again below = (made-after s t (next-cases s t is tells) apart).0 below

  pub made-more : made_count s ≤ t.slot → made_count (after_take s (Some t)) ≡ made_count s + 1
  made-more past = (made-after s t (next-cases s t is tells) apart).1 past

  module _ (o : Body ℕ) where
    lengths : (t.slot < length states → length (with_object states t.slot o) ≡ length states) × (length states ≤ t.slot → length (with_object states t.slot o) ≡ length states + 1)
    lengths = length-object states t.slot o taken-next

    made-same : made_count (after_take s (Some t)) ≡ length (with_object states t.slot o)
    made-same = go (cases_lt t.slot (length states))
      where
        go : (t.slot < length states) ⊎ (length states ≤ t.slot) → made_count (after_take s (Some t)) ≡ length (with_object states t.slot o)
        go (inl below) = omega (arith, k.made, lengths.0 below, made-again (omega (arith, below, k.made)))
        go (inr past) = omega (arith, k.made, lengths.1 past, made-more (omega (arith, past, k.made)))

    few-still : length (with_object states t.slot o) ≤ s.count
    few-still = go (cases_lt t.slot (length states))
      where
        go : (t.slot < length states) ⊎ (length states ≤ t.slot) → length (with_object states t.slot o) ≤ s.count
        go (inl below) = omega (arith, lengths.0 below, k.few)
        go (inr past) = omega (arith, lengths.1 past, taken-next, taken-within)

    each-taken : (m : ℕ) → contains (insert s.taken t.slot) m ≡ is_some (state_at (with_object states t.slot o) m).body
    each-taken m = go (cases_eq m t.slot) ∙ ap (λ p. is_some p.body) (sym (object-at states t.slot o taken-next m))
      where
        go : (m ≡ t.slot) ⊎ (m ≡ t.slot → ⊥) → contains (insert s.taken t.slot) m ≡ is_some (cond (m == t.slot) (next_object (state_at states t.slot) o) (state_at states m)).body
        go (inl e) =
            ap (contains (insert s.taken t.slot)) e ∙ contains-insert_same s.taken t.slot
            ∙ ap (λ b. is_some (cond b (next_object (state_at states t.slot) o) (state_at states m)).body) (sym (eq-eqb m t.slot e))
        go (inr other) =
            contains-insert_other s.taken t.slot m other ∙ k.each m
            ∙ ap (λ b. is_some (cond b (next_object (state_at states t.slot) o) (state_at states m)).body) (sym (ne_eqb m t.slot other))

    pub took : TakesLive (with_object states t.slot o) (after_take s (Some t))
    unfolding after_take
    took = record {
      made = made-same;
      few = few-still;
      live = omega (arith, len-insert_new s.taken t.slot apart, k.live, count_live-object states t.slot o taken-next taken-free);
      each = each-taken;
    }

-- ---- a slot is given back

module _ (states : List SlotState) (s : Slots) (k : TakesLive states s) (n : ℕ) (below : n < length states) where
  module _ (lives : is_some (state_at states n).body ≡ true) where
    pub is-taken : contains s.taken n ≡ true
    is-taken = k.each n ∙ lives

    each-given : (m : ℕ) → contains (finite.remove s.taken n) m ≡ is_some (state_at (set states n (without_object (state_at states n))) m).body
    each-given m = go (cases_eq m n) ∙ ap (λ p. is_some p.body) (sym (set-at states n (without_object (state_at states n)) below m))
      where
        go : (m ≡ n) ⊎ (m ≡ n → ⊥) → contains (finite.remove s.taken n) m ≡ is_some (cond (m == n) (without_object (state_at states n)) (state_at states m)).body
        go (inl e) =
            ap (contains (finite.remove s.taken n)) e ∙ contains-remove_same s.taken n
            ∙ ap (λ b. is_some (cond b (without_object (state_at states n)) (state_at states m)).body) (sym (eq-eqb m n e))
        go (inr other) =
            contains-remove_other s.taken n m other ∙ k.each m
            ∙ ap (λ b. is_some (cond b (without_object (state_at states n)) (state_at states m)).body) (sym (ne_eqb m n other))

    pub gave : TakesLive (set states n (without_object (state_at states n))) (after_give s n)
    gave = record {
      made = omega (arith, made-given s n is-taken, k.made, length-set states n (without_object (state_at states n)));
      few = omega (arith, k.few, length-set states n (without_object (state_at states n)));
      live = omega (arith, len-remove_member s.taken n is-taken, k.live, count_live-set states n (without_object (state_at states n)) below, ap one_if lives);
      each = each-given;
    }

  -- ---- an object stays

  pub kept : (p : SlotState) → is_some p.body ≡ is_some (state_at states n).body → TakesLive (set states n p) s
  kept p same = record {
    made = omega (arith, k.made, length-set states n p);
    few = omega (arith, k.few, length-set states n p);
    live = omega (arith, k.live, count_live-set states n p below, ap one_if same);
    each = λ m. k.each m ∙ each m (cases_eq m n) ∙ ap (λ p. is_some p.body) (sym (set-at states n p below m));
  }
    where
      each : (m : ℕ) → (m ≡ n) ⊎ (m ≡ n → ⊥) → is_some (state_at states m).body ≡ is_some (cond (m == n) p (state_at states m)).body
      each m (inl e) = ap (λ m. is_some (state_at states m).body) e ∙ sym same ∙ ap (λ b. is_some (cond b p (state_at states m)).body) (sym (eq-eqb m n e))
      each m (inr other) = ap (λ b. is_some (cond b p (state_at states m)).body) (sym (ne_eqb m n other))
