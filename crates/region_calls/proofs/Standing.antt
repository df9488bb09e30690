-- What a word names by the states of the slots, and one state that changes.
use Rattle.std.proofs.Common.{◌≡◌, ℕ, ◌-◌, ◌/◌, ◌^◌, ◌<◌, ◌≤◌, Bool, true, false, cond, ◌&&◌, ◌==◌, List, [], ◌∷◌, ◌++◌, length, get_or, set, Option, Some, None, is_some, refl, sym, ap, ◌∙◌, subst, ◌⊎◌, inl, inr, arith, length-append}
use Rattle.std.specs.Prelude.{nat_lt, nat_le, option_map, unwrap_or}
use Rattle.std.proofs.lemmas.List.{get_or_past, get_or_push, get_or_append_left}
use Rattle.std.proofs.lemmas.List.Sums.{sum_by-set, sum_by_push}
use Rattle.std.proofs.lemmas.Bool.{eq-eqb, ne_eqb, cases_eq, cases_lt, ltb-true, ltb-false}
use Rattle.std.proofs.lemmas.Bool.Decides.{nat_tests}
use Rattle.lowfat_regions.specs.Regions.{Slot, is_slot, slot_of, slot_number, slot_in as slot_within, first_multiple, size_of, slots, region_of}
use Rattle.slot_headers.specs.Words.{address_of, version_of}
use Rattle.heap_model.specs.Objects.{offset_in}
use Rattle.heap_model.specs.Answers.{offset, slot_at}
use Rattle.heap_model.specs.Heap.{Body}
use Rattle.heap_model.specs.State.{State, SlotState, fresh_slot, state_of, live_at, dead_at, at_slot, live_by, dead_by, ChangesSlot, one_if}
use Rattle.object_slots.proofs.Taking.{set-at}
use Rattle.object_slots.specs.declared.facts.Facts.{Facts}
use Rattle.region_calls.specs.Naming.{IsInSlot, NamesNone, NamesLive, nth_slot}
use Rattle.object_slots.specs.SlotStates.{state_at, next_object, with_object}

-- ---- names

pub here : (st : State) (n : ℕ) → state_of st (nth_slot st n) ≡ state_at st.states n
here st n = ap (λ b. cond b (state_at st.states n) fresh_slot) (eq-eqb st.region st.region refl)

module _ (st : State) (anchor n : ℕ) (at : IsInSlot st anchor n) (word : ℕ) where
  pub live-here : live_by st anchor word ≡ live_at (state_at st.states n) (version_of word)
  live-here = ap (at_slot (λ t. live_at (state_of st t) (version_of word)) None) at.slot
      ∙ ap (λ p. live_at p (version_of word)) (here st n)

  pub dead-here : dead_by st anchor word ≡ dead_at (state_at st.states n) (version_of word)
  dead-here = ap (at_slot (λ t. dead_at (state_of st t) (version_of word)) false) at.slot
      ∙ ap (λ p. dead_at p (version_of word)) (here st n)

pub live-named : (st : State) (anchor word n : ℕ) (facts : Facts) (named : NamesLive st anchor word n facts)
    → live_by st anchor word ≡ Some named.object
live-named st anchor word n facts named =
    live-here st anchor n named.at word
    ∙ ap (λ b. cond b (state_at st.states n).body None) (eq-eqb _ _ named.version) ∙ named.body

-- where no place is
live-nowhere : (v : ℕ) → live_at fresh_slot v ≡ None
live-nowhere v = go (v == 0)
  where
    go : (b : Bool) → ◌≡◌ {A = Option (Body ℕ)} (cond b None None) None
    go true = refl
    go false = refl

dead-nowhere : (v : ℕ) → dead_at fresh_slot v ≡ false
dead-nowhere v = grind (arith, nat_tests)

pub names-none : (st : State) (anchor : ℕ) → at_slot (state_of st) fresh_slot (slot_of anchor) ≡ fresh_slot
    → (word : ℕ) → NamesNone st anchor word
names-none st anchor nowhere word =
    record { live = (go (slot_of anchor) nowhere).0; dead = (go (slot_of anchor) nowhere).1 }
  where
    go : (o : Option Slot) → at_slot (state_of st) fresh_slot o ≡ fresh_slot
        → (at_slot (λ t. live_at (state_of st t) (version_of word)) None o ≡ None) ×
        (at_slot (λ t. dead_at (state_of st t) (version_of word)) false o ≡ false)
    go None e = (refl, refl)
    go (Some t) e = (
      ap (λ p. live_at p (version_of word)) e ∙ live-nowhere (version_of word),
      ap
          (λ p. dead_at p (version_of word)) e ∙ dead-nowhere (version_of word),
    )

-- an address in a slot of the region that was taken
slot-found : (anchor n r : ℕ) → region_of anchor ≡ Some r → Some n ≡ slot_number anchor
    → slot_of anchor ≡ Some (record { region = r; number = n })
unfolding slot_of slot_within
slot-found anchor n r in_region number = go (region_of anchor) in_region number
  where
    go : (o : Option ℕ) → o ≡ Some r → Some n ≡ option_map {T = Slot} (λ s. s.number) (slot_within o anchor)
        → slot_within o anchor ≡ Some (record { region = r; number = n })
    go None e f = cc
    go (Some q) e f = two
        (nat_le (first_multiple q) (anchor / size_of q) && nat_lt (anchor / size_of q - first_multiple q) (slots q)) f
      where
        two : (b : Bool) → Some n ≡ option_map {T = Slot} (λ s. s.number)
            (cond {A = Option Slot} b (Some (record { region = q; number = anchor / size_of q - first_multiple q }))
            None)
            → cond {A = Option Slot} b (Some (record { region = q; number = anchor / size_of q - first_multiple q }))
            None ≡ Some (record { region = r; number = n })
        two true f = cc
        two false f = cc

pub in-slot : (st : State) (anchor n : ℕ) → region_of anchor ≡ Some st.region → Some n ≡ slot_number anchor
    → n < length st.states → IsInSlot st anchor n
in-slot st anchor n in_region number taken =
    record { taken = taken; slot = slot-found anchor n st.region in_region number }

-- an address of another region, and one in a slot that was not taken
pub elsewhere : (st : State) (anchor n r : ℕ) → region_of anchor ≡ Some r → Some n ≡ slot_number anchor
    → (r ≡ st.region → ⊥) → (word : ℕ) → NamesNone st anchor word
elsewhere st anchor n r in_region number other =
    names-none st anchor
    (ap (at_slot (state_of st) fresh_slot) (slot-found anchor n r in_region number) ∙ ap
    (λ b. cond b (get_or st.states n fresh_slot) fresh_slot) (ne_eqb r st.region other))

pub untaken : (st : State) (anchor n : ℕ) → region_of anchor ≡ Some st.region → Some n ≡ slot_number anchor
    → length st.states ≤ n → (word : ℕ) → NamesNone st anchor word
untaken st anchor n in_region number past =
    names-none st anchor
    (ap (at_slot (state_of st) fresh_slot) (slot-found anchor n st.region in_region number) ∙ here st n
    ∙ get_or_past st.states n fresh_slot past)

pub no-slot : (st : State) (anchor : ℕ) → None ≡ slot_number anchor → (word : ℕ) → NamesNone st anchor word
no-slot st anchor none = names-none st anchor (go (slot_of anchor) none)
  where
    go : (o : Option Slot) → None ≡ option_map {T = Slot} (λ s. s.number) o
        → at_slot (state_of st) fresh_slot o ≡ fresh_slot
    go None e = refl
    go (Some s) e = cc

pub no-region : (st : State) (anchor : ℕ) → region_of anchor ≡ None → (word : ℕ) → NamesNone st anchor word
unfolding slot_of slot_within
no-region st anchor none = names-none st anchor (ap (λ o. at_slot (state_of st) fresh_slot (slot_within o anchor)) none)

-- how far a word is past the first byte there
pub offset-here : (st : State) (anchor n : ℕ) → IsInSlot st anchor n → (word : ℕ)
    → offset anchor word ≡ offset_in (nth_slot st n) (address_of word)
unfolding offset slot_at
offset-here st anchor n at word = ap
    (λ s. offset_in (unwrap_or s (record { region = 0; number = 0 })) (address_of word)) at.slot

pub offset-bound : (s : Slot) (address : ℕ) → offset_in s address < 2 ^ 40
unfolding offset_in
offset-bound s address = omega arith

pub address-bound : (word : ℕ) → address_of word < 2 ^ 40
unfolding address_of
address-bound word = omega arith

-- a region has few slots
pub few-slots : (r : ℕ) → slots r ≤ 65536
unfolding slots
few-slots r = omega arith

-- ---- a change

-- one that is added
pub push-at : (xs : List SlotState) (p : SlotState) (m : ℕ)
    → get_or (xs ++ p ∷ []) m fresh_slot ≡ cond (m == length xs) p (get_or xs m fresh_slot)
push-at xs p m = go (cases_eq m (length xs))
  where
    go : (m ≡ length xs) ⊎ (m ≡ length xs → ⊥)
        → get_or (xs ++ p ∷ []) m fresh_slot ≡ cond (m == length xs) p (get_or xs m fresh_slot)
    go (inl e) = get_or_push xs p fresh_slot m (sym e)
        ∙ ap (λ b. cond b p (get_or xs m fresh_slot)) (sym (eq-eqb m (length xs) e))
    go (inr other) = two (cases_lt m (length xs))
        ∙ ap (λ b. cond b p (get_or xs m fresh_slot)) (sym (ne_eqb m (length xs) other))
      where
        two : (m < length xs) ⊎ (length xs ≤ m) → get_or (xs ++ p ∷ []) m fresh_slot ≡ get_or xs m fresh_slot
        two (inl below) = get_or_append_left xs (p ∷ []) fresh_slot m below
        two (inr past) = get_or_past (xs ++ p ∷ []) m fresh_slot (omega (arith, length-append xs (p ∷ [])))
            ∙ sym (get_or_past xs m fresh_slot past)

-- a choice between states, for a slot of another region too
chosen : (st : State) (resting : List ℕ) (states : List SlotState) (n : ℕ) (p : SlotState)
    → ((m : ℕ) → get_or states m fresh_slot ≡ cond (m == n) p (get_or st.states m fresh_slot))
    → (t : Slot) → state_of (record { region = st.region; states = states; resting = resting }) t ≡ cond
    (is_slot t (nth_slot st n)) p (state_of st t)
chosen st resting states n p at t = go (t.region == st.region)
  where
    go : (b : Bool) → cond b (get_or states t.number fresh_slot) fresh_slot ≡ cond (b && (t.number == n)) p
        (cond b (get_or st.states t.number fresh_slot) fresh_slot)
    go true = at t.number
    go false = refl

pub changed-set : (st : State) (resting : List ℕ) (n : ℕ) (p : SlotState) → n < length st.states
    → ChangesSlot st (record { region = st.region; states = set st.states n p; resting = resting }) (nth_slot st n) p
changed-set st resting n p below = record {
  region_is = refl;
  state = chosen st resting (set st.states n p) n p (set-at st.states n p below);
  live = omega (
    arith,
    sum_by-set (λ p. one_if (is_some p.body)) st.states n p fresh_slot below,
    ap
        (λ p. one_if (is_some p.body)) (here st n),
  );
  made = omega (arith, sum_by-set (λ p. p.versions) st.states n p fresh_slot below, ap (λ p. p.versions) (here st n));
}

pub changed-push : (st : State) (resting : List ℕ) (p : SlotState)
    → ChangesSlot st (record { region = st.region; states = st.states ++ p ∷ []; resting = resting })
    (nth_slot st (length st.states)) p
changed-push st resting p =
    let past : state_of st (nth_slot st (length st.states)) ≡ fresh_slot = here st (length st.states)
    ∙ get_or_past st.states (length st.states) fresh_slot (omega arith) in
    record {
      region_is = refl;
      state = chosen st resting (st.states ++ p ∷ []) (length st.states) p (push-at st.states p);
      live = omega (
        arith,
        sum_by_push (λ p. one_if (is_some p.body)) st.states p,
        ap
            (λ p. one_if (is_some p.body)) past,
      );
      made = omega (arith, sum_by_push (λ p. p.versions) st.states p, ap (λ p. p.versions) past);
    }

pub object-at : (xs : List SlotState) (n : ℕ) (o : Body ℕ) → n ≤ length xs → (m : ℕ)
    → state_at (with_object xs n o) m ≡ cond (m == n) (next_object (state_at xs n) o) (state_at xs m)
object-at xs n o next m = go (nat_lt n (length xs)) refl
  where
    go : (b : Bool) → nat_lt n (length xs) ≡ b
        → state_at (cond b (set xs n (next_object (state_at xs n) o)) (xs ++ next_object fresh_slot o ∷ [])) m ≡ cond
        (m == n) (next_object (state_at xs n) o) (state_at xs m)
    go true e = set-at xs n (next_object (state_at xs n) o) (ltb-true _ _ e) m
    go false e =
        let last : n ≡ length xs = omega (arith, ltb-false _ _ e) in
        let past : state_at xs n ≡ fresh_slot = get_or_past xs n fresh_slot (omega arith) in
        push-at xs (next_object fresh_slot o) m ∙
        (λ i. cond (m == sym last i) (next_object (sym past i) o) (state_at xs m))

-- an object is placed in a slot
pub changed-object : (st : State) (resting : List ℕ) (n : ℕ) (o : Body ℕ) → n ≤ length st.states
    → ChangesSlot st (record { region = st.region; states = with_object st.states n o; resting = resting })
    (nth_slot st n) (next_object (state_of st (nth_slot st n)) o)
changed-object st resting n o next = go (nat_lt n (length st.states)) refl
  where
    go : (b : Bool) → nat_lt n (length st.states) ≡ b
        → ChangesSlot st (record {
          region = st.region;
          states = cond b
              (set st.states n (next_object (state_at st.states n) o))
              (st.states ++ next_object fresh_slot o ∷ []);
          resting =
              resting;
        }) (nth_slot st n) (next_object (state_of st (nth_slot st n)) o)
    go true e = subst (λ p. ChangesSlot st
        (record {
          region = st.region;
          states = set st.states n (next_object (state_at st.states n) o);
          resting =
              resting;
        }) (nth_slot st n) (next_object p o)) (sym (here st n))
        (changed-set st resting n (next_object (state_at st.states n) o) (ltb-true _ _ e))
    go false e =
        let last : n ≡ length st.states = omega (arith, ltb-false _ _ e) in
        let past : state_of st (nth_slot st n) ≡ fresh_slot = here st n
        ∙ get_or_past st.states n fresh_slot (omega arith) in
        subst (λ p. ChangesSlot st
        (record { region = st.region; states = st.states ++ next_object fresh_slot o ∷ []; resting = resting })
        (nth_slot st n) (next_object p o)) (sym past)
        (subst (λ k. ChangesSlot st
        (record { region = st.region; states = st.states ++ next_object fresh_slot o ∷ []; resting = resting })
        (nth_slot st k) (next_object fresh_slot o)) (sym last) (changed-push st resting (next_object fresh_slot o)))
