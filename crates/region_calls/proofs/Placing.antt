-- A new object in the heap of a region.
use Rattle.std.proofs.Common.{◌≡◌, ℕ, ◌+◌, ◌-◌, ◌^◌, ◌<◌, ◌≤◌, Bool, true, false, cond, ◌||◌, ◌==◌, length, Some, None, is_some, refl, sym, ap, ◌∙◌, subst, arith}
use Rattle.std.specs.Prelude.{unwrap_or, Contains}
use Rattle.std.proofs.lemmas.Bool.{and_from, eq-eqb, lt-ltb, false≢true}
use Rattle.lowfat_regions.specs.Regions.{Slot, slot_of, slot_address, slots}
use Rattle.slot_headers.specs.Words.{address_of, version_of}
use Rattle.slot_headers.specs.Cells.{zeros}
use Rattle.heap_model.specs.Heap.{Body, Object, is_full}
use Rattle.heap_model.specs.Answers.{Name, Words, region, slot_at, new_object, next}
use Rattle.heap_model.specs.Forms.{has_version}
use Rattle.heap_model.specs.Legal.{MayPlace}
use Rattle.heap_model.specs.State.{State, StandsFor, ChangesSlot, state_of, live_objects, all_versions, one_if}
use Rattle.heap_model.specs.declared.calls.Call.TheVariants.{Alloc}
use Rattle.heap_model.specs.declared.calls.Reply.TheVariants.{Placed}
use Rattle.heap_model.proofs.Resting.{rest-count, not-resting}
use Rattle.heap_model.proofs.State.{stands-made}
use Rattle.heap_model.specs.Pieces.{HasWholePieces}
use Rattle.heap_model.proofs.Pieces.{pieces-zeros}
use Rattle.region_calls.specs.Naming.{nth_slot}
use Rattle.region_calls.specs.Serving.{IsServed}
use Rattle.region_calls.proofs.Ending.{holds-object}
use Rattle.object_slots.specs.SlotStates.{state_at, next_object, with_object}
use Rattle.region_calls.proofs.Standing.{here, changed-object}

-- whether a region is full, by its slots
pub full-same : (st : State) (h : Words) → StandsFor st h
    → is_full region h st.region ≡
    ((live_objects st + length st.resting == slots st.region) || (all_versions st == 2 ^ 24 - 1))
unfolding is_full
full-same st h k = λ i. (k.region_live i + sym (rest-count st h k) i == slots st.region) ||
    (k.region_made i == 2 ^ 24 - 1)

-- ---- an object is placed in a slot

module _ (st : State) (n : ℕ) (o : Body ℕ) (word : ℕ) (free : (state_at st.states n).body ≡ None)
    (inside : n ≤ length st.states) (is_slot : slot_of (address_of word) ≡ Some (nth_slot st n))
    (version : version_of word ≡ 1 + (state_at st.states n).versions) where
  free-there : (state_of st (nth_slot st n)).body ≡ None
  free-there = ap (λ p. p.body) (here st n) ∙ free

  version-there : version_of word ≡ 1 + (state_of st (nth_slot st n)).versions
  version-there = version ∙ ap (λ p. 1 + p.versions) (sym (here st n))

  pub may-place : address_of word ≡ slot_address (nth_slot st n) + 16 → (Contains st.resting n → ⊥) → (h : Words)
      → StandsFor st h → MayPlace h st.region word
  may-place address rested h k = record {
    slot = nth_slot st n;
    slot_is = is_slot;
    of_region = refl;
    address = address;
    no_live = k.slot_live (nth_slot st n) ∙ ap (λ o. one_if (is_some o)) free-there;
    rested = not-resting st h k (nth_slot st n) refl rested;
    version = version-there ∙ ap (λ m. 1 + m) (sym (k.slot_made (nth_slot st n)));
  }

  slot-there : slot_at (address_of word) ≡ nth_slot st n
  unfolding slot_at
  slot-there = ap (λ s. unwrap_or s (record { region = 0; number = 0 })) is_slot

  pub placed : (worker number elem size : ℕ) (fixed : Bool)
      → o ≡ record { elem = elem; fixed = fixed; cells = zeros size } → (h : Words) → StandsFor st h
      → StandsFor (record { region = st.region; states = with_object st.states n o; resting = st.resting })
      (next worker number h (Alloc elem size fixed) (Placed word))
  unfolding next
  placed worker number elem size fixed body h k =
      let made : Object Name ℕ = new_object worker number elem size fixed word in
      let now : State = record { region = st.region; states = with_object st.states n o; resting = st.resting } in
      let changed : ChangesSlot st now made.name.slot (next_object (state_of st made.name.slot) made.body)
      = subst (λ (b : Body ℕ). ChangesSlot st now made.name.slot (next_object (state_of st made.name.slot) b)) body
      (subst (λ (s : Slot). ChangesSlot st now s (next_object (state_of st s) o)) (sym slot-there)
      (changed-object st st.resting n o inside)) in
      stands-made st now h k made (ap (λ s. s.region) slot-there)
      (ap (λ s. (state_of st s).body) slot-there ∙ free-there)
      (version-there ∙ ap (λ s. 1 + (state_of st s).versions) (sym slot-there)) changed refl

-- the version of an object that was placed
pub version-after : (st : State) (n : ℕ) (o : Body ℕ) → n ≤ length st.states
    → (state_at (with_object st.states n o) n).versions ≡ 1 + (state_at st.states n).versions
version-after st n o next =
    let now : State = record { region = st.region; states = with_object st.states n o; resting = st.resting } in
    let slot = nth_slot st n in
    sym (ap (λ p. p.versions) (here now n)) ∙ ap (λ p. p.versions) ((changed-object st st.resting n o next).state slot)
    ∙ ap (λ b. (cond b (next_object (state_of st slot) o) (state_of st slot)).versions)
    (and_from _ _ (eq-eqb st.region st.region refl) (eq-eqb n n refl))
    ∙ ap (λ p. 1 + p.versions) (here st n)

-- where a region is not full, a slot has no live object and does not rest
pub not-full : (live limit : ℕ) (more : Bool) → ((live == limit) || more) ≡ false → live ≡ limit → ⊥
not-full live limit more e same = let t : ((live == limit) || more) ≡ true =
    ap (λ b. b || more) (eq-eqb live limit same) in absurd (false≢true (sym e ∙ t))

-- a word with a version is not null
pub has-version : (word : ℕ) → 0 < version_of word → has_version word ≡ true
unfolding version_of
has-version word above = lt-ltb _ _ above

-- the slots with an object of zero bytes in a slot
abbrev pub placed_in : State → ℕ → ℕ → Bool → ℕ → State
placed_in st n elem fixed size = record {
  region = st.region;
  states = with_object st.states n (record { elem = elem; fixed = fixed; cells = zeros size });
  resting = st.resting;
}

pub served-placed : (st : State) (n elem size : ℕ) (fixed : Bool) (word : ℕ) → (state_at st.states n).body ≡ None
    → n ≤ length st.states
    → slot_of (address_of word) ≡ Some (nth_slot st n) → version_of word ≡ 1 + (state_at st.states n).versions
    → (now : State) → now ≡ placed_in st n elem fixed size → IsServed st now (Alloc elem size fixed) (Placed word)
served-placed st n elem size fixed word free inside is_slot version now e =
    let o : Body ℕ = record { elem = elem; fixed = fixed; cells = zeros size } in
    subst (λ (s : State). IsServed st s (Alloc elem size fixed) (Placed word)) (sym e) (record {
      next = λ worker number h stands. placed st n o word free inside is_slot version worker number elem size fixed
          refl h stands;
      suits = λ pieces. has-version word (omega (arith, version));
      elements = λ layouts types known. holds-object (λ o. layouts.has o.elem ≡ true) st.states n o inside types known;
      pieces = λ pieces. holds-object (λ o. HasWholePieces o.cells) st.states n o inside (pieces-zeros size) pieces;
      region = refl;
    })
