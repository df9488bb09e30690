-- The states of slots, where one of them changes.
use Rattle.std.proofs.Common.{◌≡◌, ◌≢◌, ℕ, ◌+◌, ◌<◌, ◌≤◌, Bool, true, false, cond, [], ◌∷◌, ◌++◌, length, get_or, set, refl, sym, ap, ◌∙◌, ◌⊎◌, inl, inr, arith, length-append, length-set}
use Rattle.std.proofs.lemmas.Bool.{cases_eq, cases_lt, ltb-true, ltb-false}
use Rattle.std.proofs.lemmas.List.{same_lists, get_or-set_same, get_or-set_other, get_or_past, get_or_push, get_or_append_left}
use Rattle.std.proofs.lemmas.List.FromFn.{length-map-range_with_len, get_or-map-range_with_len}
use Rattle.std.specs.Prelude.{nat_lt}
use Rattle.std.specs.FinSet.{contains}
use Rattle.free_slots.specs.Slots.{Slots, made_count}
use Rattle.slot_store.specs.Slots.{Contents, cells_of}
use Rattle.heap_model.specs.Heap.{Body}
use Rattle.heap_model.specs.State.{SlotState, fresh_slot}
use Rattle.object_slots.specs.SlotStates.{state_at, next_object, with_object}
use Rattle.object_slots.specs.View.{slot_in, state_in, states_in}

module _ (free : Slots) (contents : Contents) where
  pub length-states : length (states_in free contents) ≡ made_count free
  unfolding states_in
  length-states = length-map-range_with_len (slot_in free contents) 0 (made_count free)

  at : (n : ℕ) (d : SlotState) → n < made_count free → get_or (states_in free contents) n d ≡ slot_in free contents n
  unfolding states_in
  at n d below = get_or-map-range_with_len (slot_in free contents) 0 (made_count free) n n d below (omega arith)

  pub state-below : (n : ℕ) → n < made_count free → state_at (states_in free contents) n ≡ slot_in free contents n
  state-below n below = at n fresh_slot below

  pub state-past : (n : ℕ) → made_count free ≤ n → state_at (states_in free contents) n ≡ fresh_slot
  state-past n past = get_or_past (states_in free contents) n fresh_slot (omega (arith, length-states))

-- a slot that is taken as before, with the cells that it had
pub slot-kept : (free now : Slots) (contents other : Contents) (n : ℕ) → contains now.taken n ≡ contains free.taken n → cells_of other n ≡ cells_of contents n
    → slot_in now other n ≡ slot_in free contents n
slot-kept free now contents other n taken cells = λ i. state_in (taken i) (cells i)

module _ (free now : Slots) (contents other : Contents) where
  -- no slot changes
  pub states-kept : made_count now ≡ made_count free → ((n : ℕ) → n < made_count free → slot_in now other n ≡ slot_in free contents n)
      → states_in now other ≡ states_in free contents
  states-kept made each =
      same_lists (states_in now other) (states_in free contents) (length-states now other ∙ made ∙ sym (length-states free contents))
      (λ n d h.
      let below : n < made_count free = omega (arith, length-states now other) in
      at now other n d (omega arith) ∙ each n below ∙ sym (at free contents n d below))

  -- one slot changes
  pub states-set : (n : ℕ) (p : SlotState) → made_count now ≡ made_count free → n < made_count free → slot_in now other n ≡ p
      → ((m : ℕ) → m ≢ n → slot_in now other m ≡ slot_in free contents m) → states_in now other ≡ set (states_in free contents) n p
  states-set n p made inside here others =
      same_lists (states_in now other) (set (states_in free contents) n p)
      (length-states now other ∙ made ∙ sym (length-states free contents) ∙ sym (length-set (states_in free contents) n p))
      (λ m d h.
      let below : m < made_count free = omega (arith, length-states now other) in
      at now other m d (omega arith) ∙ go m d below (cases_eq m n))
    where
      go : (m : ℕ) (d : SlotState) → m < made_count free → (m ≡ n) ⊎ (m ≡ n → ⊥) → slot_in now other m ≡ get_or (set (states_in free contents) n p) m d
      go m d below (inl e) =
          ap (slot_in now other) e ∙ here
          ∙ sym (ap (λ k. get_or (set (states_in free contents) n p) k d) e ∙ get_or-set_same (states_in free contents) n p d (omega (arith, length-states free contents)))
      go m d below (inr apart) =
          others m apart ∙ sym (at free contents m d below) ∙ sym (get_or-set_other (states_in free contents) n m p d apart)

  -- one slot more
  pub states-push : (p : SlotState) → made_count now ≡ made_count free + 1 → slot_in now other (made_count free) ≡ p
      → ((m : ℕ) → m ≢ made_count free → slot_in now other m ≡ slot_in free contents m) → states_in now other ≡ states_in free contents ++ p ∷ []
  states-push p made here others =
      same_lists (states_in now other) (states_in free contents ++ p ∷ [])
      (omega (arith, length-states now other, made, length-states free contents, length-append (states_in free contents) (p ∷ [])))
      (λ m d h.
      let below : m < made_count free + 1 = omega (arith, length-states now other) in
      at now other m d (omega arith) ∙ go m d below (cases_lt m (made_count free)))
    where
      go : (m : ℕ) (d : SlotState) → m < made_count free + 1 → (m < made_count free) ⊎ (made_count free ≤ m) → slot_in now other m ≡ get_or (states_in free contents ++ p ∷ []) m d
      go m d below (inl left) =
          others m (λ e. absurd (omega arith)) ∙ sym (at free contents m d left)
          ∙ sym (get_or_append_left (states_in free contents) (p ∷ []) d m (omega (arith, length-states free contents)))
      go m d below (inr past) =
          let e : m ≡ made_count free = omega arith in
          ap (slot_in now other) e ∙ here ∙ sym (get_or_push (states_in free contents) p d m (omega (arith, length-states free contents)))

  -- an object is placed in a slot, or in the next
  pub states-object : (n : ℕ) (o : Body ℕ) → n ≤ made_count free → (n < made_count free → made_count now ≡ made_count free) → (made_count free ≤ n → made_count now ≡ made_count free + 1)
      → slot_in now other n ≡ next_object (state_at (states_in free contents) n) o → ((m : ℕ) → m ≢ n → slot_in now other m ≡ slot_in free contents m)
      → states_in now other ≡ with_object (states_in free contents) n o
  states-object n o next again more here others = go (nat_lt n (length (states_in free contents))) refl
    where
      go : (b : Bool) → nat_lt n (length (states_in free contents)) ≡ b
          → states_in now other ≡ cond b (set (states_in free contents) n (next_object (state_at (states_in free contents) n) o)) (states_in free contents ++ next_object fresh_slot o ∷ [])
      go true e =
          let below : n < made_count free = omega (arith, ltb-true _ _ e, length-states free contents) in
          states-set n (next_object (state_at (states_in free contents) n) o) (again below) below here others
      go false e =
          let past : made_count free ≤ n = omega (arith, ltb-false _ _ e, length-states free contents) in
          let last : made_count free ≡ n = omega arith in
          states-push (next_object fresh_slot o) (more past)
          (ap (slot_in now other) last ∙ here ∙ ap (λ p. next_object p o) (state-past free contents n past))
          (λ m apart. others m (λ f. absurd (apart (f ∙ sym last))))
