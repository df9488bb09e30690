-- What is kept of the slots, and what they show.
use Rattle.std.proofs.Common.{◌≡◌, ◌≢◌, ℕ, ◌+◌, ◌<◌, ◌≤◌, Bool, true, List, [], length, drop, set, Some, is_some, refl, sym, ap, ◌∙◌, subst, ◌⊎◌, inl, inr, arith, length-set}
use Rattle.std.proofs.lemmas.Bool.{cases_eq, cases_lt, false≢true}
use Rattle.std.proofs.lemmas.List.{get_or-set_other, length-take}
use Rattle.std.proofs.lemmas.Option.{same_Some}
use Rattle.std.specs.FinSet.{contains}
use Rattle.lowfat_regions.specs.Regions.{size_of}
use Rattle.free_slots.specs.Slots.{Slots, made_count, resting_slots}
use Rattle.slot_headers.specs.Cells.{Cell, cells_at, zeros}
use Rattle.slot_store.specs.Slots.{Contents, made, cells_of, with_cells, slot_size}
use Rattle.slot_store.proofs.Stored.{cells_of_written}
use Rattle.heap_model.specs.Heap.{Body}
use Rattle.heap_model.specs.State.{State, SlotState}
use Rattle.object_slots.specs.SlotStates.{state_at, IsLive, count_made, with_cells_of, with_cells_in}
use Rattle.object_slots.specs.View.{header_in, object_in, body_in, state_in, slot_in, states_in, state_of, IsSlot, TakesLive, AreKept, IsOpened}
use Rattle.object_slots.proofs.Headers.{same-header, slot-same, some-body}
use Rattle.object_slots.proofs.States.{length-states, state-below, state-past, slot-kept, states-kept, states-set}
use Rattle.object_slots.proofs.Taking.{kept, count_made-set}

-- ---- the cells of slots, one of which has others

pub other-cells : (contents : Contents) (n m : ℕ) (cells : List (Cell ℕ)) → m ≢ n → cells_of (with_cells contents n cells) m ≡ cells_of contents m
other-cells contents n m cells apart = get_or-set_other contents.slots n m cells [] apart

pub made-with : (contents : Contents) (n : ℕ) (cells : List (Cell ℕ)) → made (with_cells contents n cells) ≡ made contents
made-with contents n cells = length-set contents.slots n cells

-- ---- the object of a slot that is taken

abbrev pub own : Contents → ℕ → Body ℕ
own contents n = object_in (header_in (cells_of contents n)) (cells_of contents n)

own-body : (taken : Bool) (contents : Contents) (n : ℕ) → taken ≡ true → body_in taken (header_in (cells_of contents n)) (cells_of contents n) ≡ Some (own contents n)
own-body taken contents n e = ap (λ t. body_in t (header_in (cells_of contents n)) (cells_of contents n)) e

pub own-size : (contents : Contents) (n : ℕ) → length (own contents n).cells ≤ (header_in (cells_of contents n)).size
own-size contents n = omega (arith, length-take (header_in (cells_of contents n)).size (drop 16 (cells_of contents n)))

module _ (region : ℕ) (contents : Contents) (free : Slots) (objects : ℕ) (k : AreKept region contents free objects) where
  -- a slot that is taken was made
  pub taken-below : (n : ℕ) → contains free.taken n ≡ true → n < made_count free
  taken-below n taken = go (cases_lt n (made_count free))
    where
      go : (n < made_count free) ⊎ (made_count free ≤ n) → n < made_count free
      go (inl below) = below
      go (inr past) = absurd (false≢true (ap (λ p. is_some p.body) (sym (state-past free contents n past)) ∙ sym (k.live.each n) ∙ taken))

  pub taken-inside : (n : ℕ) → n < made_count free → n < made contents
  taken-inside n below = omega (arith, k.opened)

  module _ (st : State) (seen : state_of region contents free ≡ st) where
    pub states-are : states_in free contents ≡ st.states
    states-are = ap (λ s. s.states) seen

    pub region-is : region ≡ st.region
    region-is = ap (λ s. s.region) seen

    pub length-are : length st.states ≡ made_count free
    length-are = sym (ap length states-are) ∙ length-states free contents

    -- a live slot
    pub live-taken : (n : ℕ) → IsLive st n → contains free.taken n ≡ true
    live-taken n lives = k.live.each n ∙ ap (λ states. is_some (state_at states n).body) states-are ∙ lives

    pub live-below : (n : ℕ) → IsLive st n → n < made_count free
    live-below n lives = taken-below n (live-taken n lives)

    pub live-inside : (n : ℕ) → IsLive st n → n < made contents
    live-inside n lives = taken-inside n (live-below n lives)

    pub state-is : (n : ℕ) → n < made_count free → state_at st.states n ≡ slot_in free contents n
    state-is n below = ap (λ states. state_at states n) (sym states-are) ∙ state-below free contents n below

    -- its object
    pub live-body : (n : ℕ) → IsLive st n → (state_at st.states n).body ≡ Some (own contents n)
    live-body n lives = ap (λ p. p.body) (state-is n (live-below n lives)) ∙ own-body (contains free.taken n) contents n (live-taken n lives)

    pub some-live : (n : ℕ) (o : Body ℕ) → (state_at st.states n).body ≡ Some o → IsLive st n
    some-live n o e = ap is_some e

    pub live-object : (n : ℕ) (o : Body ℕ) → (state_at st.states n).body ≡ Some o → o ≡ own contents n
    live-object n o e = same_Some _ _ (sym e ∙ live-body n (some-live n o e))

    -- so many bytes of an object are inside its slot
    pub live-room : (n end : ℕ) → IsLive st n → ((o : Body ℕ) → (state_at st.states n).body ≡ Some o → end ≤ length o.cells) → 16 + end + 1 ≤ size_of region
    live-room n end lives inside =
        omega (arith, inside (own contents n) (live-body n lives), own-size contents n, (k.taken n (live-below n lives)).fits)

    pub live-size : (n end : ℕ) → IsLive st n → ((o : Body ℕ) → (state_at st.states n).body ≡ Some o → end ≤ length o.cells) → end ≤ (header_in (cells_of contents n)).size
    live-size n end lives inside = omega (arith, inside (own contents n) (live-body n lives), own-size contents n)

  -- ---- a slot more in the store

  module _ (now : Contents) (opened : IsOpened contents now) where
    pub states-opened : states_in free now ≡ states_in free contents
    states-opened =
        states-kept free free contents now refl
        (λ n below. slot-kept free free contents now n refl (opened.same n (taken-inside n below)))

    size-opened : slot_size now ≡ slot_size contents
    size-opened = ap size_of opened.region

    pub kept-opened : AreKept region now free objects
    kept-opened = record {
      is_region = k.is_region;
      same_region = opened.region ∙ k.same_region;
      count = k.count;
      opened = omega (arith, k.opened, opened.more);
      taken = λ n below. subst (λ (cells : List (Cell ℕ)). IsSlot region (contains free.taken n) cells) (sym (opened.same n (taken-inside n below))) (k.taken n below);
      spare = λ n past inside. spare-opened n past inside (cases_lt n (made contents));
      live = subst (λ (states : List SlotState). TakesLive states free) (sym states-opened) k.live;
      counted = k.counted ∙ sym (ap count_made states-opened);
      most = k.most;
    }
      where
        spare-opened : (n : ℕ) → made_count free ≤ n → n < made now → (n < made contents) ⊎ (made contents ≤ n) → cells_of now n ≡ zeros (slot_size now)
        spare-opened n past inside (inl before) = opened.same n before ∙ k.spare n past before ∙ ap zeros (sym size-opened)
        spare-opened n past inside (inr after) = opened.zero n after inside

  -- ---- other cells of an object

  module _ (n : ℕ) (cells : List (Cell ℕ)) (below : n < made_count free) (same : cells_at 0 16 cells ≡ cells_at 0 16 (cells_of contents n)) where
    written : cells_of (with_cells contents n cells) n ≡ cells
    written = cells_of_written contents n cells (taken-inside n below)

    here : slot_in free (with_cells contents n cells) n ≡ state_in (contains free.taken n) cells
    here = ap (state_in (contains free.taken n)) written

    pub states-written : states_in free (with_cells contents n cells) ≡ set (states_in free contents) n (state_in (contains free.taken n) cells)
    states-written =
        states-set free free contents (with_cells contents n cells) n (state_in (contains free.taken n) cells) refl below here
        (λ m apart. slot-kept free free contents (with_cells contents n cells) m refl (other-cells contents n m cells apart))

    inside : n < length (states_in free contents)
    inside = omega (arith, below, length-states free contents)

    still : is_some (state_in (contains free.taken n) cells).body ≡ is_some (state_at (states_in free contents) n).body
    still = some-body (contains free.taken n) (header_in cells) cells ∙ k.live.each n

    version : (state_in (contains free.taken n) cells).versions ≡ (state_at (states_in free contents) n).versions
    version = ap (λ h. h.version) (same-header (cells_of contents n) cells same) ∙ ap (λ p. p.versions) (sym (state-below free contents n below))

    pub kept-written : AreKept region (with_cells contents n cells) free objects
    kept-written = record {
      is_region = k.is_region;
      same_region = k.same_region;
      count = k.count;
      opened = omega (arith, k.opened, made-with contents n cells);
      taken = λ m made. slots-written m made (cases_eq m n);
      spare = λ m past made. other-cells contents n m cells (λ e. absurd (omega arith)) ∙ k.spare m past (omega (arith, made-with contents n cells));
      live = subst (λ (states : List SlotState). TakesLive states free) (sym states-written) (kept (states_in free contents) free k.live n inside (state_in (contains free.taken n) cells) still);
      counted = k.counted ∙ sym (ap count_made states-written ∙ count_made-set (states_in free contents) n (state_in (contains free.taken n) cells) inside version);
      most = k.most;
    }
      where
        slots-written : (m : ℕ) → m < made_count free → (m ≡ n) ⊎ (m ≡ n → ⊥) → IsSlot region (contains free.taken m) (cells_of (with_cells contents n cells) m)
        slots-written m made (inl e) =
            subst (λ (j : ℕ). IsSlot region (contains free.taken j) (cells_of (with_cells contents n cells) j)) (sym e)
            (subst (λ (c : List (Cell ℕ)). IsSlot region (contains free.taken n) c) (sym written)
            (slot-same (cells_of contents n) cells same region (contains free.taken n) (k.taken n below)))
        slots-written m made (inr apart) =
            subst (λ (c : List (Cell ℕ)). IsSlot region (contains free.taken m) c) (sym (other-cells contents n m cells apart)) (k.taken m made)

-- what is seen then of a live object
module _ (region : ℕ) (contents : Contents) (free : Slots) (objects : ℕ) (k : AreKept region contents free objects) (st : State) (seen : state_of region contents free ≡ st)
    (n : ℕ) (o : Body ℕ) (lives : (state_at st.states n).body ≡ Some o) (cells new : List (Cell ℕ))
    (same : cells_at 0 16 cells ≡ cells_at 0 16 (cells_of contents n)) (shown : cells_at 16 (header_in (cells_of contents n)).size cells ≡ new) where
  live : IsLive st n
  live = ap is_some lives

  object : own contents n ≡ o
  object = sym (live-object region contents free objects k st seen n o lives)

  versions-seen : (header_in cells).version ≡ (state_at st.states n).versions
  versions-seen =
      ap (λ h. h.version) (same-header (cells_of contents n) cells same)
      ∙ ap (λ p. p.versions) (sym (state-is region contents free objects k st seen n (live-below region contents free objects k st seen n live)))

  body-seen : body_in (contains free.taken n) (header_in cells) cells ≡ Some (record { elem = o.elem; fixed = o.fixed; cells = new })
  body-seen =
      ap (λ t. body_in t (header_in cells) cells) (live-taken region contents free objects k st seen n live)
      ∙ ap (λ h. Some (object_in h cells)) (same-header (cells_of contents n) cells same)
      ∙ (λ i. Some (record { elem = (object i).elem; fixed = (object i).fixed; cells = shown i }))

  pub cells-seen : state_of region (with_cells contents n cells) free ≡ with_cells_in st n o new
  cells-seen =
      ap (λ states. record { region = region; states = states; resting = resting_slots free })
      (states-written region contents free objects k n cells (live-below region contents free objects k st seen n live) same
      ∙ (λ i. set (states_in free contents) n (record { versions = versions-seen i; body = body-seen i })))
      ∙ ap (λ s. record { region = s.region; states = set s.states n (with_cells_of (state_at st.states n) o new); resting = s.resting }) seen
