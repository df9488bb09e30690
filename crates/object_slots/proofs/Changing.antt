-- What is kept where an object is placed in a slot, and where one dies.
use Rattle.std.proofs.Common.{◌≡◌, ◌≢◌, ℕ, ◌+◌, ◌<◌, ◌≤◌, ◌^◌, Bool, true, false, List, length, set, Some, None, is_some, refl, sym, ap, ◌∙◌, subst, ◌⊎◌, inl, inr, arith}
use Rattle.std.proofs.lemmas.Bool.{cases_eq, cases_lt, false≢true}
use Rattle.std.specs.FinSet.{contains}
use Rattle.lowfat_regions.specs.Regions.{size_of, slots}
use Rattle.free_slots.specs.Slots.{Slots, TellsFresh, made_count, next_of, after_take, after_give}
use Rattle.free_slots.specs.declared.slots.Taken.{Taken}
use Rattle.free_slots.proofs.Marks.{contains-insert_same, contains-insert_other, contains-remove_same, contains-remove_other}
use Rattle.slot_headers.specs.declared.header.Header.{Header}
use Rattle.slot_headers.specs.Cells.{Cell, cells_at, zeros}
use Rattle.slot_headers.specs.Headers.{IsHeader, ReadLaw}
use Rattle.slot_store.specs.Cells.{header_cells}
use Rattle.slot_store.specs.Slots.{Contents, made, cells_of, with_cells, slot_size}
use Rattle.slot_store.proofs.Stored.{cells_of_written}
use Rattle.heap_model.specs.Heap.{Body}
use Rattle.heap_model.specs.Objects.{max_objects}
use Rattle.heap_model.specs.State.{SlotState}
use Rattle.object_slots.specs.SlotStates.{state_at, count_made, next_object, without_object, with_object}
use Rattle.object_slots.specs.Objects.{FitsIn}
use Rattle.object_slots.specs.View.{header_in, object_in, state_in, with_header, slot_in, states_in, IsSlot, TakesLive, AreKept}
use Rattle.object_slots.proofs.Headers.{header-written, header-read, behind-written, version-zero, length-zeros, behind-zeros}
use Rattle.object_slots.proofs.States.{length-states, state-below, state-past, slot-kept, states-set, states-object}
use Rattle.object_slots.proofs.Taking.{made-given, made-again, made-more, taken-next, took, gave, count_made-object, count_made-set, version-bound}
use Rattle.object_slots.proofs.Kept.{other-cells, made-with, taken-below, taken-inside}

-- a slot with a header written
slot-with : (law : ReadLaw) (region : ℕ) (taken : Bool) (h : Header) (cells : List (Cell ℕ)) → 16 ≤ length cells → IsHeader h → 1 ≤ h.version → FitsIn region h.size → (taken ≡ false → h.kind ≡ 0)
    → IsSlot region taken (with_header h cells)
slot-with law region taken h cells room is version fits freed =
    let read : header_in (with_header h cells) ≡ h = header-read h cells room law is in
    record {
      header = header-written h cells room ∙ ap header_cells (sym read);
      version = subst (λ (g : Header). 1 ≤ g.version) (sym read) version;
      fits = subst (λ (g : Header). FitsIn region g.size) (sym read) fits;
      freed = λ free. ap (λ g. g.kind) read ∙ freed free;
    }

-- ---- an object dies

-- the header of a slot without an object
abbrev pub freed_header : Header → Header
freed_header h = record { kind = 0; version = h.version; fixed = h.fixed; size = h.size }

module _ (law : ReadLaw) (region : ℕ) (contents : Contents) (free : Slots) (objects : ℕ) (k : AreKept region contents free objects) (n : ℕ) (is : contains free.taken n ≡ true)
    (room : 16 ≤ length (cells_of contents n)) (header_is : IsHeader (freed_header (header_in (cells_of contents n)))) where
  abbrev freed_cells : List (Cell ℕ)
  freed_cells = with_header (freed_header (header_in (cells_of contents n))) (cells_of contents n)

  abbrev freed : Contents
  freed = with_cells contents n freed_cells

  below : n < made_count free
  below = taken-below region contents free objects k n is

  freed-written : cells_of freed n ≡ freed_cells
  freed-written = cells_of_written contents n freed_cells (taken-inside region contents free objects k n below)

  read : header_in freed_cells ≡ freed_header (header_in (cells_of contents n))
  read = header-read (freed_header (header_in (cells_of contents n))) (cells_of contents n) room law header_is

  out : contains (after_give free n).taken n ≡ false
  out = contains-remove_same free.taken n

  freed-here : slot_in (after_give free n) freed n ≡ without_object (state_at (states_in free contents) n)
  freed-here =
      ap (state_in (contains (after_give free n).taken n)) freed-written
      ∙ ap (λ b. state_in b freed_cells) out
      ∙ ap (λ v. record { versions = v; body = None })
      (ap (λ h. h.version) read ∙ ap (λ p. p.versions) (sym (state-below free contents n below)))

  pub states-freed : states_in (after_give free n) freed ≡ set (states_in free contents) n (without_object (state_at (states_in free contents) n))
  states-freed =
      states-set free (after_give free n) contents freed n (without_object (state_at (states_in free contents) n)) (made-given free n is) below freed-here
      (λ m apart. slot-kept free (after_give free n) contents freed m (contains-remove_other free.taken n m apart) (other-cells contents n m freed_cells apart))

  within : n < length (states_in free contents)
  within = omega (arith, below, length-states free contents)

  lived : is_some (state_at (states_in free contents) n).body ≡ true
  lived = sym (k.live.each n) ∙ is

  pub kept-freed : AreKept region freed (after_give free n) objects
  kept-freed = record {
    is_region = k.is_region;
    same_region = k.same_region;
    count = k.count;
    opened = omega (arith, k.opened, made-with contents n freed_cells, made-given free n is);
    taken = λ m made. slots-freed m (omega (arith, made, made-given free n is)) (cases_eq m n);
    spare = λ m past made.
        let past' : made_count free ≤ m = omega (arith, past, made-given free n is) in
        other-cells contents n m freed_cells (λ e. absurd (omega (arith, below))) ∙ k.spare m past' (omega (arith, made, made-with contents n freed_cells));
    live = subst (λ (states : List SlotState). TakesLive states (after_give free n)) (sym states-freed) (gave (states_in free contents) free k.live n within lived);
    counted = k.counted ∙ sym (ap count_made states-freed ∙ count_made-set (states_in free contents) n (without_object (state_at (states_in free contents) n)) within refl);
    most = k.most;
  }
    where
      slots-freed : (m : ℕ) → m < made_count free → (m ≡ n) ⊎ (m ≡ n → ⊥) → IsSlot region (contains (after_give free n).taken m) (cells_of freed m)
      slots-freed m made (inl e) =
          subst (λ (j : ℕ). IsSlot region (contains (after_give free n).taken j) (cells_of freed j)) (sym e)
          (subst (λ (c : List (Cell ℕ)). IsSlot region (contains (after_give free n).taken n) c) (sym freed-written)
          (slot-with law region (contains (after_give free n).taken n) (freed_header (header_in (cells_of contents n))) (cells_of contents n) room header_is
          (k.taken n below).version (k.taken n below).fits (λ _. refl)))
      slots-freed m made (inr apart) =
          subst (λ (b : Bool). IsSlot region b (cells_of freed m)) (sym (contains-remove_other free.taken n m apart))
          (subst (λ (c : List (Cell ℕ)). IsSlot region (contains free.taken m) c) (sym (other-cells contents n m freed_cells apart)) (k.taken m made))

  -- whatever store and slots these are
  module _ (now : Contents) (left : Slots) (cells_are : now ≡ freed) (slots_are : left ≡ after_give free n) where
    pub kept-after : AreKept region now left objects
    kept-after =
        subst (λ (c : Contents). AreKept region c left objects) (sym cells_are)
        (subst (λ (s : Slots). AreKept region freed s objects) (sym slots_are) kept-freed)

    pub states-after : states_in left now ≡ set (states_in free contents) n (without_object (state_at (states_in free contents) n))
    states-after = (λ i. states_in (slots_are i) (cells_are i)) ∙ states-freed

-- ---- an object is placed

module _ (law : ReadLaw) (region : ℕ) (contents : Contents) (free : Slots) (objects : ℕ) (k : AreKept region contents free objects)
    (t : Taken) (is : Some t ≡ next_of free) (tells : TellsFresh free t) (apart : contains free.taken t.slot ≡ true → ⊥) (opened : t.slot < made contents)
    (elem size : ℕ) (fixed : Bool) (fits : FitsIn region size) (small : 32 ≤ size_of region) (kind : elem < 2 ^ 32) (bytes : size < 2 ^ 64) (more : objects < max_objects) where
  abbrev placed_header : Header
  placed_header = record { kind = elem; version = 1 + (header_in (cells_of contents t.slot)).version; fixed = fixed; size = size }

  abbrev placed_cells : List (Cell ℕ)
  placed_cells = with_header placed_header (zeros (slot_size contents))

  abbrev placed : Contents
  placed = with_cells contents t.slot placed_cells

  abbrev taken_slots : Slots
  taken_slots = after_take free (Some t)

  abbrev new : Body ℕ
  new = record { elem = elem; fixed = fixed; cells = zeros size }

  next : t.slot ≤ made_count free
  next = omega (arith, taken-next (states_in free contents) free k.live t is tells apart, length-states free contents)

  again : t.slot < made_count free → made_count taken_slots ≡ made_count free
  again = made-again (states_in free contents) free k.live t is tells apart

  further : made_count free ≤ t.slot → made_count taken_slots ≡ made_count free + 1
  further = made-more (states_in free contents) free k.live t is tells apart

  size-is : slot_size contents ≡ size_of region
  size-is = ap size_of k.same_region

  -- the version that the slot shows so far
  pub version-so-far : (header_in (cells_of contents t.slot)).version ≡ (state_at (states_in free contents) t.slot).versions
  version-so-far = go (cases_lt t.slot (made_count free))
    where
      go : (t.slot < made_count free) ⊎ (made_count free ≤ t.slot) → (header_in (cells_of contents t.slot)).version ≡ (state_at (states_in free contents) t.slot).versions
      go (inl below) = ap (λ p. p.versions) (sym (state-below free contents t.slot below))
      go (inr past) =
          ap (λ c. (header_in c).version) (k.spare t.slot past opened)
          ∙ version-zero (slot_size contents) (omega (arith, small, size-is))
          ∙ ap (λ p. p.versions) (sym (state-past free contents t.slot past))

  pub version-small : (header_in (cells_of contents t.slot)).version ≤ objects
  version-small = go (cases_lt t.slot (length (states_in free contents)))
    where
      go : (t.slot < length (states_in free contents)) ⊎ (length (states_in free contents) ≤ t.slot) → (header_in (cells_of contents t.slot)).version ≤ objects
      go (inl below) = omega (arith, version-so-far, version-bound (states_in free contents) t.slot below, k.counted)
      go (inr past) =
          let none : (state_at (states_in free contents) t.slot).versions ≡ 0 = ap (λ p. p.versions) (state-past free contents t.slot (omega (arith, past, length-states free contents))) in
          omega (arith, version-so-far, none)

  header-is : IsHeader placed_header
  header-is = record { kind = kind; version = omega (arith, version-small, more); size = bytes }

  room : 16 ≤ length (zeros {P = ℕ} (slot_size contents))
  room = omega (arith, length-zeros (slot_size contents), size-is, small)

  placed-written : cells_of placed t.slot ≡ placed_cells
  placed-written = cells_of_written contents t.slot placed_cells opened

  placed-read : header_in placed_cells ≡ placed_header
  placed-read = header-read placed_header (zeros (slot_size contents)) room law header-is

  inserted : contains taken_slots.taken t.slot ≡ true
  unfolding after_take
  inserted = contains-insert_same free.taken t.slot

  others : (m : ℕ) → m ≢ t.slot → contains taken_slots.taken m ≡ contains free.taken m
  unfolding after_take
  others m other = contains-insert_other free.taken t.slot m other

  behind : cells_at 16 size placed_cells ≡ zeros size
  behind =
      behind-written placed_header (zeros (slot_size contents)) room size
      ∙ behind-zeros (slot_size contents) size (omega (arith, fits, size-is))

  placed-here : slot_in taken_slots placed t.slot ≡ next_object (state_at (states_in free contents) t.slot) new
  placed-here =
      ap (state_in (contains taken_slots.taken t.slot)) placed-written
      ∙ ap (λ b. state_in b placed_cells) inserted
      ∙ ap (λ h. record { versions = h.version; body = Some (object_in h placed_cells) }) placed-read
      ∙ (λ i. record { versions = 1 + version-so-far i; body = Some (record { elem = elem; fixed = fixed; cells = behind i }) })

  pub states-placed : states_in taken_slots placed ≡ with_object (states_in free contents) t.slot new
  states-placed =
      states-object free taken_slots contents placed t.slot new next again further placed-here
      (λ m other. slot-kept free taken_slots contents placed m (others m other) (other-cells contents t.slot m placed_cells other))

  -- the slots that were taken are those before, and that one
  made-cases : (made_count taken_slots ≡ made_count free) × (t.slot < made_count free) ⊎ (made_count taken_slots ≡ made_count free + 1) × (t.slot ≡ made_count free)
  made-cases = go (cases_lt t.slot (made_count free))
    where
      go : (t.slot < made_count free) ⊎ (made_count free ≤ t.slot) → (made_count taken_slots ≡ made_count free) × (t.slot < made_count free) ⊎ (made_count taken_slots ≡ made_count free + 1) × (t.slot ≡ made_count free)
      go (inl below) = inl (again below, below)
      go (inr past) = inr (further past, omega (arith, next))

  before : (m : ℕ) → m < made_count taken_slots → m ≢ t.slot → m < made_count free
  before m made other = go made-cases
    where
      go : (made_count taken_slots ≡ made_count free) × (t.slot < made_count free) ⊎ (made_count taken_slots ≡ made_count free + 1) × (t.slot ≡ made_count free) → m < made_count free
      go (inl (same, below)) = omega (arith, same)
      go (inr (one, last)) = omega (arith, one, last, other)

  past : (m : ℕ) → made_count taken_slots ≤ m → (made_count free ≤ m) × (m ≢ t.slot)
  past m above = go made-cases
    where
      go : (made_count taken_slots ≡ made_count free) × (t.slot < made_count free) ⊎ (made_count taken_slots ≡ made_count free + 1) × (t.slot ≡ made_count free) → (made_count free ≤ m) × (m ≢ t.slot)
      go (inl (same, below)) = (omega (arith, same), λ e. absurd (omega (arith, same, below)))
      go (inr (one, last)) = (omega (arith, one), λ e. absurd (omega (arith, one, last)))

  enough : made_count taken_slots ≤ made contents
  enough = go made-cases
    where
      go : (made_count taken_slots ≡ made_count free) × (t.slot < made_count free) ⊎ (made_count taken_slots ≡ made_count free + 1) × (t.slot ≡ made_count free) → made_count taken_slots ≤ made contents
      go (inl (same, below)) = omega (arith, same, k.opened)
      go (inr (one, last)) = omega (arith, one, last, opened)

  count-same : taken_slots.count ≡ slots region
  unfolding after_take
  count-same = k.count

  pub kept-placed : AreKept region placed taken_slots (objects + 1)
  kept-placed = record {
    is_region = k.is_region;
    same_region = k.same_region;
    count = count-same;
    opened = omega (arith, enough, made-with contents t.slot placed_cells);
    taken = λ m made. slots-placed m made (cases_eq m t.slot);
    spare = λ m above made. other-cells contents t.slot m placed_cells (past m above).1 ∙ k.spare m (past m above).0 (omega (arith, made, made-with contents t.slot placed_cells));
    live = subst (λ (states : List SlotState). TakesLive states taken_slots) (sym states-placed) (took (states_in free contents) free k.live t is tells apart new);
    counted = omega (arith, k.counted, ap count_made states-placed, count_made-object (states_in free contents) t.slot new (taken-next (states_in free contents) free k.live t is tells apart));
    most = omega (arith, more);
  }
    where
      slots-placed : (m : ℕ) → m < made_count taken_slots → (m ≡ t.slot) ⊎ (m ≡ t.slot → ⊥) → IsSlot region (contains taken_slots.taken m) (cells_of placed m)
      slots-placed m made (inl e) =
          subst (λ (j : ℕ). IsSlot region (contains taken_slots.taken j) (cells_of placed j)) (sym e)
          (subst (λ (c : List (Cell ℕ)). IsSlot region (contains taken_slots.taken t.slot) c) (sym placed-written)
          (slot-with law region (contains taken_slots.taken t.slot) placed_header (zeros (slot_size contents)) room header-is (omega arith) fits
          (λ free. absurd (false≢true (sym free ∙ inserted)))))
      slots-placed m made (inr other) =
          subst (λ (b : Bool). IsSlot region b (cells_of placed m)) (sym (others m other))
          (subst (λ (c : List (Cell ℕ)). IsSlot region (contains free.taken m) c) (sym (other-cells contents t.slot m placed_cells other)) (k.taken m (before m made other)))

  -- whatever store and slots these are
  module _ (now : Contents) (left : Slots) (cells_are : now ≡ placed) (slots_are : left ≡ taken_slots) where
    pub kept-then : AreKept region now left (objects + 1)
    kept-then =
        subst (λ (c : Contents). AreKept region c left (objects + 1)) (sym cells_are)
        (subst (λ (s : Slots). AreKept region placed s (objects + 1)) (sym slots_are) kept-placed)

    pub states-then : states_in left now ≡ with_object (states_in free contents) t.slot new
    states-then = (λ i. states_in (slots_are i) (cells_are i)) ∙ states-placed
