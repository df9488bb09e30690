-- What the states and the store of a region's slots tell.
use Rattle.std.proofs.Common.{◌≡◌, ℕ, ◌<◌, ◌≤◌, ◌^◌, Bool, true, false, length, Some, None, option_map, refl, sym, ap, ◌∙◌, arith}
use Rattle.std.specs.Prelude.{nat_le}
use Rattle.std.specs.FinSet.{contains}
use Rattle.std.proofs.lemmas.Bool.{agree_below_at, leb-true}
use Rattle.lowfat_regions.specs.Regions.{IsRegion, sizes, size_of}
use Rattle.free_slots.specs.Slots.{Slots, made_count}
use Rattle.slot_headers.specs.Cells.{cells_at}
use Rattle.slot_headers.specs.declared.header.Header.{Header}
use Rattle.slot_store.specs.Cells.{header_cells}
use Rattle.slot_store.specs.Slots.{Contents, cells_of, HasWholeSlots}
use Rattle.heap_model.specs.Heap.{Body}
use Rattle.heap_model.specs.State.{State}
use Rattle.object_slots.specs.declared.facts.Facts.{Facts}
use Rattle.object_slots.specs.SlotStates.{state_at}
use Rattle.object_slots.specs.Objects.{AreOfRegion, AreStored, IsStored, object_header, facts_of}
use Rattle.object_slots.specs.View.{header_in, body_in, states_in, state_of, AreKept}
use Rattle.object_slots.proofs.Headers.{object-size}
use Rattle.object_slots.proofs.States.{length-states, state-below}
use Rattle.object_slots.proofs.Kept.{own, own-size, taken-below, taken-inside, live-below, live-object, some-live}

-- slots are small
pub size-bound : (region : ℕ) → IsRegion region → size_of region ≤ 2 ^ 20
unfolding size_of sizes
size-bound region is = leb-true _ _ (agree_below_at (λ r. nat_le (size_of r) (2 ^ 20)) (λ _. true) 28 region refl (omega arith))

-- without a live object a slot is not taken
none-free : (taken : Bool) (h : Header) (cells : _) → body_in taken h cells ≡ None → taken ≡ false
none-free true h cells e = cc
none-free false h cells e = refl

-- what a header tells of an object
abbrev pub header_facts : Header → Facts
header_facts h = record { elem = h.kind; size = h.size; fixed = h.fixed }

module _ (region : ℕ) (contents : Contents) (free : Slots) (objects : ℕ) (k : AreKept region contents free objects) where
  abbrev seen : State
  seen = state_of region contents free

  pub of-region : AreOfRegion seen
  of-region = record {
    region = k.is_region;
    limit = omega (arith, k.live.few, k.count);
    made = omega (arith, k.counted, k.most);
    taken = λ n inside.
        let below : n < made_count free = omega (arith, length-states free contents) in
        omega (arith, (k.taken n below).version, ap (λ p. p.versions) (state-below free contents n below));
    fits = λ n o e.
        let is = live-object region contents free objects k seen refl n o e in
        let below = live-below region contents free objects k seen refl n (some-live region contents free objects k seen refl n o e) in
        omega (arith, ap (λ (o : Body ℕ). length o.cells) is, own-size contents n, (k.taken n below).fits);
  }

  module _ (whole : HasWholeSlots contents) where
    -- the object of a slot has all the bytes that its header tells
    pub own-length : (n : ℕ) → n < made_count free → length (own contents n).cells ≡ (header_in (cells_of contents n)).size
    own-length n below =
        object-size (header_in (cells_of contents n)).size (cells_of contents n)
        (omega (arith, (k.taken n below).fits, whole.whole n (taken-inside region contents free objects k n below), ap size_of k.same_region))

    stored : (n : ℕ) (o : Body ℕ) → (state_at (states_in free contents) n).body ≡ Some o → IsStored contents n (state_at (states_in free contents) n) o
    stored n o e =
        let is : o ≡ own contents n = live-object region contents free objects k seen refl n o e in
        let below : n < made_count free = live-below region contents free objects k seen refl n (some-live region contents free objects k seen refl n o e) in
        let size : length (own contents n).cells ≡ (header_in (cells_of contents n)).size = own-length n below in
        let same : header_in (cells_of contents n) ≡ object_header (state_at (states_in free contents) n) o =
        (λ i. record {
          kind = (header_in (cells_of contents n)).kind;
          version = (sym (state-below free contents n below) i).versions;
          fixed = (header_in (cells_of contents n)).fixed;
          size = sym size i;
        })
        ∙ ap (object_header (state_at (states_in free contents) n)) (sym is) in
        record {
          header = (k.taken n below).header ∙ ap header_cells same;
          decoded = same;
          object = ap (λ (o : Body ℕ). cells_at 16 (length o.cells) (cells_of contents n)) is ∙ ap (λ size. cells_at 16 size (cells_of contents n)) size ∙ ap (λ (o : Body ℕ). o.cells) (sym is);
        }

    pub are-stored : AreStored contents seen
    are-stored = record {
      region = k.same_region;
      made = omega (arith, length-states free contents, k.opened);
      live = stored;
      freed = λ n inside none.
          let below : n < made_count free = omega (arith, length-states free contents) in
          let out : contains free.taken n ≡ false =
          none-free (contains free.taken n) (header_in (cells_of contents n)) (cells_of contents n) (ap (λ p. p.body) (sym (state-below free contents n below)) ∙ none) in
          record {
            kind = (k.taken n below).freed out;
            version = ap (λ p. p.versions) (sym (state-below free contents n below));
          };
    }

    -- what is known of the object of a slot, and of none
    pub facts-some : (n : ℕ) → contains free.taken n ≡ true → option_map facts_of (state_at (states_in free contents) n).body ≡ Some (header_facts (header_in (cells_of contents n)))
    facts-some n taken =
        let below : n < made_count free = taken-below region contents free objects k n taken in
        ap (λ p. option_map facts_of p.body) (state-below free contents n below)
        ∙ ap (λ b. option_map facts_of (body_in b (header_in (cells_of contents n)) (cells_of contents n))) taken
        ∙ ap (λ size. Some (record { elem = (header_in (cells_of contents n)).kind; size = size; fixed = (header_in (cells_of contents n)).fixed })) (own-length n below)
