-- The objects that a history placed, counted against those of the heap.
use Rattle.std.proofs.Common.{◌≡◌, ℕ, ◌+◌, ◌≤◌, Bool, true, false, not, List, [], ◌∷◌, ◌++◌, length, filter, map, Option, Some, None, option_map, if◌then◌else◌, refl, sym, ◌∙◌, ap, arith, add-zero, zero-add, length-append, cond}
use Rattle.std.specs.List.{cons_option}
use Rattle.std.specs.Option.{option_to_list}
use Rattle.std.proofs.lemmas.List.Elements.{filter-append}
use Rattle.lowfat_regions.specs.Regions.{Slot, slot_of}
use Rattle.slot_headers.specs.Words.{address_of, version_of}
use Rattle.slot_headers.specs.Cells.{Cell}
use Rattle.heap_model.specs.Cells.{Stores, Adds, access_cells}
use Rattle.heap_model.specs.Heap.{Object, empty, made_count, with_new, with_dead, with_cells, with_cells_if}
use Rattle.heap_model.specs.Answers.{Name, Words, names, is_at, slot_at, offset, datum, new_object, next}
use Rattle.heap_model.specs.Layouts.{Layouts}
use Rattle.heap_model.specs.Legal.{Answers, AllocAnswers, IsLegalFrom, IsLegal, after, replay, ApartLaw}
use Rattle.heap_model.specs.declared.calls.Call.{Call}
use Rattle.heap_model.specs.declared.calls.Call.TheVariants.{Alloc, Free, Store, Add}
use Rattle.heap_model.specs.declared.calls.Reply.{Reply}
use Rattle.heap_model.specs.declared.calls.Reply.TheVariants.{Placed, Done, Value as Moved}
use Rattle.heap_model.specs.declared.calls.Entry.{Entry}
use Rattle.placed_objects.specs.Placed.{name_in, placed_name, placed_names, PlacedLaw, OneNamedLaw}

-- how many names pass
abbrev passing : (Name → Bool) → List Name → ℕ
passing is names = length (filter is names)

abbrev Live : Type 0
Live = List (Object Name ℕ)

abbrev live_passing : (Name → Bool) → Live → ℕ
live_passing is live = length (filter (λ o. is o.name) live)

passing_cons : (is : Name → Bool) (o : Option Name) (ns : List Name) →
    passing is (cons_option o ns) ≡ passing is (option_to_list o) + passing is ns
passing_cons is None ns = omega arith
passing_cons is (Some n) ns =
    elim (is n) as (λ b. length (if b then n ∷ filter is ns else filter is ns) ≡ length (if b then n ∷ [] else []) + length (filter is ns))
    [ true ↦ omega arith | false ↦ omega arith ]

passing_append : (is : Name → Bool) (ms ns : List Name) → passing is (ms ++ ns) ≡ passing is ms + passing is ns
passing_append is ms ns = ap length (filter-append is ms ns) ∙ length-append (filter is ms) (filter is ns)

-- a further object
live_one : (is : Name → Bool) (o : Object Name ℕ) → live_passing is (o ∷ []) ≡ passing is (o.name ∷ [])
live_one is o =
    elim (is o.name) as (λ b. length (cond b (o ∷ []) []) ≡ length (cond b (o.name ∷ []) [])) [ true ↦ refl | false ↦ refl ]

live_made : (is : Name → Bool) (live : Live) (o : Object Name ℕ) →
    live_passing is (live ++ o ∷ []) ≡ live_passing is live + passing is (o.name ∷ [])
live_made is live o =
    let p : Object Name ℕ → Bool = λ x. is x.name in
    ap length (filter-append p live (o ∷ [])) ∙ length-append (filter p live) (filter p (o ∷ []))
    ∙ ap (λ k. length (filter p live) + k) (live_one is o)

-- objects that die are counted among the dead
live_died : (is dies : Name → Bool) (live : Live) →
    live_passing is (filter (λ o. not (dies o.name)) live) + passing is (map (λ o. o.name) (filter (λ o. dies o.name) live)) ≡ live_passing is live
live_died is dies [] = refl
live_died is dies (o ∷ live) =
    let stay : Live = filter (λ x. not (dies x.name)) live in
    let gone : Live = filter (λ x. dies x.name) live in
    let before : live_passing is stay + passing is (map (λ x. x.name) gone) ≡ live_passing is live = live_died is dies live in
    elim (dies o.name) as
    (λ d. live_passing is (cond (not d) (o ∷ stay) stay) + passing is (map (λ x. x.name) (cond d (o ∷ gone) gone)) ≡ live_passing is (o ∷ live)) [
      | true ↦
          elim (is o.name) as
          (λ b. live_passing is stay + length (cond b (o.name ∷ filter is (map (λ x. x.name) gone)) (filter is (map (λ x. x.name) gone)))
          ≡ length (cond b (o ∷ filter (λ x. is x.name) live) (filter (λ x. is x.name) live)))
          [ true ↦ omega arith | false ↦ before ]
      | false ↦
          elim (is o.name) as
          (λ b. length (cond b (o ∷ filter (λ x. is x.name) stay) (filter (λ x. is x.name) stay)) + passing is (map (λ x. x.name) gone)
          ≡ length (cond b (o ∷ filter (λ x. is x.name) live) (filter (λ x. is x.name) live)))
          [ true ↦ omega arith | false ↦ before ]
    ]

-- new cells change no name
live_recelled : (is at : Name → Bool) (f : List (Cell ℕ) → List (Cell ℕ)) (live : Live) →
    live_passing is (map (with_cells_if at f) live) ≡ live_passing is live
live_recelled is at f [] = refl
live_recelled is at f (o ∷ live) =
    let rest : Live = map (with_cells_if at f) live in
    let before : live_passing is rest ≡ live_passing is live = live_recelled is at f live in
    elim (is o.name) as
    (λ b. length (cond b (with_cells_if at f o ∷ filter (λ x. is x.name) rest) (filter (λ x. is x.name) rest))
    ≡ length (cond b (o ∷ filter (λ x. is x.name) live) (filter (λ x. is x.name) live)))
    [ true ↦ omega arith | false ↦ before ]

-- ---- each entry

-- a word that an allocation is answered points into a slot
abbrev HasSlot : Call → Reply → Type 0
HasSlot (Alloc elem size fixed) (Placed word) = (s : Slot) × (slot_of (address_of word) ≡ Some s)
HasSlot _ _ = Unit {0}

has_slot : (layouts : Layouts) (h : Words) (r : ℕ) (call : Call) (reply : Reply) → Answers layouts h r call reply → HasSlot call reply
unfolding Answers AllocAnswers
has_slot layouts h r (Alloc elem size fixed) (Placed word) (room, place) = (place.slot, place.slot_is)
has_slot layouts h r _ _ a = tt

name_made : (worker number word : ℕ) (s : Slot) → slot_of (address_of word) ≡ Some s →
    option_to_list (option_map (λ t. (let n : Name = record { slot = t; version = version_of word; worker = worker; number = number } in n)) (slot_of (address_of word)))
    ≡ record { slot = slot_at (address_of word); version = version_of word; worker = worker; number = number } ∷ []
unfolding slot_at
name_made worker number word s e = rw e

made_count-made : (is : Name → Bool) (h : Words) (o : Object Name ℕ) → made_count is (with_new o h) ≡ made_count is h + passing is (o.name ∷ [])
made_count-made is h o = omega (arith, live_made is h.live o)

made_count-died : (is dies : Name → Bool) (h : Words) → made_count is (with_dead dies h) ≡ made_count is h
made_count-died is dies h =
    omega (arith, live_died is dies h.live, passing_append is (map (λ o. o.name) (filter (λ o. dies o.name) h.live)) h.dead)

made_count-cells : (is at : Name → Bool) (f : List (Cell ℕ) → List (Cell ℕ)) (h : Words) → made_count is (with_cells at f h) ≡ made_count is h
made_count-cells is at f h = omega (arith, live_recelled is at f h.live)

count_step : (is : Name → Bool) (worker number : ℕ) (h : Words) (call : Call) (reply : Reply) → HasSlot call reply →
    made_count is (next worker number h call reply) ≡ made_count is h + passing is (option_to_list (name_in worker number call reply))
unfolding next
count_step is worker number h (Alloc elem size fixed) (Placed word) (s, e) =
    made_count-made is h (new_object worker number elem size fixed word)
    ∙ ap (λ ns. made_count is h + passing is ns) (sym (name_made worker number word s e))
count_step is worker number h (Free p fixed) Done slot = made_count-died is (names (address_of p) p) h ∙ sym (add-zero (made_count is h))
count_step is worker number h (Store p reach kind v) Done slot =
    made_count-cells is (names reach.lo p) (access_cells (offset reach.lo p) kind (Stores (datum v))) h ∙ sym (add-zero (made_count is h))
count_step is worker number h (Add p reach kind n) (Moved v) slot =
    made_count-cells is (names reach.lo p) (access_cells (offset reach.lo p) kind (Adds n)) h ∙ sym (add-zero (made_count is h))
count_step is worker number h _ _ slot = sym (add-zero (made_count is h))

-- ---- histories

count_from : (layouts : Layouts) (is : Name → Bool) (h : Words) (es : List Entry) → IsLegalFrom layouts h es →
    made_count is (replay h es) ≡ made_count is h + passing is (placed_names es)
count_from layouts is h [] legal = sym (add-zero (made_count is h))
count_from layouts is h (e ∷ es) (meets, legal) =
    omega (
      arith,
      count_from layouts is (after h e) es legal,
      count_step is e.worker e.number h e.call e.reply (has_slot layouts h e.region e.call e.reply meets.answers),
      passing_cons is (placed_name e) (placed_names es),
    )

pub placed_law : PlacedLaw
placed_law layouts history legal is = sym (count_from layouts is empty history legal ∙ zero-add (passing is (placed_names history)))

none_at : (version : ℕ) (ns : List Name) → passing (is_at None version) ns ≡ 0
none_at version [] = refl
none_at version (n ∷ ns) = none_at version ns

one_at : ApartLaw → (layouts : Layouts) (history : List Entry) → IsLegal layouts history → (s : Option Slot) (version : ℕ) →
    passing (is_at s version) (placed_names history) ≤ 1
one_at apart layouts history legal None version = omega (arith, none_at version (placed_names history))
one_at apart layouts history legal (Some s) version =
    omega (arith, placed_law layouts history legal (is_at (Some s) version), (apart layouts history legal).versions s version)

pub one_named_law : ApartLaw → OneNamedLaw
one_named_law apart layouts history legal anchor word = one_at apart layouts history legal (slot_of anchor) (version_of word)
