-- In a legal history no two live objects overlap, and no slot has a version twice.
use Rattle.std.proofs.Common.{◌≡◌, ℕ, zero, suc, ◌+◌, ◌-◌, ◌*◌, ◌/◌, ◌<◌, ◌≤◌, Bool, true, false, not, cond, ◌&&◌, ◌==◌, List, [], ◌∷◌, ◌++◌, map, length, get_or, filter, Option, Some, None, refl, ap, sym, ◌∙◌, subst, arith}
use Rattle.std.specs.Prelude.{nat_le, nat_lt}
use Rattle.std.proofs.lemmas.Bool.{and_parts, and_from, eqb-true, eq-eqb, ltb-true, leb-true}
use Rattle.std.proofs.lemmas.Option.{same_Some, none-some}
use Rattle.std.proofs.lemmas.List.{length-replicate}
use Rattle.std.proofs.lemmas.List.Sums.{passes_at_first}
use Rattle.std.specs.List.{position_or_len, AllByRecursion}
use Rattle.lowfat_regions.specs.Regions.{header_bytes, Slot, IsSlot, is_slot, slot_of, slot_in, region_of, size_of, sizes, class_of, slots, slot_address}
use Rattle.slot_headers.specs.Words.{address_of, version_of}
use Rattle.slot_headers.specs.Cells.{Cell, zeros, put, without_pointer, number_in, cells_at}
use Rattle.heap_model.specs.Cells.{Act, Loads, Stores, Adds, Number, Pointer, Datum, cells_after_store, cells_after_add, access_cells, width}
use Rattle.heap_model.specs.Heap.{Object, empty, live_count, dead_count, made_count, with_new, with_dead, with_cells, with_cells_if}
use Rattle.heap_model.specs.Answers.{Name, Words, is_in, is_at, names, slot_at, offset, datum, new_object, next}
use Rattle.heap_model.specs.Layouts.{Layouts}
use Rattle.heap_model.specs.Forms.{region_for}
use Rattle.heap_model.specs.Legal.{MayPlace, AllocAnswers, Answers, after, IsLegalFrom, IsLegal, replay, covers, IsApart}
use Rattle.heap_model.proofs.Counts.{live_count-made, live_count-died, made_count-died, live_count-cells}
use Rattle.lowfat_regions.proofs.Addresses.{slot_of-at}
use Rattle.heap_model.specs.declared.calls.AccessKind.{AccessKind}
use Rattle.heap_model.specs.declared.calls.Call.{Call}
use Rattle.heap_model.specs.declared.calls.Call.TheVariants.{Alloc, Free, Store, Add}
use Rattle.heap_model.specs.declared.calls.Reply.{Reply}
use Rattle.heap_model.specs.declared.calls.Reply.TheVariants.{Placed, Done, Value as Moved}
use Rattle.heap_model.specs.declared.calls.Entry.{Entry}

-- ---- an access keeps the number of cells

length-put : {P : Type 0} (k : ℕ) (new cells : List (Cell P)) → length (put k new cells) ≡ length cells
unfolding put
length-put k new [] = refl
length-put zero [] (cell ∷ cells) = refl
length-put zero (c ∷ new) (cell ∷ cells) = ap suc (length-put zero new cells)
length-put (suc k) new (cell ∷ cells) = ap suc (length-put k new cells)

length-cells_after_store : {P : Type 0} (kind : AccessKind) (k : ℕ) (d : Datum P) (cells : List (Cell P)) → length (cells_after_store kind k d cells) ≡ length cells
unfolding cells_after_store without_pointer
length-cells_after_store kind k (Number n) cells = length-put k _ _ ∙ length-put (8 * (k / 8)) _ cells
length-cells_after_store kind k (Pointer p) cells = length-put k _ cells

length-cells_after_add : {P : Type 0} (kind : AccessKind) (k n : ℕ) (old : Option ℕ) (cells : List (Cell P)) → length (cells_after_add kind k n old cells) ≡ length cells
unfolding cells_after_add
length-cells_after_add kind k n None cells = refl
length-cells_after_add kind k n (Some old) cells = length-put k _ cells

pub length-access_cells : {P : Type 0} (k : ℕ) (kind : AccessKind) (act : Act P) (cells : List (Cell P)) → length (access_cells k kind act cells) ≡ length cells
unfolding access_cells
length-access_cells k kind Loads cells = refl
length-access_cells k kind (Stores d) cells = length-cells_after_store kind k d cells
length-access_cells k kind (Adds n) cells = length-cells_after_add kind k n (number_in (cells_at k (width kind) cells)) cells

-- ---- slots that exist

pub is_region : (a r : ℕ) → region_of a ≡ Some r → (1 ≤ r) × (r ≤ 27)
unfolding region_of
is_region a r e = grind arith

slot_in-is : (o : Option ℕ) (a : ℕ) (s : Slot) → slot_in o a ≡ Some s → (o ≡ Some s.region) × (s.number < slots s.region)
unfolding slot_in
slot_in-is None a s e = absurd (none-some s e)
slot_in-is (Some r) a s e = grind arith

pub IsSlot-of : (a : ℕ) (s : Slot) → slot_of a ≡ Some s → IsSlot s
unfolding slot_of
IsSlot-of a s e =
    let h = slot_in-is (region_of a) a s e in
    let r = is_region a s.region h.0 in
    record { from = r.0; to = r.1; number = h.1 }

-- an object of a class has room for its header and a byte past it
pub class-room : (n r : ℕ) → class_of n ≡ Some r → n + header_bytes + 1 ≤ size_of r
unfolding class_of size_of
class-room n r e = go (nat_lt place (length sizes)) refl e
  where
    fits : ℕ → Bool
    fits z = nat_le (n + header_bytes + 1) z

    place : ℕ
    place = position_or_len fits sizes

    go : (b : Bool) → nat_lt place (length sizes) ≡ b → cond b (Some (place + 1)) None ≡ Some r → n + header_bytes + 1 ≤ get_or sizes (r - 1) 0
    go true below same =
        let at : place + 1 ≡ r = same_Some _ _ same in
        let here : r - 1 ≡ place = omega arith in
        rw here (leb-true _ _ (passes_at_first fits sizes 0 (ltb-true _ _ below)))
    go false below same = absurd (none-some r same)

-- ---- what a legal history keeps

-- the object is in a slot that has room for it
pub record HasRoom (o : Object Name ℕ) : Type 0 where
  pub slot : IsSlot o.name.slot
  pub room : length o.body.cells + header_bytes + 1 ≤ size_of o.name.slot.region

pub record IsSound (h : Words) : Type 0 where
  pub one_live : (s : Slot) → live_count (is_in s) h ≤ 1
  pub no_higher : (s : Slot) (v : ℕ) → made_count (is_in s) h < v → made_count (is_at (Some s) v) h ≡ 0
  pub one_version : (s : Slot) (v : ℕ) → made_count (is_at (Some s) v) h ≤ 1
  pub room : AllByRecursion HasRoom h.live

push-if : (b : Bool) (o : Object Name ℕ) (os : List (Object Name ℕ)) → HasRoom o → AllByRecursion HasRoom os → AllByRecursion HasRoom (cond b (o ∷ os) os)
push-if true o os here all = (here, all)
push-if false o os here all = all

length-either : (b : Bool) (cells old : List (Cell ℕ)) → length cells ≡ length old → length (cond b cells old) ≡ length old
length-either true cells old e = e
length-either false cells old e = refl

room-filter : (p : Object Name ℕ → Bool) (os : List (Object Name ℕ)) → AllByRecursion HasRoom os → AllByRecursion HasRoom (filter p os)
room-filter p [] all = tt
room-filter p (o ∷ os) all = push-if (p o) o (filter p os) all.0 (room-filter p os all.1)

room-map : (is : Name → Bool) (f : List (Cell ℕ) → List (Cell ℕ)) → ((cells : List (Cell ℕ)) → length (f cells) ≡ length cells) → (os : List (Object Name ℕ)) → AllByRecursion HasRoom os → AllByRecursion HasRoom (map (with_cells_if is f) os)
room-map is f same [] all = tt
room-map is f same (o ∷ os) all = (record { slot = all.0.slot; room = omega (arith, length-either (is o.name) (f o.body.cells) o.body.cells (same o.body.cells), all.0.room) }, room-map is f same os all.1)

room-push : (os : List (Object Name ℕ)) (o : Object Name ℕ) → AllByRecursion HasRoom os → HasRoom o → AllByRecursion HasRoom (os ++ o ∷ [])
room-push [] o all here = (here, tt)
room-push (x ∷ os) o all here = (all.0, room-push os o all.1 here)

sound-died : (is : Name → Bool) (h : Words) → IsSound h → IsSound (with_dead is h)
sound-died is h s = record {
  one_live = λ t. omega (arith, live_count-died (is_in t) h is, s.one_live t);
  no_higher = λ t v above. made_count-died (is_at (Some t) v) h is ∙ s.no_higher t v (subst (λ n. n < v) (made_count-died (is_in t) h is) above);
  one_version = λ t v. subst (λ n. n ≤ 1) (sym (made_count-died (is_at (Some t) v) h is)) (s.one_version t v);
  room = room-filter (λ o. not (is o.name)) h.live s.room;
}

sound-cells : (is : Name → Bool) (f : List (Cell ℕ) → List (Cell ℕ)) → ((cells : List (Cell ℕ)) → length (f cells) ≡ length cells) → (h : Words) → IsSound h → IsSound (with_cells is f h)
sound-cells is f same h s = record {
  one_live = λ t. subst (λ n. n ≤ 1) (sym (live_count-cells (is_in t) h is f)) (s.one_live t);
  no_higher = λ t v above. ap (λ n. n + dead_count (is_at (Some t) v) h) (live_count-cells (is_at (Some t) v) h is f) ∙ s.no_higher t v (subst (λ n. n + dead_count (is_in t) h < v) (live_count-cells (is_in t) h is f) above);
  one_version = λ t v. subst (λ n. n + dead_count (is_at (Some t) v) h ≤ 1) (sym (live_count-cells (is_at (Some t) v) h is f)) (s.one_version t v);
  room = room-map is f same h.live s.room;
}

abbrev one_if : Bool → ℕ
one_if b = cond b 1 0

pub is_slot-is : (s t : Slot) → is_slot s t ≡ true → s ≡ t
is_slot-is s t e =
    let parts = and_parts _ _ e in
    let r = eqb-true _ _ parts.0 in
    let n = eqb-true _ _ parts.1 in
    λ i. record { region = r i; number = n i }

-- a new object whose slot has no live one, and whose version is the next
module _ (o : Object Name ℕ) (h : Words) (none : live_count (is_in o.name.slot) h ≡ 0) (next : o.name.version ≡ 1 + made_count (is_in o.name.slot) h) (s : IsSound h) where
  one_live-made : (t : Slot) → live_count (is_in t) (with_new o h) ≤ 1
  one_live-made t = go (is_in t o.name) refl
    where
      go : (b : Bool) → is_in t o.name ≡ b → live_count (is_in t) (with_new o h) ≤ 1
      go true e =
          let here : live_count (is_in t) h ≡ 0 = subst (λ u. live_count (is_in u) h ≡ 0) (is_slot-is o.name.slot t e) none in
          omega (arith, live_count-made (is_in t) h o, ap one_if e, here)
      go false e = omega (arith, live_count-made (is_in t) h o, ap one_if e, s.one_live t)

  made-is : (is : Name → Bool) → made_count is (with_new o h) ≡ made_count is h + one_if (is o.name)
  made-is is = omega (arith, live_count-made is h o)

  no_higher-made : (t : Slot) (v : ℕ) → made_count (is_in t) (with_new o h) < v → made_count (is_at (Some t) v) (with_new o h) ≡ 0
  no_higher-made t v above = go (is_in t o.name) (o.name.version == v) refl refl
    where
      go : (b c : Bool) → is_in t o.name ≡ b → o.name.version == v ≡ c → made_count (is_at (Some t) v) (with_new o h) ≡ 0
      go true true e d =
          let here : o.name.version ≡ 1 + made_count (is_in t) h = subst (λ u. o.name.version ≡ 1 + made_count (is_in u) h) (is_slot-is o.name.slot t e) next in
          absurd (omega (arith, here, eqb-true _ _ d, above, made-is (is_in t), ap one_if e))
      go true false e d =
          let less : made_count (is_in t) h < v = omega (arith, above, made-is (is_in t)) in
          made-is (is_at (Some t) v) ∙ (λ i. s.no_higher t v less i + one_if (e i && d i))
      go false c e d =
          let less : made_count (is_in t) h < v = omega (arith, above, made-is (is_in t)) in
          made-is (is_at (Some t) v) ∙ (λ i. s.no_higher t v less i + one_if (e i && (o.name.version == v)))

  one_version-made : (t : Slot) (v : ℕ) → made_count (is_at (Some t) v) (with_new o h) ≤ 1
  one_version-made t v = go (is_in t o.name) (o.name.version == v) refl refl
    where
      go : (b c : Bool) → is_in t o.name ≡ b → o.name.version == v ≡ c → made_count (is_at (Some t) v) (with_new o h) ≤ 1
      go true true e d =
          let here : o.name.version ≡ 1 + made_count (is_in t) h = subst (λ u. o.name.version ≡ 1 + made_count (is_in u) h) (is_slot-is o.name.slot t e) next in
          let less : made_count (is_in t) h < v = omega (arith, here, eqb-true _ _ d) in
          let both : one_if (is_in t o.name && (o.name.version == v)) ≡ 1 = λ i. one_if (e i && d i) in
          omega (arith, made-is (is_at (Some t) v), s.no_higher t v less, both)
      go true false e d =
          let both : one_if (is_in t o.name && (o.name.version == v)) ≡ 0 = λ i. one_if (e i && d i) in
          omega (arith, made-is (is_at (Some t) v), s.one_version t v, both)
      go false c e d =
          let both : one_if (is_in t o.name && (o.name.version == v)) ≡ 0 = λ i. one_if (e i && (o.name.version == v)) in
          omega (arith, made-is (is_at (Some t) v), s.one_version t v, both)

  pub sound-made : HasRoom o → IsSound (with_new o h)
  sound-made here = record { one_live = one_live-made; no_higher = no_higher-made; one_version = one_version-made; room = room-push h.live o s.room here }

-- ---- whole histories

pub slot_at-is : (h : Words) (r word : ℕ) (m : MayPlace h r word) → slot_at (address_of word) ≡ m.slot
unfolding slot_at
slot_at-is h r word m = rw m.slot_is

sound-placed : (h : Words) (r worker number elem size word : ℕ) (fixed : Bool) → class_of size ≡ Some r → MayPlace h r word → IsSound h → IsSound (with_new (new_object worker number elem size fixed word) h)
sound-placed h r worker number elem size word fixed home m s =
    let e = slot_at-is h r word m in
    sound-made (new_object worker number elem size fixed word) h
    (subst (λ t. live_count (is_in t) h ≡ 0) (sym e) m.no_live)
    (subst (λ t. version_of word ≡ 1 + made_count (is_in t) h) (sym e) m.version)
    s
    (record {
      slot = subst IsSlot (sym e) (IsSlot-of (address_of word) m.slot m.slot_is);
      room = subst (λ t. length (zeros {P = ℕ} size) + header_bytes + 1 ≤ size_of t.region) (sym e)
          (subst (λ q. length (zeros {P = ℕ} size) + header_bytes + 1 ≤ size_of q) (sym m.of_region)
          (simp length-replicate (class-room size r home)));
    })

module _ (layouts : Layouts) where
  pub sound-next : (worker number : ℕ) (h : Words) (r : ℕ) (call : Call) (reply : Reply) → region_for call ≡ Some r → Answers layouts h r call reply → IsSound h → IsSound (next worker number h call reply)
  unfolding next Answers AllocAnswers region_for
  sound-next worker number h r (Alloc elem size fixed) (Placed word) home a s = sound-placed h r worker number elem size word fixed home a.1 s
  sound-next worker number h r (Free p fixed) Done home a s = sound-died (names (address_of p) p) h s
  sound-next worker number h r (Store p reach kind v) Done home a s = sound-cells (names reach.lo p) (access_cells (offset reach.lo p) kind (Stores (datum v))) (length-access_cells _ kind (Stores (datum v))) h s
  sound-next worker number h r (Add p reach kind n) (Moved v) home a s = sound-cells (names reach.lo p) (access_cells (offset reach.lo p) kind (Adds n)) (length-access_cells _ kind (Adds n)) h s
  sound-next worker number h r _ _ home a s = s

  pub sound-replay : (h : Words) (es : List Entry) → IsLegalFrom layouts h es → IsSound h → IsSound (replay h es)
  sound-replay h [] l s = s
  sound-replay h (e ∷ es) l s = sound-replay (after h e) es l.1 (sound-next e.worker e.number h e.region e.call e.reply l.0.region_is l.0.answers s)

-- ---- the law

covers-in : (a : ℕ) (o : Object Name ℕ) → HasRoom o → covers a o ≡ true → slot_of a ≡ Some o.name.slot
covers-in a o here e =
    let both = and_parts _ _ e in
    let low : slot_address o.name.slot + 16 ≤ a = leb-true _ _ both.0 in
    let high : a ≤ slot_address o.name.slot + 16 + length o.body.cells = leb-true _ _ both.1 in
    let k = a - slot_address o.name.slot in
    let inside : k < size_of o.name.slot.region = omega (arith, here.room) in
    let is : slot_address o.name.slot + k ≡ a = omega arith in
    subst (λ x. slot_of x ≡ Some o.name.slot) is (slot_of-at o.name.slot k here.slot.from here.slot.to here.slot.number inside)

pub is_slot-refl : (s : Slot) → is_slot s s ≡ true
is_slot-refl s = and_from _ _ (eq-eqb s.region s.region refl) (eq-eqb s.number s.number refl)

length-cons_if : {X : Type 0} (b : Bool) (x : X) (xs : List X) → length (cond b (x ∷ xs) xs) ≡ one_if b + length xs
length-cons_if true x xs = omega arith
length-cons_if false x xs = omega arith

-- what covers an address lies in the slot of that address
covers-count : (a : ℕ) (os : List (Object Name ℕ)) → AllByRecursion HasRoom os → (s : Slot) → slot_of a ≡ Some s → length (filter (covers a) os) ≤ length (filter (λ o. is_in s o.name) os)
covers-count a [] all s e = omega arith
covers-count a (o ∷ os) all s e =
    omega (arith, length-cons_if (covers a o) o (filter (covers a) os), length-cons_if (is_in s o.name) o (filter (λ o. is_in s o.name) os), here (covers a o) refl, covers-count a os all.1 s e)
  where
    here : (b : Bool) → covers a o ≡ b → one_if (covers a o) ≤ one_if (is_in s o.name)
    here true c =
        let same : o.name.slot ≡ s = same_Some _ _ (sym (covers-in a o all.0 c) ∙ e) in
        let in' : is_in s o.name ≡ true = subst (λ t. is_slot o.name.slot t ≡ true) same (is_slot-refl o.name.slot) in
        omega (arith, ap one_if c, ap one_if in')
    here false c = omega (arith, ap one_if c)

covers-none : (a : ℕ) (os : List (Object Name ℕ)) → AllByRecursion HasRoom os → slot_of a ≡ None → length (filter (covers a) os) ≡ 0
covers-none a [] all e = refl
covers-none a (o ∷ os) all e = omega (arith, length-cons_if (covers a o) o (filter (covers a) os), here (covers a o) refl, covers-none a os all.1 e)
  where
    here : (b : Bool) → covers a o ≡ b → one_if (covers a o) ≡ 0
    here true c = absurd (none-some o.name.slot (sym e ∙ covers-in a o all.0 c))
    here false c = ap one_if c

pub IsApart-from : (h : Words) → IsSound h → IsApart h
IsApart-from h s = record { live = λ a. go a (slot_of a) refl; versions = s.one_version }
  where
    go : (a : ℕ) (o : Option Slot) → slot_of a ≡ o → length (filter (covers a) h.live) ≤ 1
    go a None e = omega (arith, covers-none a h.live s.room e)
    go a (Some t) e = omega (arith, covers-count a h.live s.room t e, s.one_live t)

pub sound-empty : IsSound empty
sound-empty = record { one_live = λ t. omega arith; no_higher = λ t v above. refl; one_version = λ t v. omega arith; room = tt }

pub law : (layouts : Layouts) (history : List Entry) → IsLegal layouts history → IsApart (replay empty history)
law layouts history l = IsApart-from (replay empty history) (sound-replay layouts empty history l sound-empty)
