-- In a heap where each version of a slot is that of at most one object, two names there with one slot and version are one.
use Rattle.std.proofs.Common.{◌≡◌, ℕ, ◌+◌, ◌≤◌, suc, Bool, true, false, cond, List, [], ◌∷◌, ◌++◌, map, length, filter, refl, sym, ap, ◌∙◌, subst, arith, ◌⊎◌, inl, inr, length-append}
use Rattle.std.proofs.lemmas.Bool.{and_from, eq-eqb}
use Rattle.lowfat_regions.specs.Regions.{is_slot}
use Rattle.heap_model.specs.Heap.{Heap, made_count}
use Rattle.heap_model.specs.Answers.{Name, Words, is_at}
use Rattle.heap_model.specs.Legal.{IsApart}
use Rattle.std.specs.Prelude.{Some}
use Rattle.heap_model.proofs.Lists.{filter-append, length-filter_map}
use Rattle.heap_model.proofs.Apart.{is_slot-refl}
use Rattle.std.proofs.Common.{◌&&◌, ◌==◌}
use Rattle.std.specs.Prelude.{nat_le}
use Rattle.std.proofs.lemmas.Bool.Decides.{nat_tests}
use Rattle.slot_headers.specs.Words.{address_of}
use Rattle.heap_model.specs.Cells.{access_cells, Stores, Adds}
use Rattle.heap_model.specs.Heap.{empty}
use Rattle.heap_model.specs.Answers.{next, names, offset, datum, new_object}
use Rattle.heap_model.specs.Legal.{after, replay, own, CountsFrom, IsWellNumbered}
use Rattle.heap_model.specs.State.{one_if}
use Rattle.heap_model.proofs.Counts.{live_count-made, made_count-died, live_count-cells}
use Rattle.heap_model.specs.declared.calls.Call.{Call}
use Rattle.heap_model.specs.declared.calls.Call.TheVariants.{Alloc, Free, Store, Add}
use Rattle.heap_model.specs.declared.calls.Reply.{Reply}
use Rattle.heap_model.specs.declared.calls.Reply.TheVariants.{Placed, Done, Value as Moved}
use Rattle.heap_model.specs.declared.calls.Entry.{Entry}

abbrev pub Member : {X : Type 0} → X → List X → Type 0
Member x [] = ⊥
Member x (y ∷ ys) = (x ≡ y) ⊎ Member x ys

-- the names of all objects that were made
abbrev pub all_names : {N P : Type 0} → Heap N P → List N
all_names h = map (λ o. o.name) h.live ++ h.dead

none-passes : {X : Type 0} (p : X → Bool) (xs : List X) (x : X) → Member x xs → p x ≡ true → length (filter p xs) ≡ 0 → ⊥
none-passes p [] x m e n = m
none-passes p (y ∷ ys) x (inl same) e n = nope (p y) (ap p (sym same) ∙ e) n
  where
    nope : (b : Bool) → b ≡ true → length (cond b (y ∷ filter p ys) (filter p ys)) ≡ 0 → ⊥
    nope true e n = omega arith
    nope false e n = cc
none-passes p (y ∷ ys) x (inr m) e n = nope (p y) n (none-passes p ys x m e)
  where
    nope : (b : Bool) → length (cond b (y ∷ filter p ys) (filter p ys)) ≡ 0 → (length (filter p ys) ≡ 0 → ⊥) → ⊥
    nope true n later = omega arith
    nope false n later = later n

pub one-passes : {X : Type 0} (p : X → Bool) (xs : List X) (x y : X) → Member x xs → Member y xs → p x ≡ true → p y ≡ true → length (filter p xs) ≤ 1 → x ≡ y
one-passes p [] x y m n e f few = absurd m
one-passes p (z ∷ zs) x y (inl a) (inl b) e f few = a ∙ sym b
one-passes p (z ∷ zs) x y (inl a) (inr n) e f few = absurd (none-passes p zs y n f (tail-zero (p z) (ap p (sym a) ∙ e) few))
  where
    tail-zero : (b : Bool) → b ≡ true → length (cond b (z ∷ filter p zs) (filter p zs)) ≤ 1 → length (filter p zs) ≡ 0
    tail-zero true e few = omega arith
    tail-zero false e few = cc
one-passes p (z ∷ zs) x y (inr m) (inl b) e f few = absurd (none-passes p zs x m e (tail-zero (p z) (ap p (sym b) ∙ f) few))
  where
    tail-zero : (b : Bool) → b ≡ true → length (cond b (z ∷ filter p zs) (filter p zs)) ≤ 1 → length (filter p zs) ≡ 0
    tail-zero true e few = omega arith
    tail-zero false e few = cc
one-passes p (z ∷ zs) x y (inr m) (inr n) e f few = one-passes p zs x y m n e f (tail-few (p z) few)
  where
    tail-few : (b : Bool) → length (cond b (z ∷ filter p zs) (filter p zs)) ≤ 1 → length (filter p zs) ≤ 1
    tail-few true few = omega arith
    tail-few false few = few

pub names-count : (q : Name → Bool) (h : Words) → length (filter q (all_names h)) ≡ made_count q h
names-count q h =
    ap length (filter-append q (map (λ o. o.name) h.live) h.dead)
    ∙ length-append (filter q (map (λ o. o.name) h.live)) (filter q h.dead)
    ∙ ap (λ k. k + length (filter q h.dead)) (length-filter_map (λ o. o.name) q h.live)

pub one_if-le : (b : Bool) → one_if b ≤ 1
one_if-le true = omega arith
one_if-le false = omega arith

pub by_place : (h : Words) → IsApart h → (n m : Name) → Member n (all_names h) → Member m (all_names h) → n.slot ≡ m.slot → n.version ≡ m.version → n ≡ m
by_place h a n m known other slot version =
    one-passes (is_at (Some m.slot) m.version) (all_names h) n m known other
    (and_from _ _ (ap (λ s. is_slot s m.slot) slot ∙ is_slot-refl m.slot) (eq-eqb _ _ version))
    (and_from _ _ (is_slot-refl m.slot) (eq-eqb m.version m.version refl))
    (subst (λ k. k ≤ 1) (sym (names-count (is_at (Some m.slot) m.version) h)) (a.versions m.slot m.version))

-- ---- a call makes one object at most

abbrev pub is_by : ℕ → ℕ → Name → Bool
is_by w c n = (n.worker == w) && (n.number == c)

abbrev pub is_call : ℕ → ℕ → Entry → Bool
is_call w c e = (e.number == c) && (e.worker == w)

and-comm : (a b : Bool) → (a && b) ≡ (b && a)
and-comm true true = refl
and-comm true false = refl
and-comm false true = refl
and-comm false false = refl

made-next : (w c worker number : ℕ) (h : Words) (call : Call) (reply : Reply) → made_count (is_by w c) (next worker number h call reply) ≤ made_count (is_by w c) h + one_if ((number == c) && (worker == w))
unfolding next
made-next w c worker number h (Alloc elem size fixed) (Placed word) =
    omega (arith, live_count-made (is_by w c) h (new_object worker number elem size fixed word), ap one_if (and-comm (worker == w) (number == c)))
made-next w c worker number h (Free p fixed) Done = omega (arith, made_count-died (is_by w c) h (names (address_of p) p))
made-next w c worker number h (Store p reach kind v) Done = omega (arith, live_count-cells (is_by w c) h (names reach.lo p) (access_cells (offset reach.lo p) kind (Stores (datum v))))
made-next w c worker number h (Add p reach kind n) (Moved v) = omega (arith, live_count-cells (is_by w c) h (names reach.lo p) (access_cells (offset reach.lo p) kind (Adds n)))
made-next w c worker number h _ _ = omega arith

length-cons_if : {X : Type 0} (b : Bool) (x : X) (xs : List X) → length (cond b (x ∷ xs) xs) ≡ one_if b + length xs
length-cons_if true x xs = omega arith
length-cons_if false x xs = omega arith

pub made-replay : (w c : ℕ) (h : Words) (es : List Entry) → made_count (is_by w c) (replay h es) ≤ made_count (is_by w c) h + length (filter (is_call w c) es)
made-replay w c h [] = omega arith
made-replay w c h (e ∷ es) =
    omega (arith, made-replay w c (after h e) es, made-next w c e.worker e.number h e.call e.reply, length-cons_if (is_call w c e) e (filter (is_call w c) es))

pub counted : (c n : ℕ) (es : List Entry) → CountsFrom n es → length (filter (λ e. e.number == c) es) ≤ one_if (nat_le n c)
counted c n [] k = omega arith
counted c n (e ∷ es) k = grind (arith, nat_tests, k.0, counted c (suc n) es k.1)

pub calls-of : (w c : ℕ) (es : List Entry) → length (filter (is_call w c) es) ≡ length (filter (λ e. e.number == c) (own es w))
calls-of w c [] = refl
calls-of w c (e ∷ es) = grind (arith, calls-of w c es)

pub by_call : (history : List Entry) → IsWellNumbered history → (n m : Name) → Member n (all_names (replay empty history)) → Member m (all_names (replay empty history)) → n.worker ≡ m.worker → n.number ≡ m.number → n ≡ m
by_call history numbered n m known other worker number =
    one-passes (is_by m.worker m.number) (all_names (replay empty history)) n m known other
    (and_from _ _ (eq-eqb _ _ worker) (eq-eqb _ _ number))
    (and_from _ _ (eq-eqb m.worker m.worker refl) (eq-eqb m.number m.number refl))
    (omega (
      arith,
      names-count (is_by m.worker m.number) (replay empty history),
      made-replay m.worker m.number empty history,
      calls-of m.worker m.number history,
      counted m.number 0 (own history m.worker) (numbered m.worker),
      one_if-le (nat_le 0 m.number),
    ))
