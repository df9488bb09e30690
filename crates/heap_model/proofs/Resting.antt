-- The slots that rest: what a death adds, how many they are, and that a slot that is not among them may be taken.
use Rattle.std.proofs.Common.{◌≡◌, ℕ, zero, suc, ◌-◌, min, Bool, true, false, cond, ◌||◌, List, [], ◌∷◌, ◌++◌, map, length, filter, take, drop, Some, refl, ap, sym, ◌∙◌, subst, arith}
use Rattle.std.specs.Prelude.{reverse, nat_eq}
use Rattle.std.specs.List.{list_any, Contains}
use Rattle.std.proofs.lemmas.Bool.{eqb-true, eq-eqb, and_parts}
use Rattle.std.proofs.lemmas.List.{take-append-drop, take-take, take-map, drop_at, length-drop, length-map, length-reverse, length-take, reverse-append, nil_from_length}
use Rattle.std.proofs.lemmas.List.Sorted.{Contains-permutation, IsPermutation-reverse}
use Rattle.std.proofs.lemmas.Map.Views.{Contains-from_any}
use Rattle.free_slots.specs.Slots.{rest_limit, last_resting}
use Rattle.lowfat_regions.specs.Regions.{Slot, slots}
use Rattle.heap_model.specs.Heap.{Object, dead_count, is_of, rest, resting, with_dead}
use Rattle.heap_model.specs.Answers.{Name, region, Words, is_in, is_at}
use Rattle.heap_model.specs.State.{State, StandsFor, slot_number}

-- ---- the last of a list are the first of its reverse

reverse-take : {X : Type 0} (n : ℕ) (xs : List X) → reverse (take n xs) ≡ drop (length (reverse xs) - n) (reverse xs)
reverse-take n xs =
    let split : reverse xs ≡ reverse (drop n xs) ++ reverse (take n xs) = ap reverse (sym (take-append-drop n xs)) ∙ reverse-append (take n xs) (drop n xs) in
    let long : length (reverse (drop n xs)) ≡ length (reverse xs) - n = length-reverse (drop n xs) ∙ length-drop n xs ∙ ap (λ l. l - n) (sym (length-reverse xs)) in
    sym (drop_at (reverse (drop n xs)) (reverse (take n xs)) (length (reverse xs) - n) long) ∙ ap (λ l. drop (length (reverse xs) - n) l) (sym split)

one-before : {X : Type 0} (k : ℕ) (x : X) (xs : List X) → take k (x ∷ take k xs) ≡ take k (x ∷ xs)
one-before zero x xs = refl
one-before (suc j) x xs = ap (λ ys. x ∷ ys) (take-take j (suc j) xs (omega arith))

-- one slot more, which was freed last
rest-push : (count : ℕ) (ns : List ℕ) (n : ℕ) → last_resting count (reverse (take (rest_limit count) ns) ++ n ∷ []) ≡ reverse (take (rest_limit count) (n ∷ ns))
rest-push count ns n =
    let k = rest_limit count in
    ap (last_resting count) (sym (reverse-append (n ∷ []) (take k ns)))
    ∙ sym (reverse-take k (n ∷ take k ns))
    ∙ ap reverse (one-before k n ns)

-- ---- a death

one-passes : {X : Type 0} (p : X → Bool) (xs : List X) → length (filter p xs) ≡ 1 → (x : X) × (p x ≡ true) × (filter p xs ≡ x ∷ [])
one-passes p [] one = absurd (omega (arith, one))
one-passes {X} p (x ∷ xs) one = go (p x) refl one (one-passes p xs)
  where
    go : (b : Bool) → p x ≡ b → length (cond b (x ∷ filter p xs) (filter p xs)) ≡ 1 → (length (filter p xs) ≡ 1 → (y : X) × (p y ≡ true) × (filter p xs ≡ y ∷ [])) → (y : X) × (p y ≡ true) × (cond b (x ∷ filter p xs) (filter p xs) ≡ y ∷ [])
    go true e count later = (x, e, ap (λ ys. x ∷ ys) (nil_from_length (filter p xs) (omega (arith, count))))
    go false e count later = later count

module _ (h : Words) (s : Slot) (w : ℕ) (one : length (filter (λ o. is_at (Some s) w o.name) h.live) ≡ 1) where
  died : (o : Object Name ℕ) × (is_at (Some s) w o.name ≡ true) × (filter (λ o. is_at (Some s) w o.name) h.live ≡ o ∷ [])
  died = one-passes (λ (o : Object Name ℕ). is_at (Some s) w o.name) h.live one

  in-slot : is_in s died.0.name ≡ true
  in-slot = (and_parts _ _ died.1).0

  in-region : is_of region s.region died.0.name ≡ true
  in-region = (and_parts _ _ in-slot).0

  names-died : filter (is_of region s.region) (with_dead (is_at (Some s) w) h).dead ≡ died.0.name ∷ filter (is_of region s.region) h.dead
  names-died =
      ap (λ (os : List (Object Name ℕ)). filter (is_of region s.region) (map (λ o. o.name) os ++ h.dead)) died.2
      ∙ ap (λ b. cond b (died.0.name ∷ filter (is_of region s.region) h.dead) (filter (is_of region s.region) h.dead)) in-region

  resting-died : map slot_number (resting region s.region (with_dead (is_at (Some s) w) h)) ≡ take (rest s.region) (s.number ∷ map slot_number (filter (is_of region s.region) h.dead))
  resting-died =
      sym (take-map slot_number (rest s.region) (filter (is_of region s.region) (with_dead (is_at (Some s) w) h).dead))
      ∙ ap (λ (ns : List Name). take (rest s.region) (map slot_number ns)) names-died
      ∙ ap (λ n. take (rest s.region) (n ∷ map slot_number (filter (is_of region s.region) h.dead))) (eqb-true _ _ (and_parts _ _ in-slot).1)

  pub at-rest-died : (before : List ℕ) → before ≡ reverse (map slot_number (resting region s.region h))
      → last_resting (slots s.region) (before ++ s.number ∷ []) ≡ reverse (map slot_number (resting region s.region (with_dead (is_at (Some s) w) h)))
  at-rest-died before was =
      ap (λ ns. last_resting (slots s.region) (ns ++ s.number ∷ [])) (was ∙ ap reverse (sym (take-map slot_number (rest s.region) (filter (is_of region s.region) h.dead))))
      ∙ rest-push (slots s.region) (map slot_number (filter (is_of region s.region) h.dead)) s.number
      ∙ ap reverse (sym resting-died)

-- ---- what a state shows of them

module _ (st : State) (h : Words) (k : StandsFor st h) where
  pub rest-count : length st.resting ≡ min (rest st.region) (dead_count (is_of region st.region) h)
  rest-count =
      ap length k.at_rest ∙ length-reverse (map slot_number (resting region st.region h)) ∙ length-map (resting region st.region h) slot_number
      ∙ length-take (rest st.region) (filter (is_of region st.region) h.dead)

or-true : (a b : Bool) → b ≡ true → (a || b) ≡ true
or-true true b e = refl
or-true false b e = e

any-number : (s : Slot) (ns : List Name) → list_any (is_in s) ns ≡ true → list_any (nat_eq s.number) (map slot_number ns) ≡ true
any-number s [] any = any
any-number s (n ∷ ns) any = go (is_in s n) refl any (any-number s ns)
  where
    go : (b : Bool) → is_in s n ≡ b → (b || list_any (is_in s) ns) ≡ true → (list_any (is_in s) ns ≡ true → list_any (nat_eq s.number) (map slot_number ns) ≡ true)
        → (nat_eq s.number n.slot.number || list_any (nat_eq s.number) (map slot_number ns)) ≡ true
    go true e any later = ap (λ b. b || list_any (nat_eq s.number) (map slot_number ns)) (eq-eqb _ _ (sym (eqb-true _ _ (and_parts _ _ e).1)))
    go false e any later = or-true (nat_eq s.number n.slot.number) (list_any (nat_eq s.number) (map slot_number ns)) (later any)

-- a slot that is not among those of the state does not rest
pub not-resting : (st : State) (h : Words) → StandsFor st h → (s : Slot) → s.region ≡ st.region → (Contains st.resting s.number → ⊥) → list_any (is_in s) (resting region s.region h) ≡ false
not-resting st h k s home apart = go (list_any (is_in s) (resting region s.region h)) refl
  where
    go : (b : Bool) → list_any (is_in s) (resting region s.region h) ≡ b → b ≡ false
    go false e = refl
    go true e =
        let numbers : List ℕ = map slot_number (resting region s.region h) in
        let here : Contains numbers s.number = Contains-from_any {eq = nat_eq} (λ x y same. eqb-true x y same) s.number numbers (any-number s (resting region s.region h) e) in
        let turned : Contains (reverse numbers) s.number = Contains-permutation numbers (reverse numbers) s.number (IsPermutation-reverse numbers) here in
        absurd (apart (subst (λ (ns : List ℕ). Contains ns s.number) (ap (λ r. reverse (map slot_number (resting region r h))) home ∙ sym k.at_rest) turned))
