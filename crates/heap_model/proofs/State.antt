-- What a region's heap answers by its places is what the heap answers that it stands for, and goes on to stand for the next one.
use Rattle.std.proofs.Common.{◌≡◌, ℕ, ◌+◌, ◌<◌, ◌≤◌, Bool, true, false, not, cond, ◌&&◌, ◌||◌, ◌==◌, List, [], ◌∷◌, ◌++◌, map, length, filter, find, Option, Some, None, option_map, is_some, refl, ap, sym, ◌∙◌, subst, arith}
use Rattle.std.specs.List.{list_any}
use Rattle.std.specs.Prelude.{nat_lt, reverse}
use Rattle.lowfat_regions.specs.Regions.{Slot, is_slot, slot_of, slots}
use Rattle.slot_headers.specs.Words.{version_of}
use Rattle.slot_headers.specs.Cells.{Cell}
use Rattle.heap_model.specs.Heap.{Body, Object, live_body, has_dead, live_count, made_count, dead_count, is_of, resting, with_new, with_dead, with_cells, with_cells_if}
use Rattle.heap_model.specs.Answers.{Name, region, Words, is_in, is_at, live_in, dead_in, answer, answer_by}
use Rattle.heap_model.specs.Layouts.{Layouts}
use Rattle.heap_model.specs.State.{SlotState, State, state_of, live_at, dead_at, at_slot, live_by, dead_by, slot_number, StandsFor, ChangesSlot, one_if, live_objects, all_versions}
use Rattle.heap_model.specs.declared.calls.Call.{Call}
use Rattle.std.proofs.lemmas.Bool.{and_parts, and_from, or_right, lt-ltb, eqb-true, eq-eqb}
use Rattle.std.proofs.lemmas.Option.{none-some}
use Rattle.std.proofs.lemmas.Bool.Decides.{nat_tests}
use Rattle.heap_model.proofs.Lists.{Within, filter-comm, filter-within, filter-apart, length-filter_split, length-filter_within}
use Rattle.heap_model.proofs.Counts.{live_count-made, made_count-died, live_count-cells}
use Rattle.free_slots.specs.Slots.{last_resting}
use Rattle.heap_model.proofs.Apart.{is_slot-is}
use Rattle.heap_model.proofs.Resting.{at-rest-died}

find-none : {X : Type 0} (p : X → Bool) → ((x : X) → p x ≡ false) → (xs : List X) → find p xs ≡ None
find-none p none [] = refl
find-none p none (x ∷ xs) = grind (arith, none x, find-none p none xs)

any-none : {X : Type 0} (p : X → Bool) → ((x : X) → p x ≡ false) → (xs : List X) → list_any p xs ≡ false
any-none p none [] = refl
any-none p none (x ∷ xs) = grind (arith, none x, any-none p none xs)

module _ (st : State) (h : Words) (s : StandsFor st h) where
  live-same : (anchor word : ℕ) → live_in h anchor word ≡ live_by st anchor word
  live-same anchor word = go (slot_of anchor)
    where
      go : (o : Option Slot) → live_body (is_at o (version_of word)) h ≡ at_slot (λ t. live_at (state_of st t) (version_of word)) None o
      go None = ap (option_map (λ o. o.body)) (find-none (λ o. false) (λ o. refl) h.live)
      go (Some t) = s.live t (version_of word)

  dead-same : (anchor word : ℕ) → dead_in h anchor word ≡ dead_by st anchor word
  dead-same anchor word = go (slot_of anchor)
    where
      go : (o : Option Slot) → has_dead (is_at o (version_of word)) h ≡ at_slot (λ t. dead_at (state_of st t) (version_of word)) false o
      go None = any-none (λ n. false) (λ n. refl) h.dead
      go (Some t) = s.dead t (version_of word)

  -- the replies
  pub answer-same : (layouts : Layouts) (call : Call) → answer layouts h call ≡ answer_by layouts (live_by st) (dead_by st) call
  answer-same layouts call = λ i. answer_by layouts (λ a w. live-same a w i) (λ a w. dead-same a w i) call

-- ---- an access

-- a body with other cells, if b
abbrev recell : Bool → (List (Cell ℕ) → List (Cell ℕ)) → Body ℕ → Body ℕ
recell b f o = record { elem = o.elem; fixed = o.fixed; cells = cond b (f o.cells) o.cells }

-- all that pass q pass p alike
find-with_cells_if : (q is : Name → Bool) (f : List (Cell ℕ) → List (Cell ℕ)) (b : Bool) → ((n : Name) → q n ≡ true → is n ≡ b) → (os : List (Object Name ℕ))
    → option_map (λ o. o.body) (find (λ o. q o.name) (map (with_cells_if is f) os)) ≡ option_map (recell b f) (option_map (λ o. o.body) (find (λ o. q o.name) os))
find-with_cells_if q is f b same [] = refl
find-with_cells_if q is f b same (o ∷ os) = go (q o.name) refl (find-with_cells_if q is f b same os)
  where
    go : (c : Bool) → q o.name ≡ c → option_map (λ o. o.body) (find (λ o. q o.name) (map (with_cells_if is f) os)) ≡ option_map (recell b f) (option_map (λ o. o.body) (find (λ o. q o.name) os))
        → option_map (λ o. o.body) (cond c (Some (with_cells_if is f o)) (find (λ o. q o.name) (map (with_cells_if is f) os))) ≡ option_map (recell b f) (option_map (λ o. o.body) (cond c (Some o) (find (λ o. q o.name) os)))
    go true e rest = ap (λ c. Some (recell c f o.body)) (same o.name e)
    go false e rest = rest

-- names that pass for (t, v) pass for (s, w) exactly where the two are one
at-other : (s t : Slot) (v w : ℕ) (n : Name) → is_at (Some t) v n ≡ true → is_at (Some s) w n ≡ (is_slot t s && (v == w))
at-other s t v w n e =
    let parts = and_parts _ _ e in
    λ i. is_slot (is_slot-is n.slot t parts.0 i) s && (eqb-true _ _ parts.1 i == w)

live_at-version : (p : SlotState) (w : ℕ) (b : Body ℕ) → live_at p w ≡ Some b → (w ≡ p.versions) × (p.body ≡ Some b)
live_at-version p w b e = go (w == p.versions) refl e
  where
    go : (c : Bool) → w == p.versions ≡ c → cond c p.body None ≡ Some b → (w ≡ p.versions) × (p.body ≡ Some b)
    go true c e = (eqb-true _ _ c, e)
    go false c e = cc

-- all that pass q pass is alike
module _ {X : Type 0} (q is : X → Bool) (b : Bool) (same : (x : X) → q x ≡ true → is x ≡ b) where
  find-without : (xs : List X) → find q (filter (λ x. not (is x)) xs) ≡ cond b None (find q xs)
  find-without [] = go b
    where
      go : (b : Bool) → ◌≡◌ {A = Option X} None (cond b None None)
      go true = refl
      go false = refl
  find-without (x ∷ xs) = grind (arith, same x, find-without xs)

  any-passing : (xs : List X) → list_any q (filter is xs) ≡ (b && is_some (find q xs))
  any-passing [] = go b
    where
      go : (b : Bool) → false ≡ (b && false)
      go true = refl
      go false = refl
  any-passing (x ∷ xs) = grind (arith, same x, any-passing xs)

any-append : {X : Type 0} (q : X → Bool) (xs ys : List X) → list_any q (xs ++ ys) ≡ (list_any q xs || list_any q ys)
any-append q [] ys = refl
any-append q (x ∷ xs) ys = grind (arith, any-append q xs ys)

any-map : {X Y : Type 0} (f : X → Y) (q : Y → Bool) (xs : List X) → list_any q (map f xs) ≡ list_any (λ x. q (f x)) xs
any-map f q [] = refl
any-map f q (x ∷ xs) = ap (λ b. q (f x) || b) (any-map f q xs)

-- one that is found is counted
count-found : {X : Type 0} (q : X → Bool) (xs : List X) → is_some (find q xs) ≡ true → 1 ≤ length (filter q xs)
count-found q [] e = cc
count-found q (x ∷ xs) e = grind (arith, count-found q xs)

option_map-cond : {X Y : Type 0} (f : X → Y) (b : Bool) (o : Option X) → option_map f (cond b None o) ≡ cond b None (option_map f o)
option_map-cond f true o = refl
option_map-cond f false o = refl

eqb-sym : (m n : ℕ) → (m == n) ≡ (n == m)
eqb-sym m n = grind (arith, nat_tests)

is_slot-sym : (s t : Slot) → is_slot s t ≡ is_slot t s
is_slot-sym s t = λ i. eqb-sym s.region t.region i && eqb-sym s.number t.number i

is_some-map : {X Y : Type 0} (f : X → Y) (o : Option X) → is_some (option_map f o) ≡ is_some o
is_some-map f None = refl
is_some-map f (Some x) = refl

died-at : (old p : SlotState) (v w : ℕ) → w ≡ old.versions → (d : Bool) → (d ≡ true → p ≡ old)
    → cond (d && (v == w)) None (live_at p v) ≡ live_at (cond d (record { versions = old.versions; body = None }) p) v
died-at old p v w last false same = refl
died-at old p v w last true same =
    (λ i. cond (v == last i) None (cond (v == (same refl i).versions) (same refl i).body None)) ∙ go (v == old.versions)
  where
    go : (c : Bool) → ◌≡◌ {A = Option (Body ℕ)} (cond c None (cond c old.body None)) (cond c None None)
    go true = refl
    go false = refl

dead-died-at : (old p : SlotState) (b : Body ℕ) (v w : ℕ) → w ≡ old.versions → 0 < w → old.body ≡ Some b → (d : Bool) → (d ≡ true → p ≡ old)
    → (((d && (v == w)) && is_some (live_at p v)) || dead_at p v) ≡ dead_at (cond d (record { versions = old.versions; body = None }) p) v
dead-died-at old p b v w last some is false same = refl
dead-died-at old p b v w last some is true same =
    (λ i. ((v == last i) && is_some (live_at (same refl i) v)) || dead_at (same refl i) v)
    ∙ (λ i. ((v == old.versions) && is_some (cond (v == old.versions) (is i) None)) || (nat_lt 0 v && (nat_lt v old.versions || ((v == old.versions) && not (is_some (is i))))))
    ∙ go (v == old.versions) refl
  where
    go : (c : Bool) → v == old.versions ≡ c
        → ((c && is_some (cond c (Some b) None)) || (nat_lt 0 v && (nat_lt v old.versions || (c && false)))) ≡ (nat_lt 0 v && (nat_lt v old.versions || (c && true)))
    go true e =
        let v_is : v ≡ old.versions = eqb-true _ _ e in
        let above : 0 < v = omega arith in
        sym (and_from _ _ (lt-ltb _ _ above) (or_right _ _ refl))
    go false e = refl

recell-same : (f : List (Cell ℕ) → List (Cell ℕ)) (o : Option (Body ℕ)) → option_map (recell false f) o ≡ o
recell-same f None = refl
recell-same f (Some b) = refl

-- the place with other cells, at a version
recell-at : (f : List (Cell ℕ) → List (Cell ℕ)) (old p : SlotState) (b : Body ℕ) (v w : ℕ) → w ≡ old.versions → old.body ≡ Some b → (d : Bool) → (d ≡ true → p ≡ old)
    → option_map (recell (d && (v == w)) f) (live_at p v) ≡ live_at (cond d (record { versions = old.versions; body = Some (recell true f b) }) p) v
recell-at f old p b v w last is false same = recell-same f (live_at p v)
recell-at f old p b v w last is true same =
    (λ i. option_map (recell (v == last i) f) (cond (v == (same refl i).versions) (same refl i).body None))
    ∙ (λ i. option_map (recell (v == old.versions) f) (cond (v == old.versions) (is i) None))
    ∙ go (v == old.versions)
  where
    go : (c : Bool) → option_map (recell c f) (cond c (Some b) None) ≡ cond c (Some (recell true f b)) None
    go true = refl
    go false = refl

state-same : (st : State) (t s : Slot) → is_slot t s ≡ true → state_of st t ≡ state_of st s
state-same st t s e = ap (state_of st) (is_slot-is t s e)

module _ (st now : State) (h : Words) (k : StandsFor st h) (s : Slot) (home : s.region ≡ st.region) (w : ℕ) (b : Body ℕ) (found : live_at (state_of st s) w ≡ Some b) where
  -- what was found is the place's last version
  last : w ≡ (state_of st s).versions
  last = (live_at-version (state_of st s) w b found).0

  body-is : (state_of st s).body ≡ Some b
  body-is = (live_at-version (state_of st s) w b found).1

  one-if-body : one_if (is_some (state_of st s).body) ≡ 1
  one-if-body = ap (λ o. one_if (is_some o)) body-is

  module _ (f : List (Cell ℕ) → List (Cell ℕ)) (c : ChangesSlot st now s (record { versions = (state_of st s).versions; body = Some (recell true f b) })) where
    -- the slots' counts stay
    some-same : (t : Slot) → is_some (state_of st t).body ≡ is_some (state_of now t).body
    some-same t = go (is_slot t s) refl ∙ ap (λ p. is_some p.body) (sym (c.state t))
      where
        go : (d : Bool) → is_slot t s ≡ d → is_some (state_of st t).body ≡ is_some (cond d (record { versions = (state_of st s).versions; body = Some (recell true f b) }) (state_of st t)).body
        go true e = ap (λ p. is_some p.body) (state-same st t s e) ∙ ap is_some body-is
        go false e = refl

    versions-same : (t : Slot) → (state_of st t).versions ≡ (state_of now t).versions
    versions-same t = go (is_slot t s) refl ∙ ap (λ p. p.versions) (sym (c.state t))
      where
        go : (d : Bool) → is_slot t s ≡ d → (state_of st t).versions ≡ (cond d (record { versions = (state_of st s).versions; body = Some (recell true f b) }) (state_of st t)).versions
        go true e = ap (λ p. p.versions) (state-same st t s e)
        go false e = refl

    pub stands-cells : now.resting ≡ st.resting → StandsFor now (with_cells (is_at (Some s) w) f h)
    stands-cells rested = record {
      live = λ t v.
          find-with_cells_if (is_at (Some t) v) (is_at (Some s) w) f (is_slot t s && (v == w)) (at-other s t v w) h.live
          ∙ ap (option_map (recell (is_slot t s && (v == w)) f)) (k.live t v)
          ∙ recell-at f (state_of st s) (state_of st t) b v w last body-is (is_slot t s) (state-same st t s)
          ∙ ap (λ p. live_at p v) (sym (c.state t));
      dead = λ t v. k.dead t v ∙ (λ i. nat_lt 0 v && (nat_lt v (versions-same t i) || ((v == versions-same t i) && not (some-same t i))));
      slot_live = λ t. live_count-cells (is_in t) h (is_at (Some s) w) f ∙ k.slot_live t ∙ ap one_if (some-same t);
      slot_made = λ t. ap (λ n. n + dead_count (is_in t) h) (live_count-cells (is_in t) h (is_at (Some s) w) f) ∙ k.slot_made t ∙ versions-same t;
      region_live =
          live_count-cells (is_of region now.region) h (is_at (Some s) w) f ∙ ap (λ r. live_count (is_of region r) h) c.region_is ∙ k.region_live
          ∙ omega (arith, c.live, one-if-body);
      region_made =
          ap (λ n. n + dead_count (is_of region now.region) h) (live_count-cells (is_of region now.region) h (is_at (Some s) w) f)
          ∙ ap (λ r. made_count (is_of region r) h) c.region_is ∙ k.region_made ∙ omega (arith, c.made);
      at_rest = rested ∙ k.at_rest ∙ ap (λ r. reverse (map slot_number (resting region r h))) (sym c.region_is);
    }

  -- ---- a death

  module _ (c : ChangesSlot st now s (record { versions = (state_of st s).versions; body = None })) where
    versions-kept : (t : Slot) → (state_of st t).versions ≡ (state_of now t).versions
    versions-kept t = go (is_slot t s) refl ∙ ap (λ p. p.versions) (sym (c.state t))
      where
        go : (d : Bool) → is_slot t s ≡ d → (state_of st t).versions ≡ (cond d (record { versions = (state_of st s).versions; body = None }) (state_of st t)).versions
        go true e = ap (λ p. p.versions) (state-same st t s e)
        go false e = refl

    here-count : length (filter (λ o. is_at (Some s) w o.name) h.live) ≡ 1
    here-count =
        let some : is_some (find (λ o. is_at (Some s) w o.name) h.live) ≡ true
        = sym (is_some-map (λ o. o.body) (find (λ o. is_at (Some s) w o.name) h.live)) ∙ ap is_some (k.live s w ∙ found) in
        let low = count-found (λ o. is_at (Some s) w o.name) h.live some in
        let high = length-filter_within (λ o. is_at (Some s) w o.name) (λ o. is_in s o.name) (λ o e. (and_parts _ _ e).0) h.live in
        omega (arith, low, high, k.slot_live s, one-if-body)

    -- those that die are in the slot, and in the region
    here-in : (q : Name → Bool) → Within (is_at (Some s) w) q → length (filter (λ o. q o.name) (filter (λ o. is_at (Some s) w o.name) h.live)) ≡ 1
    here-in q within =
        ap length (filter-comm (λ o. q o.name) (λ o. is_at (Some s) w o.name) h.live ∙ filter-within (λ o. is_at (Some s) w o.name) (λ o. q o.name) (λ o e. within o.name e) h.live) ∙ here-count

    split : (q : Name → Bool) → live_count q (with_dead (is_at (Some s) w) h) + length (filter (λ o. q o.name) (filter (λ o. is_at (Some s) w o.name) h.live)) ≡ live_count q h
    split q = length-filter_split (λ o. is_at (Some s) w o.name) (λ o. q o.name) h.live

    live_in-died : (t : Slot) → live_count (is_in t) (with_dead (is_at (Some s) w) h) ≡ one_if (is_some (state_of now t).body)
    live_in-died t = go (is_slot t s) refl ∙ ap (λ p. one_if (is_some p.body)) (sym (c.state t))
      where
        go : (d : Bool) → is_slot t s ≡ d → live_count (is_in t) (with_dead (is_at (Some s) w) h) ≡ one_if (is_some (cond d (record { versions = (state_of st s).versions; body = None }) (state_of st t)).body)
        go true e =
            let same : t ≡ s = is_slot-is t s e in
            let inside : Within (is_at (Some s) w) (is_in t) = λ n is. subst (λ u. is_in u n ≡ true) (sym same) (and_parts _ _ is).0 in
            let before : live_count (is_in t) h ≡ 1 = k.slot_live t ∙ ap (λ p. one_if (is_some p.body)) (state-same st t s e) ∙ one-if-body in
            omega (arith, split (is_in t), here-in (is_in t) inside, before)
        go false e =
            let apart : (o : Object Name ℕ) → is_at (Some s) w o.name ≡ true → is_in t o.name ≡ false
            = λ o is. ap (λ u. is_slot u t) (is_slot-is o.name.slot s (and_parts _ _ is).0) ∙ is_slot-sym s t ∙ e in
            let none : length (filter (λ o. is_in t o.name) (filter (λ o. is_at (Some s) w o.name) h.live)) ≡ 0 = ap length (filter-apart (λ o. is_at (Some s) w o.name) (λ o. is_in t o.name) apart h.live) in
            omega (arith, split (is_in t), none, k.slot_live t)

    pub stands-died : 0 < w → now.resting ≡ last_resting (slots st.region) (st.resting ++ s.number ∷ []) → StandsFor now (with_dead (is_at (Some s) w) h)
    stands-died some laid = record {
      live = λ t v.
          ap (option_map (λ o. o.body)) (find-without (λ o. is_at (Some t) v o.name) (λ o. is_at (Some s) w o.name) (is_slot t s && (v == w)) (λ o e. at-other s t v w o.name e) h.live)
          ∙ option_map-cond (λ o. o.body) (is_slot t s && (v == w)) (find (λ o. is_at (Some t) v o.name) h.live)
          ∙ ap (λ o. cond (is_slot t s && (v == w)) None o) (k.live t v)
          ∙ died-at (state_of st s) (state_of st t) v w last (is_slot t s) (state-same st t s)
          ∙ ap (λ p. live_at p v) (sym (c.state t));
      dead = λ t v.
          any-append (is_at (Some t) v) (map (λ o. o.name) (filter (λ o. is_at (Some s) w o.name) h.live)) h.dead
          ∙ (λ i. (any-map (λ o. o.name) (is_at (Some t) v) (filter (λ o. is_at (Some s) w o.name) h.live)
          ∙ any-passing (λ o. is_at (Some t) v o.name) (λ o. is_at (Some s) w o.name) (is_slot t s && (v == w)) (λ o e. at-other s t v w o.name e) h.live
          ∙ ap (λ x. (is_slot t s && (v == w)) && x) (sym (is_some-map (λ o. o.body) (find (λ o. is_at (Some t) v o.name) h.live)) ∙ ap is_some (k.live t v))) i || k.dead t v i)
          ∙ dead-died-at (state_of st s) (state_of st t) b v w last some body-is (is_slot t s) (state-same st t s)
          ∙ ap (λ p. dead_at p v) (sym (c.state t));
      slot_live = live_in-died;
      slot_made = λ t. made_count-died (is_in t) h (is_at (Some s) w) ∙ k.slot_made t ∙ versions-kept t;
      region_live =
          let inside : Within (is_at (Some s) w) (is_of region now.region) = λ n is. eq-eqb _ _ (ap (λ u. u.region) (is_slot-is n.slot s (and_parts _ _ is).0) ∙ home ∙ sym c.region_is) in
          let before : live_count (is_of region now.region) h ≡ live_objects st = ap (λ r. live_count (is_of region r) h) c.region_is ∙ k.region_live in
          omega (arith, split (is_of region now.region), here-in (is_of region now.region) inside, before, c.live, one-if-body);
      region_made = made_count-died (is_of region now.region) h (is_at (Some s) w) ∙ ap (λ r. made_count (is_of region r) h) c.region_is ∙ k.region_made ∙ omega (arith, c.made);
      at_rest =
          let before : st.resting ≡ reverse (map slot_number (resting region s.region h)) = k.at_rest ∙ ap (λ r. reverse (map slot_number (resting region r h))) (sym home) in
          laid ∙ ap (λ r. last_resting (slots r) (st.resting ++ s.number ∷ [])) (sym home)
          ∙ at-rest-died h s w here-count st.resting before
          ∙ ap (λ r. reverse (map slot_number (resting region r (with_dead (is_at (Some s) w) h)))) (home ∙ sym c.region_is);
    }

-- ---- an allocation

find-push : {X : Type 0} (p : X → Bool) (xs : List X) (o : X) → find p (xs ++ o ∷ []) ≡ cond (is_some (find p xs)) (find p xs) (cond (p o) (Some o) None)
find-push p [] o = refl
find-push p (x ∷ xs) o = grind (arith, find-push p xs o)

none-is : {X : Type 0} (o : Option X) → is_some o ≡ false → o ≡ None
none-is None e = refl
none-is (Some x) e = cc

dead-made-at : (vs v : ℕ) → (nat_lt 0 v && (nat_lt v vs || ((v == vs) && true))) ≡ (nat_lt 0 v && (nat_lt v (1 + vs) || ((v == (1 + vs)) && false)))
dead-made-at vs v = grind (arith, nat_tests)

module _ (st now : State) (h : Words) (k : StandsFor st h) (o : Object Name ℕ) (home : o.name.slot.region ≡ st.region) (free : (state_of st o.name.slot).body ≡ None) (next : o.name.version ≡ 1 + (state_of st o.name.slot).versions) (c : ChangesSlot st now o.name.slot (record { versions = 1 + (state_of st o.name.slot).versions; body = Some o.body })) where
  none-at : (p : SlotState) (v : ℕ) → p ≡ state_of st o.name.slot → live_at p v ≡ None
  none-at p v e = ap (λ p. live_at p v) e ∙ (λ i. cond (v == (state_of st o.name.slot).versions) (free i) None) ∙ cond-same (v == (state_of st o.name.slot).versions)
    where
      cond-same : (b : Bool) → ◌≡◌ {A = Option (Body ℕ)} (cond b None None) None
      cond-same true = refl
      cond-same false = refl

  live-made-at : (p : SlotState) (v : ℕ) (d : Bool) → (d ≡ true → p ≡ state_of st o.name.slot) → (q : Option (Object Name ℕ)) → option_map (λ o. o.body) q ≡ live_at p v
      → option_map (λ o. o.body) (cond (is_some q) q (cond (d && (o.name.version == v)) (Some o) None)) ≡ live_at (cond d (record { versions = 1 + (state_of st o.name.slot).versions; body = Some o.body }) p) v
  live-made-at p v false same None e = e
  live-made-at p v false same (Some x) e = e
  live-made-at p v true same None e =
      option_map-cond' (o.name.version == v) ∙ (λ i. cond ((eqb-sym o.name.version v ∙ (λ j. v == next j)) i) (Some o.body) None)
    where
      option_map-cond' : (b : Bool) → option_map (λ (o : Object Name ℕ). o.body) (cond b (Some o) None) ≡ cond b (Some o.body) None
      option_map-cond' true = refl
      option_map-cond' false = refl
  live-made-at p v true same (Some x) e = absurd (none-some x.body (sym (e ∙ none-at p v (same refl))))

  dead-at-made : (p : SlotState) (v : ℕ) (d : Bool) → (d ≡ true → p ≡ state_of st o.name.slot)
      → dead_at p v ≡ dead_at (cond d (record { versions = 1 + (state_of st o.name.slot).versions; body = Some o.body }) p) v
  dead-at-made p v false same = refl
  dead-at-made p v true same =
      ap (λ p. dead_at p v) (same refl)
      ∙ (λ i. nat_lt 0 v && (nat_lt v (state_of st o.name.slot).versions || ((v == (state_of st o.name.slot).versions) && not (is_some (free i)))))
      ∙ dead-made-at (state_of st o.name.slot).versions v

  in-slot : (t : Slot) → is_in t o.name ≡ is_slot t o.name.slot
  in-slot t = is_slot-sym o.name.slot t

  live_in-made : (t : Slot) → live_count (is_in t) (with_new o h) ≡ one_if (is_some (state_of now t).body)
  live_in-made t = live_count-made (is_in t) h o ∙ (λ i. k.slot_live t i + one_if (in-slot t i)) ∙ go (is_slot t o.name.slot) (state-same st t o.name.slot) ∙ ap (λ p. one_if (is_some p.body)) (sym (c.state t))
    where
      go : (d : Bool) → (d ≡ true → state_of st t ≡ state_of st o.name.slot) → one_if (is_some (state_of st t).body) + one_if d ≡ one_if (is_some (cond d (record { versions = 1 + (state_of st o.name.slot).versions; body = Some o.body }) (state_of st t)).body)
      go true same = ap (λ n. n + 1) (ap (λ p. one_if (is_some p.body)) (same refl) ∙ ap (λ b. one_if (is_some b)) free)
      go false same = omega arith

  made-made : (q : Name → Bool) → made_count q (with_new o h) ≡ made_count q h + one_if (q o.name)
  made-made q = omega (arith, live_count-made q h o)

  made_in-made : (t : Slot) → made_count (is_in t) (with_new o h) ≡ (state_of now t).versions
  made_in-made t = made-made (is_in t) ∙ (λ i. k.slot_made t i + one_if (in-slot t i)) ∙ go (is_slot t o.name.slot) (state-same st t o.name.slot) ∙ ap (λ p. p.versions) (sym (c.state t))
    where
      go : (d : Bool) → (d ≡ true → state_of st t ≡ state_of st o.name.slot) → (state_of st t).versions + one_if d ≡ (cond d (record { versions = 1 + (state_of st o.name.slot).versions; body = Some o.body }) (state_of st t)).versions
      go true same = ap (λ p. p.versions + 1) (same refl) ∙ omega arith
      go false same = omega arith

  region-one : one_if (is_of region now.region o.name) ≡ 1
  region-one = ap one_if (eq-eqb _ _ (home ∙ sym c.region_is))

  pub stands-made : now.resting ≡ st.resting → StandsFor now (with_new o h)
  stands-made rested = record {
    live = λ t v. ap (option_map (λ o. o.body)) (find-push (λ o. is_at (Some t) v o.name) h.live o)
        ∙ (λ i. option_map (λ o. o.body) (cond (is_some (find (λ o. is_at (Some t) v o.name) h.live)) (find (λ o. is_at (Some t) v o.name) h.live) (cond (in-slot t i && (o.name.version == v)) (Some o) None)))
        ∙ live-made-at (state_of st t) v (is_slot t o.name.slot) (state-same st t o.name.slot) (find (λ o. is_at (Some t) v o.name) h.live) (k.live t v)
        ∙ ap (λ p. live_at p v) (sym (c.state t));
    dead = λ t v. k.dead t v ∙ dead-at-made (state_of st t) v (is_slot t o.name.slot) (state-same st t o.name.slot) ∙ ap (λ p. dead_at p v) (sym (c.state t));
    slot_live = live_in-made;
    slot_made = made_in-made;
    region_live =
        let before : live_count (is_of region now.region) h ≡ live_objects st = ap (λ r. live_count (is_of region r) h) c.region_is ∙ k.region_live in
        omega (arith, live_count-made (is_of region now.region) h o, region-one, before, c.live, ap (λ b. one_if (is_some b)) free);
    region_made =
        let before : made_count (is_of region now.region) h ≡ all_versions st = ap (λ r. made_count (is_of region r) h) c.region_is ∙ k.region_made in
        omega (arith, made-made (is_of region now.region), region-one, before, c.made);
    at_rest = rested ∙ k.at_rest ∙ ap (λ r. reverse (map slot_number (resting region r h))) (sym c.region_is);
  }
