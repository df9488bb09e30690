-- The rule at the start, and what it gives at the end.
use Rattle.std.proofs.Common.{Box, ◌≡◌, ◌≢◌, ℕ, zero, suc, ◌+◌, ◌<◌, ◌≤◌, true, false, List, [], ◌∷◌, ◌++◌, map, length}
use Rattle.std.proofs.Common.{get_or, set, max, sym, refl, ap, ◌∙◌, subst, arith, Option, Some, length-append, take}
use Rattle.std.proofs.Common.{add-one, replicate}
use Rattle.std.proofs.lemmas.List.{length-map}
use Rattle.std.specs.List.{AllByRecursion, All}
use Rattle.std.specs.Box.{box_value}
use Rattle.std.proofs.lemmas.List.Elements.{All-nil, All-cons, All-append}
use Rattle.atomic_table.specs.Seated.{TableId}
use mathlib.Core.Logic.{dite}
use native.Mathlib.Decide.{ℕ_discrete, dec_le}
use mathlib.Core.Option.{some, some-injective, some-ne-none, Option as Maybe}
use lib.ListN.{get_elem?}
use Rattle.atomic_table.specs.Table.{State, opening}
use Rattle.atomic_table.proofs.Lists.{at_map}
use Rattle.heap_model.specs.declared.calls.Entry.{Entry}
use Rattle.heap_model.specs.Legal.{own, of_region}
use Rattle.heap_model.specs.Order.{StampsRise}
use Rattle.region_lock.specs.Entries.{last_stamp, IsMadeBy}
use Rattle.region_lock.specs.Boxes.{boxed}
use Rattle.region_lock.specs.Weights.{total, below}
use Rattle.region_lock.specs.Rule.{view, nobody, counter, weigh, Fits, IsValueAt, Orderly}
use Rattle.region_lock.specs.Known.{Known, newcomer, newcomers}
use Rattle.region_lock.specs.Closing.{Closes, AllThere}
use Rattle.region_lock.specs.Passes.{pass_view}
use Rattle.region_lock.specs.Plays.{joined}
use Rattle.region_lock.specs.declared.view.View.{View}
use Rattle.region_lock.proofs.Sums.{total-set, term_le, terms_le, only, only-same, only-other, below-only}

pub there : {A : Type 0} (l : List A) (i : ℕ) → i < length l → (a : A) × (get_elem? l i ≡ some a)
there [] i h = absurd (omega arith)
there (x ∷ xs) zero h = (x, refl)
there (x ∷ xs) (suc i) h = there xs i (omega arith)

nothing_made : (n count : ℕ) → IsMadeBy n count []
nothing_made n count = record { by = tt; numbered = tt; rises = tt; inside = tt }

pub opens : {W P : Type 0} (region : W → ℕ) (list : W → List Entry) (plain : W → P) (passes budget : ℕ) (ws : List ℕ)
    (values : List W) → length ws ≡ suc (length values) → ((i : ℕ) → get_or ws i 0 ≡ 0)
    → ((k : ℕ) (y : W) → get_elem? values k ≡ some y → (region y ≡ suc k) × (list y ≡ [])) → passes ≤ 16
    → budget ≤ 4294967296
    → Orderly region list plain (map plain values) passes budget (opening ws (map Some values) (counter 0))
opens {W} region list plain passes budget ws values wide quiet fresh few small =
    let homes : List (Maybe (Option W)) = map some (map Some values) in
    let long : length homes ≡ length values = length-map (map Some values) some ∙ length-map values Some in
    record {
      made = 0;
      lists = λ _. [];
      held = λ _. [];
      noter = λ _. 0;
      few = (omega arith, few, small);
      wide = wide ∙ ap suc (sym long);
      home = λ k h e. let t = there values k (subst (λ (n : ℕ). k < n) long h) in let f = fresh k t.0 t.1 in (
        t.0,
        at_map some (map Some values) k (Some t.0) (at_map Some values k t.0 t.1),
        (f.0, f.1, at_map plain values k t.0 t.1),
      );
      out = λ k h e. absurd (e (quiet (suc k)));
      fits = one;
      counts = record { keeper = 0; there = (counter 0, refl, refl); only = first };
      once = λ h. refl;
      mine = λ n. nothing_made n (length homes);
      unmade = λ n h. refl;
      short = λ n. omega arith;
      parts = λ k n h. refl;
      listed = λ k h. (tt, tt);
      known = λ k h. omega arith;
    }
  where
    first : (j : ℕ) (v : View) → get_elem? (counter 0 ∷ []) j ≡ some v → v.keeps ≡ true → (j ≡ 0) × (v.made ≡ 0)
    first zero v e k = (refl, ap (λ (x : View). x.made) (sym (some-injective (counter 0) v e)))
    first (suc j) v e k = absurd (some-ne-none v (sym e))

    one : (j : ℕ) (v : View) → get_elem? (counter 0 ∷ []) j ≡ some v → Fits 0 0 (λ _. []) (λ _. []) (λ _. 0) ws j v
    one zero v e = subst (λ (x : View). Fits 0 0 (λ _. []) (λ _. []) (λ _. 0) ws 0 x) (some-injective _ _ e)
        record { owns = tt; late = omega arith; notes = λ k z. absurd (omega arith) }
    one (suc j) v e = absurd (some-ne-none v (sym e))

abbrev pair : ℕ → List Entry → ℕ × List Entry
pair a b = (a, b)

-- what a pass owns
abbrev pub owned : List Known → List (ℕ × List Entry)
owned ps = map (λ p. (p.worker, p.list)) ps

weigh_one : (ps : List Known) → total (λ o. 1) (owned ps) ≡ length ps
weigh_one [] = refl
weigh_one (p ∷ ps) = omega (arith, weigh_one ps)

weigh_none : (m : ℕ) (ps : List Known) → AllByRecursion (λ p. p.worker ≢ m) ps → total (λ o. only m o.0) (owned ps) ≡ 0
weigh_none m [] h = refl
weigh_none m (p ∷ ps) h = omega (arith, only-other m p.worker h.0, weigh_none m ps h.1)

below-one : (n : ℕ) → below (λ _. 1) n ≡ n
below-one zero = refl
below-one (suc n) = omega (arith, below-one n)

-- a weight at most another's
total_le : {A : Type 0} (g h : A → ℕ) (l : List A) → ((x : A) → g x ≤ h x) → total g l ≤ total h l
total_le g h [] le = omega arith
total_le g h (x ∷ xs) le = omega (arith, le x, total_le g h xs le)

only_le : (m x : ℕ) → only m x ≤ 1
only_le m x = dite (ℕ_discrete x m) (λ e. omega (arith, ap (only m) e, only-same m))
    (λ ne. omega (arith, only-other m x ne))

-- what the rule says of the list and the number of a pass
of_pass : (made last : ℕ) (lists : ℕ → List Entry) (ps : List Known) → AllByRecursion
    (λ o. (o.1 ≡ lists o.0) × (o.0 < made) × (last_stamp o.1 ≤ last)) (owned ps)
    → (j : ℕ) (p : Known) → get_elem? ps j ≡ some p → (p.list ≡ lists p.worker) × (p.worker < made)
of_pass made last lists [] h j p e = absurd (some-ne-none p (sym e))
of_pass made last lists (q ∷ ps) h zero p e =
    subst (λ (x : Known). (x.list ≡ lists x.worker) × (x.worker < made)) (some-injective q p e) (h.0.0, h.0.1)
of_pass made last lists (q ∷ ps) h (suc j) p e = of_pass made last lists ps h.1 j p e

module _ {W P : Type 0} (region : W → ℕ) (list : W → List Entry) (plain : W → P) (plains : List P) (passes budget : ℕ)
    (s : State (Option W) View) (o : Orderly region list plain plains passes budget s) (id : ℕ) (v : View)
    (ps : List Known)
    (me : get_elem? s.views id ≡ some v) (has : v.owns ≡ owned ps) (all : length ps ≡ passes)
    (idle : v.region ≡ 0) where
  whole : (weigh (λ _. 1) v ≡ o.made) × (o.made ≡ passes)
  whole =
      let a : weigh (λ _. 1) v ≡ length ps = ap (λ (x : List (ℕ × List Entry)). total (λ o. 1) x) has ∙ weigh_one ps in
      let b = total-set (weigh (λ _. 1)) s.views id v nobody me in
      let c : total (weigh (λ _. 1)) s.views ≡ o.made = o.once (λ _. 1) ∙ below-one o.made in
      (omega (arith, o.few.0), omega (arith, o.few.0))

  -- each region is home
  quiet : (k : ℕ) → k < length s.homes → get_or s.words (suc k) 0 ≡ 0
  quiet k h = dite (ℕ_discrete (get_or s.words (suc k) 0) 0) (λ e. e) (λ busy.
      let t = o.out k h busy in
      let u = t.0 in
      let n = (o.fits (o.noter k) u t.1).notes k t.2 in
      let one : weigh (λ _. 1) u ≡ 1 = ap (λ (x : List (ℕ × List Entry)). total (λ o. 1) x) n.2.2 in
      let c : total (weigh (λ _. 1)) s.views ≡ o.made = o.once (λ _. 1) ∙ below-one o.made in
      let other : o.noter k ≢ id = λ same. let is : v ≡ u = some-injective v u
      (sym me ∙ (ap (λ (x : ℕ). get_elem? s.views x) (sym same) ∙ t.1)) in absurd
      (omega (arith, ap (λ (x : View). x.region) is, t.2)) in
      absurd (omega (arith, terms_le (weigh (λ _. 1)) s.views id (o.noter k) v u other me t.1, whole.0)))

  -- a number of no pass was not made
  unknown : (m : ℕ) → AllByRecursion (λ p. p.worker ≢ m) ps → o.lists m ≡ []
  unknown m none-of = dite (dec_le o.made m) (o.unmade m) (λ below-it.
      let vs = set s.views id nobody in
      let a : weigh (only m) v ≡ 0 = ap (λ (x : List (ℕ × List Entry)). total (λ o. only m o.0) x) has
      ∙ weigh_none m ps none-of in
      let b = total-set (weigh (λ _. 1)) s.views id v nobody me in
      let c : total (weigh (λ _. 1)) s.views ≡ o.made = o.once (λ _. 1) ∙ below-one o.made in
      let d = total-set (weigh (only m)) s.views id v nobody me in
      let e = total_le (weigh (only m)) (weigh (λ _. 1)) vs (λ u. total_le (λ (x : ℕ × List Entry). only m x.0)
      (λ _. 1) u.owns (λ x. only_le m x.0)) in
      let f : total (weigh (only m)) s.views ≡ 1 = o.once (only m) ∙ (below-only m o.made).2 (omega arith) in
      absurd (omega (arith, whole.0)))

  pub all_there : (xs : List (Option W)) → length s.homes ≡ length xs →
      ((k : ℕ) (y : Option W) → get_elem? s.homes k ≡ some (some y) → get_elem? xs k ≡ some y) → AllThere xs
  all_there xs long homes-are k h = let near : k < length s.homes = omega arith in let t = o.home k near
      (quiet k near) in (t.0, homes-are k (Some t.0) t.1)

  module _ (xs : List (Option W)) (values : List W) (long : length s.homes ≡ length xs)
      (homes-are : (k : ℕ) (y : Option W) → get_elem? s.homes k ≡ some (some y) → get_elem? xs k ≡ some y)
      (same : xs ≡ map Some values) (counts : length plains ≡ length values) where
    at_home : (k : ℕ) (y : W) → get_elem? values k ≡ some y → (k < length s.homes)
        × IsValueAt region list plain plains k (o.held k) y
    at_home k y e =
        let size : length s.homes ≡ length values = long ∙ (ap length same ∙ length-map values Some) in
        let near : k < length s.homes = omega (arith, inside values k y e) in
        let t = o.home k near (quiet k near) in
        let x : get_elem? xs k ≡ some (Some t.0) = homes-are k (Some t.0) t.1 in
        let z : get_elem? xs k ≡ some (Some y) = ap (λ (l : List (Option W)). get_elem? l k) same
        ∙ at_map Some values k y e in
        let q : Some t.0 ≡ Some y = some-injective (Some t.0) (Some y) (sym x ∙ z) in
        let is : t.0 ≡ y = cc in
        (near, subst (IsValueAt region list plain plains k (o.held k)) is t.2)
      where
        inside : (l : List W) (i : ℕ) (a : W) → get_elem? l i ≡ some a → i < length l
        inside [] i a e = absurd (some-ne-none a (sym e))
        inside (x ∷ xs) zero a e = omega arith
        inside (x ∷ xs) (suc i) a e = omega (arith, inside xs i a e)

    -- no two passes have one number
    once : (i j : ℕ) (p q : Known) → get_elem? ps i ≡ some p → get_elem? ps j ≡ some q → p.worker ≡ q.worker → i ≡ j
    once i j p q at-i at-j alike = dite (ℕ_discrete i j) (λ e. e) (λ ne.
        let os = owned ps in
        let here : get_elem? os i ≡ some (pair p.worker p.list) = at_map
        (λ (x : Known). pair x.worker x.list) ps i p at-i in
        let there : get_elem? os j ≡ some (pair q.worker q.list) = at_map
        (λ (x : Known). pair x.worker x.list) ps j q at-j in
        let mine : only p.worker p.worker ≡ 1 = only-same p.worker in
        let other : only p.worker q.worker ≡ 1 = ap (only p.worker) (sym alike) ∙ mine in
        let both = terms_le (λ (x : ℕ × List Entry). only p.worker x.0) os j i (pair q.worker q.list)
        (pair p.worker p.list) ne there here in
        let all : weigh (only p.worker) v ≡ total (λ (x : ℕ × List Entry). only p.worker x.0) os = ap
        (λ (x : List (ℕ × List Entry)). total (λ o. only p.worker o.0) x) has in
        let one = term_le (weigh (only p.worker)) s.views id v me in
        let sum : total (weigh (only p.worker)) s.views ≡ below (only p.worker) o.made = o.once (only p.worker) in
        let few = (below-only p.worker o.made).0 in
        absurd (omega arith))

    pub closes : Closes region list plain plains ps values
    closes =
        let f = o.fits id v me in
        let size : length s.homes ≡ length values = long ∙ (ap length same ∙ length-map values Some) in
        let owns = subst (AllByRecursion (λ (x : ℕ × List Entry). (x.1 ≡ o.lists x.0) × (x.0 < o.made) ×
        (last_stamp x.1 ≤ v.last))) has f.owns in
        record {
          count = sym counts;
          regions = λ k y e. (at_home k y e).1.0;
          plain_data = λ k y e. (at_home k y e).1.2;
          listed = λ k y e. let t = at_home k y e in subst (λ (l : List Entry). StampsRise l × AllByRecursion
              (λ e. e.region ≡ suc k) l) (sym t.1.1) (o.listed k t.0);
          numbers = λ j p e. let below-made = (of_pass o.made v.last o.lists ps owns j p e).1 in omega
              (arith, whole.1, all);
          distinct = once;
          made = λ j p e. subst (λ (x : ℕ × List Entry). IsMadeBy p.worker x.0 x.1)
              (λ i. (size i, sym (of_pass o.made v.last o.lists ps owns j p e).0 i)) (o.mine p.worker);
          parts = λ j p e k y at. let t = at_home k y at in ap (λ (es : List Entry). own es p.worker) t.1.1 ∙
              (o.parts k p.worker t.0 ∙ ap (of_region (suc k)) (sym (of_pass o.made v.last o.lists ps owns j p e).0));
          others = λ m none-of k y at. let t = at_home k y at in ap (λ (es : List Entry). own es m) t.1.1 ∙
              (o.parts k m t.0 ∙ ap (of_region (suc k)) (unknown m none-of));
        }

pub same_at : {W : Type 0} (xs ys : List (Option W)) (i : ℕ) (r : Option W) (y : W) → ys ≡ xs
    → get_elem? ys i ≡ some r → get_elem? xs i ≡ some (Some y) → r ≡ Some y
same_at {W} xs ys i r y e at is = some-injective r (Some y) (sym at ∙ (ap (λ (l : List (Option W)). get_elem? l i) e
    ∙ is))

take_get : {A : Type 0} (l : List A) (i : ℕ) (a : A) → get_elem? l i ≡ some a → take (suc i) l ≡ take i l ++ a ∷ []
take_get [] i a e = absurd (some-ne-none a (sym e))
take_get (x ∷ xs) zero a e = ap (λ y. y ∷ []) (some-injective x a e)
take_get (x ∷ xs) (suc i) a e = ap (λ l. x ∷ l) (take_get xs i a e)

map_snoc : {A B : Type 0} (f : A → B) (l : List A) (a : A) → map f (l ++ a ∷ []) ≡ map f l ++ f a ∷ []
map_snoc f [] a = refl
map_snoc f (x ∷ xs) a = ap (λ l. f x ∷ l) (map_snoc f xs a)

pub taken_more : {W : Type 0} (values new : List W) (xs : List (Option W)) (i : ℕ) (x : W)
    → map Some values ≡ take i xs → get_elem? xs i ≡ some (Some x) → new ≡ values ++ x ∷ [] → map Some new ≡ take
    (i + 1) xs
taken_more {W} values new xs i x e at is =
    ap (map Some) is ∙ (map_snoc Some values x ∙ (ap (λ (l : List (Option W)). l ++ Some x ∷ []) e ∙
    (sym (take_get xs i (Some x) at) ∙ ap (λ (n : ℕ). take n xs) (sym (add-one i)))))

pub at_from : {W : Type 0} (xs ys : List (Option W)) (i : ℕ) (r : Option W) (y : W) → ys ≡ xs
    → get_elem? ys i ≡ some r → r ≡ Some y → get_elem? xs i ≡ some (Some y)
at_from {W} xs ys i r y e at is = ap (λ (l : List (Option W)). get_elem? l i) (sym e) ∙
    (at ∙ ap (λ (x : Option W). some x) is)

pub idle : (bs cs : List View) (v : View) (n : ℕ) (l : List Entry) (last : ℕ) → bs ≡ v ∷ [] → bs ≡ cs
    → cs ≡ pass_view n l last ∷ [] → v.region ≡ 0
idle bs cs v n l last e same is = let t : v ∷ [] ≡ pass_view n l last ∷ [] = sym e ∙
    (same ∙ is) in let u : v ≡ pass_view n l last = cc in ap (λ (x : View). x.region) u

-- one pass more was taken in
pub gathered : (ys : List Known) (p : Known) (v w u : View) → v ≡ view (owned ys) v.last 0 [] false 0
    → w ≡ pass_view p.worker p.list p.last → u ≡ joined v w → u ≡ view (owned (ys ++ p ∷ [])) u.last 0 [] false 0
gathered ys p v w u e₁ e₂ e₃ =
    let at : u ≡ view (owned (ys ++ p ∷ [])) (max v.last p.last) 0 [] false 0 =
    e₃ ∙ ((λ i. joined (e₁ i) (e₂ i)) ∙ ap (λ (os : List (ℕ × List Entry)). view os (max v.last p.last) 0 [] false 0)
    (sym (map_snoc (λ (q : Known). pair q.worker q.list) ys p))) in
    at ∙ ap (λ (x : ℕ). view (owned (ys ++ p ∷ [])) x 0 [] false 0) (sym (ap (λ (x : View). x.last) at))

zeros : (n i : ℕ) → ◌≡◌ {A = ℕ} (get_or {A = ℕ} (replicate {A = ℕ} n 0) i 0) 0
zeros zero i = refl
zeros (suc n) zero = refl
zeros (suc n) (suc i) = zeros n i

-- what is said of the values of boxes, in the boxes' order
map-boxes : {V Z B : Type 0} (f : V → B) (boxes : List (Box V Z)) → map f (map box_value boxes) ≡ map (boxed f) boxes
map-boxes f [] = refl
map-boxes f (b ∷ bs) = ap (λ (l : List _). f b.value ∷ l) (map-boxes f bs)

-- the box of a value
box_at : {V Z : Type 0} (boxes : List (Box V Z)) (k : ℕ) (y : V) → get_elem? (map box_value boxes) k ≡ some y →
    (b : Box V Z) × (get_elem? boxes k ≡ some b) × (b.value ≡ y)
box_at [] k y e = absurd (some-ne-none y (sym e))
box_at (b ∷ bs) zero y e = (b, refl, some-injective b.value y e)
box_at (b ∷ bs) (suc k) y e = box_at bs k y e

pub opens_at : {V P Z : Type 0} (region : V → ℕ) (list : V → List Entry) (plain : V → P) (passes budget : ℕ) (n : ℕ)
    (ws : List ℕ) (values now : List V) (boxes : List (Box V Z)) (slots : List (Option (Box V Z)))
    → now ≡ values → map box_value boxes ≡ values → slots ≡ map Some boxes → ws ≡ replicate n 0 → length ws ≡ suc
    (length values)
    → ((k : ℕ) (y : V) → get_elem? values k ≡ some y → (region y ≡ suc k) × (list y ≡ [])) → passes ≤ 16
    → budget ≤ 4294967296
    → Orderly (boxed region) (boxed list) (boxed plain) (map plain now) passes budget (opening ws slots (counter 0))
opens_at {V} {P} {Z} region list plain passes budget n ws values now boxes slots same in-boxes wrapped are wide fresh
    few small =
    let plains : map (boxed plain) boxes ≡ map plain now = sym (map-boxes plain boxes) ∙ ap (map plain)
    (in-boxes ∙ sym same) in
    let long : length boxes ≡ length values = sym (length-map boxes box_value) ∙ ap length in-boxes in
    subst (λ (x : List P × List (Option (Box V Z))). Orderly (boxed region) (boxed list)
    (boxed plain) x.0 passes budget (opening ws x.1 (counter 0))) (λ i. (plains i, sym wrapped i))
    (opens (boxed region) (boxed list) (boxed plain) passes budget ws boxes (wide ∙ ap suc (sym long))
    (λ i. ap (λ (l : List ℕ). get_or l i 0) are ∙ zeros n i)
    (λ k b e. fresh k b.value (ap (λ (l : List V). get_elem? l k) (sym in-boxes)
    ∙ at_map box_value boxes k b e)) few small)

-- the values closed in boxes, out of their boxes
pub closes_boxes : {V P Z : Type 0} (region : V → ℕ) (list : V → List Entry) (plain : V → P) (plains : List P)
    (passes : List Known) (boxes : List (Box V Z)) (values : List V) → values ≡ map box_value boxes
    → Closes (boxed region) (boxed list) (boxed plain) plains passes boxes
    → Closes region list plain plains passes values
closes_boxes {V} {P} {Z} region list plain plains passes boxes values is closed =
    subst (λ (l : List V). Closes region list plain plains passes l) (sym is)
    record {
      count = long ∙ closed.count;
      regions = λ k y e. let t = box_at boxes k y e in subst (λ (v : V). region v ≡ suc k) t.2
          (closed.regions k t.0 t.1);
      plain_data = λ k y e. let t = box_at boxes k y e in subst (λ (v : V). get_elem? plains k ≡ some (plain v)) t.2
          (closed.plain_data k t.0 t.1);
      listed = λ k y e. let t = box_at boxes k y e in subst (λ (v : V). StampsRise (list v) × AllByRecursion
          (λ e. e.region ≡ suc k) (list v)) t.2 (closed.listed k t.0 t.1);
      numbers = closed.numbers;
      distinct = closed.distinct;
      made = λ j p e. subst (λ (n : ℕ). IsMadeBy p.worker n p.list) (sym long) (closed.made j p e);
      parts = λ j p e k y at. let t = box_at boxes k y at in subst (λ (v : V). own (list v) p.worker ≡ of_region
          (suc k) p.list) t.2 (closed.parts j p e k t.0 t.1);
      others = λ m none-of k y at. let t = box_at boxes k y at in subst (λ (v : V). own (list v) m ≡ []) t.2
          (closed.others m none-of k t.0 t.1);
    }
  where
    long : length (map box_value boxes) ≡ length boxes
    long = length-map boxes box_value

-- what holds of each new pass
pub newcomers_all : (P : Known → Type 0) (z : TableId) (n : ℕ) → ((k : ℕ) → P (newcomer z k)) → All P (newcomers z n)
newcomers_all P z zero h = All-nil P
newcomers_all P z (suc n) h = All-append P (newcomers z n) (newcomer z n ∷ []) (newcomers_all P z n h)
    (All-cons P (newcomer z n) [] (h n) (All-nil P))

pub length-newcomers : (z : TableId) (n : ℕ) → length (newcomers z n) ≡ n
length-newcomers z zero = refl
length-newcomers z (suc n) = omega (arith, length-append (newcomers z n) (newcomer z n ∷ []), length-newcomers z n)
