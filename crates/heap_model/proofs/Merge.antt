-- Region histories and callers' orders have one common extension.
use Rattle.std.proofs.Common.{◌≡◌, ℕ, ◌<◌, Bool, true, false, cond, ◌==◌, List, [], ◌∷◌, filter, refl, sym, ap, ap₂, ◌∙◌, subst, arith, ◌⊎◌, inl, inr}
use Rattle.std.proofs.lemmas.Bool.{cases_eq, or_left, lt-ltb}
use Rattle.std.specs.List.{AllByRecursion}
use Rattle.heap_model.specs.Heap.{empty}
use Rattle.heap_model.specs.Layouts.{Layouts}
use Rattle.heap_model.specs.Legal.{own, of_region, IsLegal, CountsFrom, IsWellNumbered, InRegions}
use Rattle.heap_model.specs.Order.{before, Rises, StampsRise, IsMerge, ArePasses, IsRecord}
use Rattle.heap_model.proofs.Lists.{filter-comm}
use Rattle.heap_model.proofs.RegionsLaw.{of_region-here, of_region-there, joined}
use Rattle.heap_model.specs.declared.calls.Entry.{Entry}

-- ---- lists

nil-cons : {X : Type 0} (x : X) (xs : List X) → [] ≡ x ∷ xs → ⊥
nil-cons x xs e = cc

cons_head : {X : Type 0} (x y : X) (xs ys : List X) → x ∷ xs ≡ y ∷ ys → x ≡ y
cons_head x y xs ys e = cc

cons_tail : {X : Type 0} (x y : X) (xs ys : List X) → x ∷ xs ≡ y ∷ ys → xs ≡ ys
cons_tail x y xs ys e = cc

pub all-filter : {X : Type 0} (P : X → Type 0) (p : X → Bool) → (xs : List X) → AllByRecursion P xs → AllByRecursion P (filter p xs)
all-filter P p [] all = tt
all-filter {X} P p (x ∷ xs) all = go (p x) all.0 (all-filter P p xs all.1)
  where
    go : (b : Bool) → P x → AllByRecursion P (filter p xs) → AllByRecursion P (cond b (x ∷ filter p xs) (filter p xs))
    go true here rest = (here, rest)
    go false here rest = rest

-- ---- the order

pub before-asym : (e f : Entry) → before e f ≡ true → before f e ≡ true → ⊥
before-asym e f p q = grind (arith, p, q)

pub before-from_stamps : (e f : Entry) → e.stamp < f.stamp → before e f ≡ true
before-from_stamps e f h = or_left _ _ (lt-ltb _ _ h)

pub all-map : {P Q : Entry → Type 0} → ((e : Entry) → P e → Q e) → (es : List Entry) → AllByRecursion P es → AllByRecursion Q es
all-map f [] all = tt
all-map f (e ∷ es) all = (f e all.0, all-map f es all.1)

pub Rises-from : (es : List Entry) → StampsRise es → Rises es
Rises-from [] rise = tt
Rises-from (e ∷ es) rise = (all-map (before-from_stamps e) es rise.0, Rises-from es rise.1)

-- the first entry of a region is one of the list
first-among : (P : Entry → Type 0) (r : ℕ) (es : List Entry) (x : Entry) (rest : List Entry) → AllByRecursion P es → of_region r es ≡ x ∷ rest → P x
first-among P r [] x rest all e = cc
first-among P r (y ∷ es) x rest all e = go (cases_eq y.region r) (first-among P r es x rest all.1)
  where
    go : (y.region ≡ r) ⊎ (y.region ≡ r → ⊥) → (of_region r es ≡ x ∷ rest → P x) → P x
    go (inl same) later = subst P (cons_head _ _ _ _ (sym (of_region-here r y es same) ∙ e)) all.0
    go (inr other) later = later (sym (of_region-there r y es other) ∙ e)

-- ---- two rising lists with the same entries of each region are the same

tails-same : (x : Entry) (xs ys : List Entry) → ((r : ℕ) → of_region r (x ∷ xs) ≡ of_region r (x ∷ ys)) → (r : ℕ) → of_region r xs ≡ of_region r ys
tails-same x xs ys same r = go (cases_eq x.region r)
  where
    go : (x.region ≡ r) ⊎ (x.region ≡ r → ⊥) → of_region r xs ≡ of_region r ys
    go (inl here) = cons_tail _ _ _ _ (sym (of_region-here r x xs here) ∙ same r ∙ of_region-here r x ys here)
    go (inr there) = sym (of_region-there r x xs there) ∙ same r ∙ of_region-there r x ys there

heads-same : (x y : Entry) (xs ys : List Entry) → Rises (x ∷ xs) → Rises (y ∷ ys) → ((r : ℕ) → of_region r (x ∷ xs) ≡ of_region r (y ∷ ys)) → x ≡ y
heads-same x y xs ys rx ry same = go (cases_eq x.region y.region)
  where
    go : (x.region ≡ y.region) ⊎ (x.region ≡ y.region → ⊥) → x ≡ y
    go (inl r) = cons_head _ _ _ _ (sym (of_region-here y.region x xs r) ∙ same y.region ∙ of_region-here y.region y ys refl)
    go (inr other) = absurd (before-asym x y
        (first-among (λ f. before x f ≡ true) y.region xs y (of_region y.region ys) rx.0
        (sym (of_region-there y.region x xs other) ∙ same y.region ∙ of_region-here y.region y ys refl))
        (first-among (λ f. before y f ≡ true) x.region ys x (of_region x.region xs) ry.0
        (sym (of_region-there x.region y ys (λ e. other (sym e))) ∙ sym (same x.region) ∙ of_region-here x.region x xs refl)))

pub same_by_regions : (xs ys : List Entry) → Rises xs → Rises ys → ((r : ℕ) → of_region r xs ≡ of_region r ys) → xs ≡ ys
same_by_regions [] [] rx ry same = refl
same_by_regions [] (y ∷ ys) rx ry same = absurd (nil-cons _ _ (same y.region ∙ of_region-here y.region y ys refl))
same_by_regions (x ∷ xs) [] rx ry same = absurd (nil-cons _ _ (sym (same x.region) ∙ of_region-here x.region x xs refl))
same_by_regions (x ∷ xs) (y ∷ ys) rx ry same =
    let e = heads-same x y xs ys rx ry same in
    ap₂ (λ a bs. a ∷ bs) e (same_by_regions xs ys rx.1 ry.1 (tails-same x xs ys (λ r. same r ∙ ap (λ a. of_region r (a ∷ ys)) (sym e))))

-- ---- the law

Rises-own : (w : ℕ) (es : List Entry) → Rises es → Rises (own es w)
Rises-own w [] rise = tt
Rises-own w (e ∷ es) rise = go (e.worker == w)
    (all-own es rise.0) (Rises-own w es rise.1)
  where
    all-own : (fs : List Entry) → AllByRecursion (λ f. before e f ≡ true) fs → AllByRecursion (λ f. before e f ≡ true) (own fs w)
    all-own fs all = all-filter (λ f. before e f ≡ true) (λ f. f.worker == w) fs all

    go : (b : Bool) → AllByRecursion (λ f. before e f ≡ true) (own es w) → Rises (own es w) → Rises (cond b (e ∷ own es w) (own es w))
    go true all rest = (all, rest)
    go false all rest = rest

pub own-is : (layouts : Layouts) (parts passes : ℕ → List Entry) (history : List Entry) → ArePasses layouts parts passes → IsMerge parts history → (w : ℕ) → own history w ≡ passes w
own-is layouts parts passes history k m w =
    same_by_regions (own history w) (passes w) (Rises-own w history m.order) (Rises-from (passes w) (k.pass_stamps w))
    (λ r. filter-comm (λ e. e.region == r) (λ e. e.worker == w) history ∙ ap (λ es. own es w) (m.regions r) ∙ k.same w r)

pub law : (layouts : Layouts) (parts passes : ℕ → List Entry) (history : List Entry) → ArePasses layouts parts passes → IsMerge parts history → InRegions history → IsRecord layouts passes history
law layouts parts passes history k m in' =
    let o = own-is layouts parts passes history k m in
    let n : IsWellNumbered history = λ w. subst (CountsFrom 0) (sym (o w)) (k.numbers w) in
    record {
      legal = joined layouts empty history in' (λ r lo hi. subst (IsLegal layouts) (sym (m.regions r)) (k.legal r));
      numbered = n;
      stamped = record {
        workers = λ w. subst StampsRise (sym (o w)) (k.pass_stamps w);
        regions = λ r. subst StampsRise (sym (m.regions r)) (k.region_stamps r);
        order = m.order;
      };
      own_is = o;
    }
