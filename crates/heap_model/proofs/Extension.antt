-- Regions' histories and callers' orders have one common extension by stamps.
use Rattle.std.proofs.Common.{◌≡◌, ℕ, zero, suc, ◌<◌, ◌≤◌, Bool, true, false, cond, ◌==◌, List, [], ◌∷◌, ◌++◌, filter, IsPermutation, refl, sym, ap, ap₂, ◌∙◌, subst, arith, append-nil, ◌⊎◌, inl, inr}
use Rattle.std.specs.Prelude.{nat_le, nat_lt}
use Rattle.std.proofs.lemmas.Bool.{cases_eq, eqb-true, eq-eqb, leb-true, leb-false, ltb-true, ltb-false}
use Rattle.std.proofs.lemmas.List.Sorted.{IsPermutation-refl, IsPermutation-sym, IsPermutation-trans, IsPermutation-cons, IsPermutation-middle}
use Rattle.std.specs.List.{AllByRecursion}
use Rattle.lowfat_regions.specs.Regions.{IsRegion}
use Rattle.heap_model.specs.Heap.{empty}
use Rattle.heap_model.specs.Layouts.{Layouts}
use Rattle.heap_model.specs.Legal.{of_region, InRegions}
use Rattle.heap_model.specs.Order.{before, Rises, StampsRise, IsMerge, ArePasses}
use Rattle.heap_model.specs.Extension.{entries_up_to, all_entries, IsExtension, ExtensionLaw}
use Rattle.heap_model.specs.declared.calls.Entry.{Entry}
use Rattle.heap_model.proofs.Lists.{filter-append}
use Rattle.heap_model.proofs.RegionsLaw.{of_region-here, of_region-there}
use Rattle.heap_model.proofs.Merge as merge
use Rattle.heap_model.proofs.Merge.{all-map, before-from_stamps, same_by_regions}
use Rattle.heap_model.proofs.Sorting.{sorted_is_merge}
use Rattle.heap_model.proofs.Restricted.{legal-regions}

-- ---- entries by their regions and workers

-- what holds of each class holds of all
all-from_classes : (class : Entry → ℕ) (Q : Entry → Type 0) (es : List Entry)
    → ((k : ℕ) → AllByRecursion Q (filter (λ e. class e == k) es)) → AllByRecursion Q es
all-from_classes class Q [] all = tt
all-from_classes class Q (e ∷ es) all = (here, all-from_classes class Q es (λ k. later k (class e == k) (all k)))
  where
    here : Q e
    here =
        let rest : List Entry = filter (λ x. class x == class e) es in
        (subst (λ b. AllByRecursion Q (cond b (e ∷ rest) rest)) (eq-eqb (class e) (class e) refl) (all (class e))).0

    later : (k : ℕ) (b : Bool)
        → AllByRecursion Q (cond b (e ∷ filter (λ x. class x == k) es) (filter (λ x. class x == k) es))
        → AllByRecursion Q (filter (λ x. class x == k) es)
    later k true all = all.1
    later k false all = all

-- the entries of a region are of it
all-pass : (r : ℕ) (es : List Entry) → AllByRecursion (λ e. e.region ≡ r) (of_region r es)
all-pass r [] = tt
all-pass r (e ∷ es) = go (e.region == r) refl (all-pass r es)
  where
    go : (b : Bool) → e.region == r ≡ b → AllByRecursion (λ e. e.region ≡ r) (of_region r es)
        → AllByRecursion (λ e. e.region ≡ r) (cond b (e ∷ of_region r es) (of_region r es))
    go true same rest = (eqb-true _ _ same, rest)
    go false other rest = rest

-- what holds of a region's entries holds of each entry that is of it
all-of_region : (Q : Entry → Type 0) (r : ℕ) (es : List Entry) → AllByRecursion Q (of_region r es)
    → AllByRecursion (λ e. e.region ≡ r → Q e) es
all-of_region Q r [] all = tt
all-of_region Q r (e ∷ es) all = go (e.region == r) refl all (all-of_region Q r es)
  where
    go : (b : Bool) → e.region == r ≡ b → AllByRecursion Q (cond b (e ∷ of_region r es) (of_region r es))
        → (AllByRecursion Q (of_region r es) → AllByRecursion (λ e. e.region ≡ r → Q e) es)
        → AllByRecursion (λ e. e.region ≡ r → Q e) (e ∷ es)
    go true same all later = (λ _. all.0, later all.1)
    go false other all later = (λ same. absurd (let no : false ≡ true = sym other ∙ eq-eqb _ _ same in cc), later all)

in_regions-all : (es : List Entry) → InRegions es → AllByRecursion (λ e. IsRegion e.region) es
in_regions-all [] all = tt
in_regions-all (e ∷ es) all = ((all.0, all.1), in_regions-all es all.2)

all-in_regions : (es : List Entry) → AllByRecursion (λ e. IsRegion e.region) es → InRegions es
all-in_regions [] all = tt
all-in_regions (e ∷ es) all = (all.0.0, all.0.1, all-in_regions es all.1)

at-home : (r : ℕ) (es : List Entry) → AllByRecursion (λ e. e.region ≡ r) es → of_region r es ≡ es
at-home r [] all = refl
at-home r (e ∷ es) all = of_region-here r e es all.0 ∙ ap (λ xs. e ∷ xs) (at-home r es all.1)

away : (q r : ℕ) (es : List Entry) → (q ≡ r → ⊥) → AllByRecursion (λ e. e.region ≡ q) es → of_region r es ≡ []
away q r [] other all = refl
away q r (e ∷ es) other all = of_region-there r e es (λ same. other (sym all.0 ∙ same)) ∙ away q r es other all.1

outside : (r : ℕ) (es : List Entry) → (IsRegion r → ⊥) → AllByRecursion (λ e. e.region ≡ r) es → InRegions es → [] ≡ es
outside r [] out all in' = refl
outside r (e ∷ es) out all in' = absurd (out (subst IsRegion all.0 (in'.0, in'.1)))

-- ---- the entries of all regions, by region

module _ (parts : ℕ → List Entry) (homes : (r : ℕ) → AllByRecursion (λ e. e.region ≡ r) (parts r)) where
  up_to-none : (r n : ℕ) → ((q : ℕ) → 1 ≤ q → q ≤ n → q ≡ r → ⊥) → of_region r (entries_up_to parts n) ≡ []
  unfolding entries_up_to
  up_to-none r zero other = refl
  up_to-none r (suc n) other =
      filter-append (λ e. e.region == r) (entries_up_to parts n) (parts (suc n))
      ∙ ap₂ (λ xs ys. xs ++ ys) (up_to-none r n (λ q low high. other q low (omega (arith, high))))
      (away (suc n) r (parts (suc n)) (other (suc n) (omega arith) (omega arith)) (homes (suc n)))

  up_to-is : (r n : ℕ) → 1 ≤ r → r ≤ n → of_region r (entries_up_to parts n) ≡ parts r
  unfolding entries_up_to
  up_to-is r zero low high = absurd (omega (arith, low, high))
  up_to-is r (suc n) low high =
      filter-append (λ e. e.region == r) (entries_up_to parts n) (parts (suc n))
      ∙ go (cases_eq (suc n) r) (up_to-is r n low)
    where
      go : (suc n ≡ r) ⊎ (suc n ≡ r → ⊥) → (r ≤ n → of_region r (entries_up_to parts n) ≡ parts r)
          → of_region r (entries_up_to parts n) ++ of_region r (parts (suc n)) ≡ parts r
      go (inl last) before =
          ap₂ (λ xs ys. xs ++ ys) (up_to-none r n (λ q low high same. omega (arith, last, high, same)))
          (subst (λ q. of_region q (parts (suc n)) ≡ parts q) last (at-home (suc n) (parts (suc n)) (homes (suc n))))
      go (inr other) before =
          ap₂ (λ xs ys. xs ++ ys) (before (omega (arith, high, other)))
          (away (suc n) r (parts (suc n)) other (homes (suc n)))
          ∙ append-nil (parts r)

  all-is : (in' : (r : ℕ) → InRegions (parts r)) (r : ℕ) → of_region r (all_entries parts) ≡ parts r
  all-is in' r = go (nat_le 1 r) (nat_le r 27) refl refl
    where
      none : (IsRegion r → ⊥) → of_region r (all_entries parts) ≡ parts r
      none out =
          up_to-none r 27 (λ q low high same. out (subst IsRegion same (low, high)))
          ∙ outside r (parts r) out (homes r) (in' r)

      go : (a b : Bool) → nat_le 1 r ≡ a → nat_le r 27 ≡ b → of_region r (all_entries parts) ≡ parts r
      go true true x y = up_to-is r 27 (leb-true _ _ x) (leb-true _ _ y)
      go true false x y = none (λ is. let above : 27 < r = leb-false _ _ y in omega (arith, above, is.1))
      go false b x y = none (λ is. let below : r < 1 = leb-false _ _ x in omega (arith, below, is.0))

-- ---- sorting

insert : Entry → List Entry → List Entry
insert e [] = e ∷ []
insert e (f ∷ fs) = cond (before e f) (e ∷ f ∷ fs) (f ∷ insert e fs)

sort : List Entry → List Entry
sort [] = []
sort (e ∷ es) = insert e (sort es)

insert-permutes : (e : Entry) (es : List Entry) → IsPermutation (e ∷ es) (insert e es)
unfolding insert
insert-permutes e [] = IsPermutation-refl (e ∷ [])
insert-permutes e (f ∷ fs) = go (before e f) (insert-permutes e fs)
  where
    go : (b : Bool) → IsPermutation (e ∷ fs) (insert e fs)
        → IsPermutation (e ∷ f ∷ fs) (cond b (e ∷ f ∷ fs) (f ∷ insert e fs))
    go true later = IsPermutation-refl (e ∷ f ∷ fs)
    go false later =
        IsPermutation-trans _ _ _ (IsPermutation-sym _ _ (IsPermutation-middle (f ∷ []) e fs))
        (IsPermutation-cons f _ _ later)

sort-permutes : (es : List Entry) → IsPermutation es (sort es)
unfolding sort
sort-permutes [] = IsPermutation-refl []
sort-permutes (e ∷ es) =
    IsPermutation-trans _ _ _ (IsPermutation-cons e _ _ (sort-permutes es)) (insert-permutes e (sort es))

all-insert : (Q : Entry → Type 0) (e : Entry) (es : List Entry) → Q e → AllByRecursion Q es
    → AllByRecursion Q (insert e es)
unfolding insert
all-insert Q e [] here all = (here, tt)
all-insert Q e (f ∷ fs) here all = go (before e f) (all-insert Q e fs here all.1)
  where
    go : (b : Bool) → AllByRecursion Q (insert e fs) → AllByRecursion Q (cond b (e ∷ f ∷ fs) (f ∷ insert e fs))
    go true later = (here, all)
    go false later = (all.0, later)

before-trans : (e f g : Entry) → before e f ≡ true → before f g ≡ true → before e g ≡ true
before-trans e f g p q = grind (arith, p, q)

-- two entries of different regions, or with different stamps, are in order
AreOrdered : Entry → Entry → Type 0
AreOrdered e f = (before e f ≡ true) ⊎ (before f e ≡ true)

Rises-insert : (e : Entry) (es : List Entry) → Rises es → AllByRecursion (AreOrdered e) es → Rises (insert e es)
unfolding insert AreOrdered
Rises-insert e [] rise all = (tt, tt)
Rises-insert e (f ∷ fs) rise all = go (before e f) refl all.0 (Rises-insert e fs rise.1 all.1)
  where
    go : (b : Bool) → before e f ≡ b → (before e f ≡ true) ⊎ (before f e ≡ true) → Rises (insert e fs)
        → Rises (cond b (e ∷ f ∷ fs) (f ∷ insert e fs))
    go true is either later = ((is, all-map (λ g h. before-trans e f g is h) fs rise.0), rise)
    go false is (inl ahead) later = absurd (let no : false ≡ true = sym is ∙ ahead in cc)
    go false is (inr back) later = (all-insert (λ g. before f g ≡ true) e fs back rise.0, later)

insert-there : (r : ℕ) (e : Entry) (es : List Entry) → (e.region ≡ r → ⊥) → of_region r (insert e es) ≡ of_region r es
unfolding insert
insert-there r e [] other = of_region-there r e [] other
insert-there r e (f ∷ fs) other = go (before e f) (insert-there r e fs other)
  where
    go : (b : Bool) → of_region r (insert e fs) ≡ of_region r fs
        → of_region r (cond b (e ∷ f ∷ fs) (f ∷ insert e fs)) ≡ of_region r (f ∷ fs)
    go true later = of_region-there r e (f ∷ fs) other
    go false later = ap (λ xs. cond (f.region == r) (f ∷ xs) xs) later

insert-here : (e : Entry) (es : List Entry) → AllByRecursion (λ f. f.region ≡ e.region → before e f ≡ true) es
    → of_region e.region (insert e es) ≡ e ∷ of_region e.region es
unfolding insert
insert-here e [] all = of_region-here e.region e [] refl
insert-here e (f ∷ fs) all = go (before e f) refl (insert-here e fs all.1)
  where
    go : (b : Bool) → before e f ≡ b → of_region e.region (insert e fs) ≡ e ∷ of_region e.region fs
        → of_region e.region (cond b (e ∷ f ∷ fs) (f ∷ insert e fs)) ≡ e ∷ of_region e.region (f ∷ fs)
    go true is later = of_region-here e.region e (f ∷ fs) refl
    go false is later =
        let other : f.region ≡ e.region → ⊥ = λ same. let no : false ≡ true = sym is ∙ all.0 same in cc in
        of_region-there e.region f (insert e fs) other ∙ later
        ∙ ap (λ xs. e ∷ xs) (sym (of_region-there e.region f fs other))

ordered-from : (e f : Entry) → (f.region ≡ e.region → e.stamp < f.stamp) → AreOrdered e f
unfolding AreOrdered
ordered-from e f stamps = go (nat_lt e.stamp f.stamp) (nat_lt f.stamp e.stamp) refl refl
  where
    go : (a b : Bool) → nat_lt e.stamp f.stamp ≡ a → nat_lt f.stamp e.stamp ≡ b
        → (before e f ≡ true) ⊎ (before f e ≡ true)
    go true b x y = inl (before-from_stamps e f (ltb-true _ _ x))
    go false true x y = inr (before-from_stamps f e (ltb-true _ _ y))
    go false false x y = regions (nat_lt e.region f.region) (nat_lt f.region e.region) refl refl
      where
        regions : (a b : Bool) → nat_lt e.region f.region ≡ a → nat_lt f.region e.region ≡ b
            → (before e f ≡ true) ⊎ (before f e ≡ true)
        regions true b u v = inl (grind (arith, x, y, u))
        regions false true u v = inr (grind (arith, x, y, v))
        regions false false u v =
            let same : f.region ≡ e.region = omega (arith, ltb-false _ _ u, ltb-false _ _ v) in
            absurd (omega (arith, stamps same, ltb-false _ _ x))

stamps-rest : (r : ℕ) (e : Entry) (es : List Entry) → StampsRise (of_region r (e ∷ es)) → StampsRise (of_region r es)
stamps-rest r e es rise = go (e.region == r) rise
  where
    go : (b : Bool) → StampsRise (cond b (e ∷ of_region r es) (of_region r es)) → StampsRise (of_region r es)
    go true rise = rise.1
    go false rise = rise

-- where stamps rise in each region, a sorted list has each region's entries in their order, and rises
sort-rises : (es : List Entry) → ((r : ℕ) → StampsRise (of_region r es))
    → ((r : ℕ) → of_region r (sort es) ≡ of_region r es) × Rises (sort es)
unfolding sort
sort-rises [] stamps = (λ r. refl, tt)
sort-rises (e ∷ es) stamps =
    let rest = sort-rises es (λ r. stamps-rest r e es (stamps r)) in
    let first : AllByRecursion (λ f. e.stamp < f.stamp) (of_region e.region es) =
    (subst StampsRise (of_region-here e.region e es refl) (stamps e.region)).0 in
    let ahead : AllByRecursion (λ f. f.region ≡ e.region → e.stamp < f.stamp) (sort es) =
    all-of_region (λ f. e.stamp < f.stamp) e.region (sort es)
    (subst (AllByRecursion (λ f. e.stamp < f.stamp)) (sym (rest.0 e.region)) first) in
    let home : of_region e.region (insert e (sort es)) ≡ e ∷ of_region e.region (sort es) =
    insert-here e (sort es) (all-map (λ f later same. before-from_stamps e f (later same)) (sort es) ahead) in (
      λ r. go r rest.0 home (cases_eq e.region r),
      Rises-insert e (sort es) rest.1
          (all-map (λ f later. ordered-from e f later) (sort es) ahead),
    )
  where
    go : (r : ℕ) → ((q : ℕ) → of_region q (sort es) ≡ of_region q es)
        → of_region e.region (insert e (sort es)) ≡ e ∷ of_region e.region (sort es)
        → (e.region ≡ r) ⊎ (e.region ≡ r → ⊥) → of_region r (insert e (sort es)) ≡ of_region r (e ∷ es)
    go r rest home (inl same) =
        subst (λ q. of_region q (insert e (sort es)) ≡ of_region q (e ∷ es)) same
        (home ∙ ap (λ xs. e ∷ xs) (rest e.region) ∙ sym (of_region-here e.region e es refl))
    go r rest home (inr other) = insert-there r e (sort es) other ∙ rest r ∙ sym (of_region-there r e es other)

-- ---- the law

module _ (layouts : Layouts) (parts passes : ℕ → List Entry) (k : ArePasses layouts parts passes) where
  homes : (r : ℕ) → AllByRecursion (λ e. e.region ≡ r) (parts r)
  homes r =
      all-from_classes (λ e. e.worker) (λ e. e.region ≡ r) (parts r)
      (λ w. subst (AllByRecursion (λ e. e.region ≡ r)) (sym (k.same w r)) (all-pass r (passes w)))

  inside : (r : ℕ) → InRegions (parts r)
  inside r = legal-regions layouts empty (parts r) (k.legal r)

  by_region : (r : ℕ) → of_region r (all_entries parts) ≡ parts r
  by_region r = all-is parts homes inside r

  stamps : (r : ℕ) → StampsRise (of_region r (all_entries parts))
  stamps r = subst StampsRise (sym (by_region r)) (k.region_stamps r)

  merged : IsMerge parts (sort (all_entries parts))
  merged = let s = sort-rises (all_entries parts) stamps in record { regions = λ r. s.0 r ∙ by_region r; order = s.1 }

  merged-inside : InRegions (sort (all_entries parts))
  merged-inside =
      all-in_regions (sort (all_entries parts))
      (all-from_classes (λ e. e.region) (λ e. IsRegion e.region) (sort (all_entries parts))
      (λ r. subst (AllByRecursion (λ e. IsRegion e.region)) (sym (merged.regions r))
      (in_regions-all (parts r) (inside r))))

  extension : IsExtension layouts parts passes (sort (all_entries parts))
  extension = record {
    merges = merged;
    recorded = merge.law layouts parts passes (sort (all_entries parts)) k merged merged-inside;
    only =
        λ other m. same_by_regions other (sort (all_entries parts)) m.order merged.order
        (λ r. m.regions r ∙ sym (merged.regions r));
    rearranges = sort-permutes (all_entries parts);
    sorted = λ other moved rise. same_by_regions other (sort (all_entries parts)) rise merged.order
        (λ r. sorted_is_merge (all_entries parts) other moved rise stamps r ∙ by_region r ∙ sym (merged.regions r));
  }

pub extension_law : ExtensionLaw
extension_law layouts parts passes k = (sort (all_entries parts), extension layouts parts passes k)
