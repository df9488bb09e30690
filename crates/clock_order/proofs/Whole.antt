-- What is merged is the extension by stamps.
use Rattle.std.proofs.Common.{◌≡◌, ◌≢◌, ℕ, suc, ◌<◌, ◌==◌, Bool, true, false, cond, List, [], ◌∷◌, ◌++◌, length, get_or, filter, IsPermutation, refl, sym, ap, ap₂, ◌∙◌, subst, arith, ◌⊎◌, inl, inr}
use Rattle.std.specs.List.{All, AllPairs, AllByRecursion}
use Rattle.std.proofs.lemmas.Bool.{cases_eq, eq-eqb, ne_eqb}
use Rattle.std.proofs.lemmas.List.{append-nil}
use Rattle.std.proofs.lemmas.List.Elements.{filter-append}
use Rattle.heap_model.specs.History.{Log}
use Rattle.heap_model.specs.Legal.{of_region, IsLegal, InRegions}
use Rattle.heap_model.specs.Order.{StampsRise, IsMerge}
use Rattle.heap_model.specs.Restricted.{RestrictionsLaw}
use Rattle.heap_model.specs.Extension.{IsExtension, ExtensionLaw}
use Rattle.heap_model.proofs.Merge.{all-filter}
use Rattle.heap_model.proofs.Sorting.{sorted_is_merge}
use Rattle.heap_model.specs.declared.calls.Entry.{Entry}
use Rattle.clock_order.specs.Parts.{entries_of, by_region, AreApart, KeepsLegal, Extends}
use Rattle.clock_order.specs.Heads.{IsMoved}

-- ---- the entries of one region

-- a region has no entry in the list, or one at some place
either : (r : ℕ) (es : List Entry)
    → AllByRecursion (λ e. e.region ≢ r) es
    ⊎ ((k : ℕ) × (k < length es) × ((d : Entry) → (get_or es k d).region ≡ r))
either r [] = inl tt
either r (e ∷ es) = go (cases_eq e.region r) (either r es)
  where
    go : (e.region ≡ r) ⊎ (e.region ≡ r → ⊥)
        → AllByRecursion (λ e. e.region ≢ r) es
        ⊎ ((k : ℕ) × (k < length es) × ((d : Entry) → (get_or es k d).region ≡ r))
        → AllByRecursion (λ e. e.region ≢ r) (e ∷ es)
        ⊎ ((k : ℕ) × (k < length (e ∷ es)) × ((d : Entry) → (get_or (e ∷ es) k d).region ≡ r))
    go (inl here) rest = inr (0, omega arith, λ d. here)
    go (inr there) (inl none) = inl (there, none)
    go (inr there) (inr found) = inr (suc found.0, omega (arith, found.1), found.2)

nothing : (r : ℕ) (es : List Entry) → AllByRecursion (λ e. e.region ≢ r) es → of_region r es ≡ []
nothing r [] none = refl
nothing r (e ∷ es) none =
    ap (λ b. cond b (e ∷ of_region r es) (of_region r es)) (ne_eqb e.region r none.0) ∙ nothing r es none.1

all-apart : (r : ℕ) (p : Log) (k : ℕ) → k < length p.entries → ((d : Entry) → (get_or p.entries k d).region ≡ r)
    → (q : Log) → AreApart p q → AllByRecursion (λ e. e.region ≢ r) q.entries
all-apart r p k below is q apart =
    from q.entries (λ j b inside same. apart k b below j b inside (is b ∙ sym same))
  where
    from : (es : List Entry) → ((j : ℕ) (b : Entry) → j < length es → (get_or es j b).region ≢ r)
        → AllByRecursion (λ e. e.region ≢ r) es
    from [] all = tt
    from (e ∷ es) all = (all 0 e (omega arith), from es (λ j b inside. all (suc j) b (omega (arith, inside))))

StampsRise-filter : (p : Entry → Bool) (es : List Entry) → StampsRise es → StampsRise (filter p es)
StampsRise-filter p [] rise = tt
StampsRise-filter p (e ∷ es) rise =
    go (p e) (all-filter (λ f. e.stamp < f.stamp) p es rise.0) (StampsRise-filter p es rise.1)
  where
    go : (b : Bool) → AllByRecursion (λ f. e.stamp < f.stamp) (filter p es) → StampsRise (filter p es)
        → StampsRise (cond b (e ∷ filter p es) (filter p es))
    go true all rest = (all, rest)
    go false all rest = rest

none-joined : (r : ℕ) (parts : List Log) → AllByRecursion (λ q. AllByRecursion (λ e. e.region ≢ r) q.entries) parts
    → of_region r (entries_of parts) ≡ []
none-joined r [] all = refl
none-joined r (q ∷ qs) all =
    filter-append (λ e. e.region == r) q.entries (entries_of qs)
    ∙ ap₂ (λ xs ys. xs ++ ys) (nothing r q.entries all.0) (none-joined r qs all.1)

-- a region that has an entry in one part has none in the parts apart from it
rest-apart : (r : ℕ) (p : Log) (qs : List Log) → ((j : ℕ) (d : Log) → j < length qs → AreApart p (get_or qs j d))
    → (k : ℕ) → k < length p.entries → ((d : Entry) → (get_or p.entries k d).region ≡ r)
    → AllByRecursion (λ q. AllByRecursion (λ e. e.region ≢ r) q.entries) qs
rest-apart r p [] all k below is = tt
rest-apart r p (q ∷ qs) all k below is = (
  all-apart r p k below is q (all 0 q (omega arith)),
  rest-apart r p qs (λ j d inside. all (suc j) d (omega (arith, inside))) k below is,
)

-- stamps rise in each region
pub region-rises : (parts : List Log) → AllPairs AreApart parts → All (λ p. StampsRise p.entries) parts → (r : ℕ)
    → StampsRise (of_region r (entries_of parts))
region-rises [] apart stamps r = tt
region-rises (p ∷ ps) apart stamps r =
    subst StampsRise (sym (filter-append (λ e. e.region == r) p.entries (entries_of ps)))
    (go (either r p.entries)
    (region-rises ps (λ i j d first inside. apart (suc i) (suc j) d (omega (arith, first)) (omega (arith, inside)))
    (λ k d inside. stamps (suc k) d (omega (arith, inside))) r))
  where
    go : AllByRecursion (λ e. e.region ≢ r) p.entries
        ⊎ ((k : ℕ) × (k < length p.entries) × ((d : Entry) → (get_or p.entries k d).region ≡ r))
        → StampsRise (of_region r (entries_of ps))
        → StampsRise (of_region r p.entries ++ of_region r (entries_of ps))
    go (inl none) rest =
        subst (λ es. StampsRise (es ++ of_region r (entries_of ps))) (sym (nothing r p.entries none)) rest
    go (inr found) rest =
        subst (λ es. StampsRise (of_region r p.entries ++ es))
        (sym (none-joined r ps (rest-apart r p ps (λ j d inside. apart 0 (suc j) d (omega arith) (omega (arith, inside)))
        found.0 found.1 found.2)))
        (subst StampsRise (sym (append-nil (of_region r p.entries)))
        (StampsRise-filter (λ e. e.region == r) p.entries (stamps 0 p (omega arith))))

-- ---- the whole

pub whole : (parts : List Log) (done : List Entry) → IsMoved (entries_of parts) [] done
    → IsPermutation (entries_of parts) done
whole parts done m = subst (IsPermutation (entries_of parts)) (append-nil done) m.moved

pub merges : (parts : List Log) → AllPairs AreApart parts → All (λ p. StampsRise p.entries) parts
    → (done : List Entry) → IsMoved (entries_of parts) [] done → IsMerge (by_region parts) done
merges parts apart stamps done m = record {
  regions = sorted_is_merge (entries_of parts) done (whole parts done m) m.rises (region-rises parts apart stamps);
  order = m.rises;
}

inside-whole : (es : List Entry) → ((r : ℕ) → InRegions (of_region r es)) → InRegions es
inside-whole [] all = tt
inside-whole (e ∷ es) all =
    let here : InRegions (e ∷ of_region e.region es) =
    subst (λ b. InRegions (cond b (e ∷ of_region e.region es) (of_region e.region es)))
    (eq-eqb e.region e.region refl) (all e.region) in
    (here.0, here.1, inside-whole es (λ r. later r (e.region == r) (all r)))
  where
    later : (r : ℕ) (b : Bool) → InRegions (cond b (e ∷ of_region r es) (of_region r es)) → InRegions (of_region r es)
    later r true all = all.2
    later r false all = all

pub keeps-legal : RestrictionsLaw → (parts : ℕ → List Entry) (done : List Entry) → IsMerge parts done
    → KeepsLegal parts done
keeps-legal law parts done m layouts legal =
    let each : (r : ℕ) → IsLegal layouts (of_region r done) =
    λ r. subst (IsLegal layouts) (sym (m.regions r)) (legal r) in
    (law layouts done).1
    (inside-whole done (λ r. ((law layouts (of_region r done)).0 (each r)).0), λ r is. each r)

pub extends : ExtensionLaw → (parts : ℕ → List Entry) (done : List Entry) → IsMerge parts done → Extends parts done
extends law parts done m layouts passes kept =
    let found = law layouts parts passes kept in
    subst (IsExtension layouts parts passes) (sym (found.1.only done m)) found.1
