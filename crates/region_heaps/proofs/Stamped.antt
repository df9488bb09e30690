-- A history whose stamps are 1, 2, 3 and so on is stamped.
use Rattle.std.proofs.Common.{◌≡◌, ℕ, suc, ◌+◌, ◌<◌, ◌≤◌, Bool, true, false, cond, ◌&&◌, ◌||◌, ◌==◌, List, [], ◌∷◌, length, filter, ap, arith}
use Rattle.std.specs.Prelude.{nat_lt}
use Rattle.std.specs.List.{AllByRecursion}
use Rattle.std.proofs.lemmas.Bool.{lt-ltb}
use Rattle.heap_model.specs.Order.{IsStamped, Rises, StampsRise, before}
use Rattle.heap_model.specs.declared.calls.Entry.{Entry}
use Rattle.region_heaps.specs.Entries.{StampsFrom}

-- each later stamp is above one that is below the first
above : (m n : ℕ) (es : List Entry) → m < n → StampsFrom n es → AllByRecursion (λ f. m < f.stamp) es
above m n [] below stamps = tt
above m n (e ∷ es) below stamps = (omega (arith, stamps.0), above m (suc n) es (omega arith) stamps.1)

AllByRecursion-filter : (P : Entry → Type 0) (p : Entry → Bool) (es : List Entry) → AllByRecursion P es → AllByRecursion P (filter p es)
AllByRecursion-filter P p [] all = tt
AllByRecursion-filter P p (e ∷ es) all = go (AllByRecursion-filter P p es all.1) (p e)
  where
    go : AllByRecursion P (filter p es) → (b : Bool) → AllByRecursion P (cond b (e ∷ filter p es) (filter p es))
    go rest true = (all.0, rest)
    go rest false = rest

-- the stamps of the entries after the first are above its own
above_first : (n : ℕ) (e : Entry) (es : List Entry) → StampsFrom n (e ∷ es) → AllByRecursion (λ f. e.stamp < f.stamp) es
above_first n e es stamps = above e.stamp (suc n) es (omega (arith, stamps.0)) stamps.1

StampsRise-filter : (p : Entry → Bool) (n : ℕ) (es : List Entry) → StampsFrom n es → StampsRise (filter p es)
StampsRise-filter p n [] stamps = tt
StampsRise-filter p n (e ∷ es) stamps = go (StampsRise-filter p (suc n) es stamps.1) (p e)
  where
    go : StampsRise (filter p es) → (b : Bool) → StampsRise (cond b (e ∷ filter p es) (filter p es))
    go rest true = (AllByRecursion-filter (λ f. e.stamp < f.stamp) p es (above_first n e es stamps), rest)
    go rest false = rest

comes_before : (e : Entry) (es : List Entry) → AllByRecursion (λ f. e.stamp < f.stamp) es → AllByRecursion (λ f. before e f ≡ true) es
comes_before e [] all = tt
comes_before e (f ∷ es) all =
    (ap (λ b. b || ((e.stamp == f.stamp) && nat_lt e.region f.region)) (lt-ltb _ _ all.0), comes_before e es all.1)

Rises-from : (n : ℕ) (es : List Entry) → StampsFrom n es → Rises es
Rises-from n [] stamps = tt
Rises-from n (e ∷ es) stamps = (comes_before e es (above_first n e es stamps), Rises-from (suc n) es stamps.1)

pub IsStamped-from : (n : ℕ) (es : List Entry) → StampsFrom n es → IsStamped es
IsStamped-from n es stamps = record {
  workers = λ w. StampsRise-filter (λ e. e.worker == w) n es stamps;
  regions = λ r. StampsRise-filter (λ e. e.region == r) n es stamps;
  order = Rises-from n es stamps;
}

-- no stamp is above the last one, which the length tells
pub bounded-from : (n most : ℕ) (es : List Entry) → StampsFrom n es → n + length es ≤ most + 1
    → AllByRecursion (λ e. e.stamp ≤ most) es
bounded-from n most [] stamps fits = tt
bounded-from n most (e ∷ es) stamps fits =
    (omega (arith, stamps.0, fits), bounded-from (suc n) most es stamps.1 (omega (arith, fits)))
