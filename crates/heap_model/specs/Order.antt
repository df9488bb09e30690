-- The order of a history.
use Rattle.std.specs.Prelude.{ℕ, ◌≡◌, ◌<◌, Bool, true, ◌&&◌, ◌||◌, ◌==◌, nat_lt, List, [], ◌∷◌}
use Rattle.std.specs.List.{AllByRecursion}
use Rattle.heap_model.specs.Layouts.{Layouts}
use Rattle.heap_model.specs.Legal.{own, of_region, IsLegal, CountsFrom, IsWellNumbered}
use Rattle.heap_model.specs.declared.calls.Entry.{Entry}

-- whether an entry comes before another, by stamp and region
abbrev pub before : Entry → Entry → Bool
before e f = nat_lt e.stamp f.stamp || ((e.stamp == f.stamp) && nat_lt e.region f.region)

-- the entries rise by stamp and region
abbrev pub Rises : List Entry → Type 0
Rises [] = Unit {0}
Rises (e ∷ es) = AllByRecursion (λ f. before e f ≡ true) es × Rises es

abbrev pub StampsRise : List Entry → Type 0
StampsRise [] = Unit {0}
StampsRise (e ∷ es) = AllByRecursion (λ f. e.stamp < f.stamp) es × StampsRise es

pub record IsStamped (history : List Entry) : Type 0 where
  pub workers : (w : ℕ) → StampsRise (own history w)
  pub regions : (r : ℕ) → StampsRise (of_region r history)
  pub order : Rises history

-- the history has the parts' entries, each part's in its order, and rises by stamp and region
pub record IsMerge (parts : ℕ → List Entry) (history : List Entry) : Type 0 where
  pub regions : (r : ℕ) → of_region r history ≡ parts r
  pub order : Rises history

-- what each region and each pass keeps
pub record ArePasses (layouts : Layouts) (parts passes : ℕ → List Entry) : Type 0 where
  pub legal : (r : ℕ) → IsLegal layouts (parts r)
  pub region_stamps : (r : ℕ) → StampsRise (parts r)
  pub pass_stamps : (w : ℕ) → StampsRise (passes w)
  pub numbers : (w : ℕ) → CountsFrom 0 (passes w)
  pub same : (w r : ℕ) → own (parts r) w ≡ of_region r (passes w)

pub record IsRecord (layouts : Layouts) (passes : ℕ → List Entry) (history : List Entry) : Type 0 where
  pub legal : IsLegal layouts history
  pub numbered : IsWellNumbered history
  pub stamped : IsStamped history
  pub own_is : (w : ℕ) → own history w ≡ passes w
