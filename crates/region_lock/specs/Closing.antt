-- What the values are once all passes are back.
use Rattle.std.specs.Prelude.{◌≡◌, ◌≢◌, ◌<◌, ℕ, suc, List, [], length, Option, Some}
use Rattle.std.specs.List.{AllByRecursion}
use mathlib.Core.Option.{some}
use lib.ListN.{get_elem?}
use Rattle.heap_model.specs.declared.calls.Entry.{Entry}
use Rattle.heap_model.specs.Legal.{own, of_region}
use Rattle.heap_model.specs.Order.{StampsRise}
use Rattle.region_lock.specs.Entries.{IsMadeBy}
use Rattle.region_lock.specs.Known.{Known}

-- Each value has its region's number and plain data, and a list of that region's entries whose stamps rise.
-- The numbers of the passes are those below their count, each once. Each pass's list is of its own entries in these
-- regions, numbered from 0, and its stamps rise. A region's list, restricted to the pass's number, is the pass's list,
-- restricted to the region: so the pass's list is its entries over all values, ordered by stamp. No other numbers stand
-- in the values.
pub record Closes {W P : Type 0} (region : W → ℕ) (list : W → List Entry) (plain : W → P) (plains : List P)
    (passes : List Known) (values : List W) : Type 0 where
  pub count : length values ≡ length plains
  pub regions : (k : ℕ) (y : W) → get_elem? values k ≡ some y → region y ≡ suc k
  pub plain_data : (k : ℕ) (y : W) → get_elem? values k ≡ some y → get_elem? plains k ≡ some (plain y)
  pub listed : (k : ℕ) (y : W) → get_elem? values k ≡ some y
      → StampsRise (list y) × AllByRecursion (λ e. e.region ≡ suc k) (list y)
  pub numbers : (j : ℕ) (p : Known) → get_elem? passes j ≡ some p → p.worker < length passes
  pub distinct : (i j : ℕ) (p q : Known) → get_elem? passes i ≡ some p → get_elem? passes j ≡ some q
      → p.worker ≡ q.worker → i ≡ j
  pub made : (j : ℕ) (p : Known) → get_elem? passes j ≡ some p → IsMadeBy p.worker (length values) p.list
  pub parts : (j : ℕ) (p : Known) → get_elem? passes j ≡ some p → (k : ℕ) (y : W) → get_elem? values k ≡ some y
      → own (list y) p.worker ≡ of_region (suc k) p.list
  pub others : (m : ℕ) → AllByRecursion (λ p. p.worker ≢ m) passes → (k : ℕ) (y : W) → get_elem? values k ≡ some y
      → own (list y) m ≡ []

-- each slot has a value
abbrev pub AllThere : {W : Type 0} → List (Option W) → Type 0
AllThere {W} xs = (k : ℕ) → k < length xs → (y : W) × (get_elem? xs k ≡ some (Some y))
