-- The rule of the table: the word r belongs to the region r, whose value has the slot r - 1. It is 0 where the region
-- is home, and else 1 more than the holder's number. The word 0 belongs to no region, and is never changed.
use Rattle.std.specs.Prelude.{◌≡◌, ◌≢◌, ℕ, suc, ◌<◌, ◌≤◌, Bool, true, false, List, [], ◌∷◌, length}
use Rattle.std.specs.Prelude.{slice_index, Option, Some}
use Rattle.std.specs.List.{AllByRecursion}
use mathlib.Core.Option.{some, none, Option as Maybe}
use lib.ListN.{get_elem?}
use Rattle.atomic_table.specs.Table.{State}
use Rattle.heap_model.specs.declared.calls.Entry.{Entry}
use Rattle.heap_model.specs.Legal.{own, of_region}
use Rattle.heap_model.specs.Order.{StampsRise}
use Rattle.region_lock.specs.Entries.{last_stamp, IsMadeBy}
use Rattle.region_lock.specs.Weights.{total, below}
use Rattle.region_lock.specs.declared.view.View.{View}

-- a view with these fields
abbrev pub view : List (ℕ × List Entry) → ℕ → ℕ → List Entry → Bool → ℕ → View
view owns last region noted keeps made =
    record { owns = owns; last = last; region = region; noted = noted; keeps = keeps; made = made }

-- a view that knows nothing
abbrev pub nobody : View
nobody = view [] 0 0 [] false 0

-- the view of the first seat, which counts the numbers
abbrev pub counter : ℕ → View
counter made = view [] 0 0 [] true made

-- h of the numbers of a view, added up
abbrev pub weigh : (ℕ → ℕ) → View → ℕ
weigh h v = total (λ o. h o.0) v.owns

-- where a view notes the region k + 1, it is the one that does, its number is in the word, and the noted list is the
-- region's
abbrev pub Notes : (ℕ → List Entry) → (ℕ → ℕ) → List ℕ → ℕ → View → ℕ → Type 0
Notes held noter words j v k =
    (j ≡ noter k) × (v.noted ≡ held k)
    × ((n : ℕ) × (l : List Entry) × (v.owns ≡ (n, l) ∷ []) × (slice_index words (suc k) ≡ suc n))

-- what the rule says of the view v of the seat j
pub record Fits (made clock : ℕ) (lists held : ℕ → List Entry) (noter : ℕ → ℕ) (words : List ℕ) (j : ℕ) (v : View)
    : Type 0 where
  pub owns : AllByRecursion (λ o. (o.1 ≡ lists o.0) × (o.0 < made) × (last_stamp o.1 ≤ v.last)) v.owns
  pub late : v.last ≤ clock
  pub notes : (k : ℕ) → v.region ≡ suc k → Notes held noter words j v k

-- just one view keeps the count of numbers made
pub record Counts (made : ℕ) (views : List View) : Type 0 where
  pub keeper : ℕ
  pub there : (v : View) × (get_elem? views keeper ≡ some v) × (v.keeps ≡ true)
  pub only : (j : ℕ) (v : View) → get_elem? views j ≡ some v → v.keeps ≡ true → (j ≡ keeper) × (v.made ≡ made)

-- the count of all entries
abbrev pub clock_of : (ℕ → List Entry) → ℕ → ℕ
clock_of lists made = below (λ n. length (lists n)) made

module _ {W P : Type 0} (region : W → ℕ) (list : W → List Entry) (plain : W → P) (plains : List P) where
  -- the value of the region k + 1 is this one, with this list
  abbrev pub IsValueAt : ℕ → List Entry → W → Type 0
  IsValueAt k xs y = (region y ≡ suc k) × (list y ≡ xs) × (get_elem? plains k ≡ some (plain y))

  -- the value of the region k + 1 is at home, with this list
  abbrev pub AtHome : List (Maybe (Option W)) → ℕ → List Entry → Type 0
  AtHome homes k xs = (y : W) × (get_elem? homes k ≡ some (some (Some y))) × IsValueAt k xs y

-- the slot k is out, and the seat j notes its region, which is k + 1
abbrev pub IsOut : {S : Type 0} → State S View → ℕ → ℕ → Type 0
IsOut s j k =
    (v : View) × (get_elem? s.views j ≡ some v) × (v.region ≡ suc k) × (get_elem? s.homes k ≡ some none)

-- The rule, where there are at most this many passes, of which each makes at most as many entries as the budget says.
-- Between any two steps it holds that
-- - a region whose word is 0 is home: its value is there, with the region's number, its plain data and its list, and no
--   view notes it (home, fits);
-- - a region whose word is n + 1 is out, with its slot: the view of the number n alone notes it, with the region's list
--   (out, fits); and the list of each region, restricted to a number, is the number's list for the region (parts);
-- - each number that was made is in one view, once, and just one view keeps the count of them; the view that has a
--   number has its list, and a number that was not made has no entry (once, counts, fits, unmade);
-- - a view notes at most one region; the list of a number is of its own entries, numbered from 0; stamps rise in it,
--   and in the list of each region; and a view's last stamp is at least the last one of its lists (mine, listed, fits);
-- - no number's list is longer than the budget, at most 16 numbers are made, and no stamp of a list or of a view is
--   above the count of all entries (few, short, fits, known).
pub record Orderly {W P : Type 0} (region : W → ℕ) (list : W → List Entry) (plain : W → P) (plains : List P)
    (passes budget : ℕ) (s : State (Option W) View) : Type 0 where
  -- how many numbers were made, what was made under each, each region's list, and the seat that notes each region
  pub made : ℕ
  pub lists : ℕ → List Entry
  pub held : ℕ → List Entry
  pub noter : ℕ → ℕ
  pub few : (made ≤ passes) × (passes ≤ 16) × (budget ≤ 4294967296)
  pub wide : length s.words ≡ suc (length s.homes)
  pub home : (k : ℕ) → k < length s.homes → slice_index s.words (suc k) ≡ 0
      → AtHome region list plain plains s.homes k (held k)
  pub out : (k : ℕ) → k < length s.homes → slice_index s.words (suc k) ≢ 0 → IsOut s (noter k) k
  pub parts : (k n : ℕ) → k < length s.homes → own (held k) n ≡ of_region (suc k) (lists n)
  pub fits : (j : ℕ) (v : View) → get_elem? s.views j ≡ some v
      → Fits made (clock_of lists made) lists held noter s.words j v
  pub once : (h : ℕ → ℕ) → total (weigh h) s.views ≡ below h made
  pub counts : Counts made s.views
  pub unmade : (n : ℕ) → made ≤ n → lists n ≡ []
  pub mine : (n : ℕ) → IsMadeBy n (length s.homes) (lists n)
  pub listed : (k : ℕ) → k < length s.homes
      → StampsRise (held k) × AllByRecursion (λ e. e.region ≡ suc k) (held k)
  pub short : (n : ℕ) → length (lists n) ≤ budget
  pub known : (k : ℕ) → k < length s.homes → last_stamp (held k) ≤ clock_of lists made
