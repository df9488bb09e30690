-- What a pass stands for.
use Rattle.std.specs.Prelude.{◌≡◌, ℕ, suc, ◌+◌, false, List, [], ◌∷◌, length, Option, None, max}
use Rattle.atomic_table.specs.Table.{Me}
use Rattle.heap_model.specs.declared.calls.Entry.{Entry}
use Rattle.region_lock.specs.Entries.{last_stamp}
use Rattle.region_lock.specs.Rule.{view}
use Rattle.region_lock.specs.Plays.{noting}
use Rattle.region_lock.specs.declared.view.View.{View}

-- the view of the pass n, which made these entries
abbrev pub pass_view : ℕ → List Entry → ℕ → View
pass_view n l last = view ((n, l) ∷ []) last 0 [] false 0

abbrev pub first_list : List (ℕ × List Entry) → List Entry
first_list [] = []
first_list (o ∷ os) = o.1

abbrev pub list_in : View → List Entry
list_in v = first_list v.owns

-- the pass n holds nothing
abbrev pub IsResting : {S : Type 0} → ℕ → Me S View → Type 0
IsResting n m = m ≡ (pass_view n (list_in m.0) m.0.last, [])

-- the pass n holds the region k + 1, whose value it took out
abbrev pub IsHolding : {W : Type 0} → ℕ → ℕ → Me (Option W) View → Type 0
IsHolding n k m = m ≡ (noting (pass_view n (list_in m.0) m.0.last) (suc k) m.0.noted, (k, None) ∷ [])

-- the entry is the next one of the pass n, in the region k + 1
abbrev pub IsNext : ℕ → ℕ → View → Entry → Type 0
IsNext n k v e =
    (e.worker ≡ n) × (e.region ≡ suc k) × (e.number ≡ length (list_in v))
    × (e.stamp ≡ max v.last (last_stamp v.noted) + 1)

-- the list of the one view
abbrev pub made_list : List View → List Entry
made_list [] = []
made_list (v ∷ vs) = list_in v
