-- What a merge has done so far, and what is left.
use Rattle.std.specs.Prelude.{ℕ, ◌≡◌, ◌<◌, ◌≤◌, ◌==◌, true, List, [], ◌++◌, length, drop, slice_index_or, IsPermutation, count_by}
use Rattle.std.specs.List.{AllByRecursion, HoldsAt, flat_map}
use Rattle.std.specs.Ordering.{nat_cmp, ordering_then}
use Rattle.std.specs.declared.cmp.Ordering.{Ordering}
use Rattle.std.specs.declared.cmp.Reverse.{Reverse}
use Rattle.heap_model.specs.History.{Log}
use Rattle.heap_model.specs.Order.{before, Rises}
use Rattle.heap_model.specs.declared.calls.Entry.{Entry}
use Rattle.clock_order.specs.declared.head.Head.{Head}

-- the entries of the part at a place
abbrev pub part_at : List Log → ℕ → List Entry
part_at parts k = (slice_index_or parts k (record { entries = []; spare = 0 })).entries

-- the entries of a head's part from the head on
abbrev pub left_of : List Log → Head → List Entry
left_of parts h = drop h.at (part_at parts h.part)

-- the entries from the heads on
abbrev pub left : List Log → List (Reverse Head) → List Entry
left parts heads = flat_map (λ h. left_of parts h.0) heads

-- the head stands for an entry of a part
pub record IsHead (parts : List Log) (h : Head) : Type 0 where
  pub inside : h.part < length parts
  pub below : h.at < length (part_at parts h.part)
  pub stamp : HoldsAt (λ e. e.stamp ≡ h.stamp) (part_at parts h.part) h.at
  pub region : HoldsAt (λ e. e.region ≡ h.region) (part_at parts h.part) h.at

-- each is a head, and of each part there is one at most
pub record AreHeads (parts : List Log) (heads : List (Reverse Head)) : Type 0 where
  pub each : AllByRecursion (λ h. IsHead parts h.0) heads
  pub once : (k : ℕ) → count_by (λ h. h.0.part == k) heads ≤ 1

-- heads by stamp, then by region and place, the least one on top
abbrev pub head_cmp : Reverse Head → Reverse Head → Ordering
head_cmp x y =
    ordering_then (nat_cmp y.0.stamp x.0.stamp)
    (ordering_then (nat_cmp y.0.region x.0.region)
    (ordering_then (nat_cmp y.0.part x.0.part) (nat_cmp y.0.at x.0.at)))

-- all entries are done or left, those that are done rise, and stand before those that are left
pub record IsMoved (all rest done : List Entry) : Type 0 where
  pub moved : IsPermutation all (done ++ rest)
  pub rises : Rises done
  pub ahead : AllByRecursion (λ d. AllByRecursion (λ f. before d f ≡ true) rest) done
