-- What contracts see of locks: which ones they are, how many regions, passes and calls of a pass there are, and the
-- plain data of each region.
use Rattle.std.specs.Prelude.{◌≡◌, ℕ, List, map}
use mathlib.Core.Option.{some}
use lib.ListN.{get_elem?}
use Rattle.atomic_table.specs.Seated.{TableId}
use Rattle.heap_model.specs.declared.calls.Call.{Call}
use Rattle.region_lock.specs.declared.locks.Locks.{Locks}

module _ {V P : Type 0} where
  abbrev pub identity_of : Locks V P → TableId
  identity_of l = l.table.shared.table_id

  abbrev pub regions_of : Locks V P → ℕ
  regions_of l = l.table.shared.table_id.slots

  abbrev pub passes_of : Locks V P → ℕ
  passes_of l = l.table.shared.key.passes

  abbrev pub budget_of : Locks V P → ℕ
  budget_of l = l.table.shared.key.budget

  -- the plain data of the regions, the first region's first
  abbrev pub plain_data_of : (V → P) → Locks V P → List P
  plain_data_of plain l = map plain l.table.shared.key.values.value.items

  -- the plain data of the region k + 1 allows the call
  abbrev pub IsAllowedAt : (V → P) → (P → Call → Type 0) → Locks V P → ℕ → Call → Type 0
  IsAllowedAt plain allows l k call = (p : P) → get_elem? (plain_data_of plain l) k ≡ some p → allows p call
