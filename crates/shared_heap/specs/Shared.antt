-- What contracts see of a shared heap.
use Rattle.std.specs.Prelude.{◌≡◌, ℕ, map}
use Rattle.atomic_table.specs.Seated.{TableId}
use Rattle.lowfat_regions.specs.Regions.{last_region}
use Rattle.c_types.specs.Table.{Types}
use Rattle.region_lock.specs.Shown.{identity_of, regions_of, passes_of, budget_of, plain_data_of}
use Rattle.shared_heap.specs.Regions.{rules_of, fresh_regions}
use Rattle.shared_heap.specs.declared.heap.SharedHeap.TheInside.{Inside}

-- which locks it has, the types that calls name, how many passes there are, and how many calls each may make
pub record Shared : Type 0 where
  pub locks : TableId
  pub types : Types
  pub passes : ℕ
  pub budget : ℕ

abbrev pub shared : Inside → Shared
shared a = record {
  locks = identity_of a.locks;
  types = a.table.now;
  passes = passes_of a.locks;
  budget = budget_of a.locks;
}

-- there is a lock for each of the regions, with its rules
pub record IsShared (a : Inside) : Type 0 where
  pub regions : regions_of a.locks ≡ last_region
  pub rules : plain_data_of rules_of a.locks ≡ map rules_of (fresh_regions a.table.now)
