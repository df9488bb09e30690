-- The numbers of the workers' calls.
use Rattle.std.specs.Prelude.{ℕ, unwrap_or}
use Rattle.std.specs.Ordering.{nat_cmp}
use Rattle.std.specs.BTreeMap.{get}
use Rattle.region_heaps.specs.declared.numbers.Numbers.{Numbers}

-- how many calls a worker has made
abbrev pub count_of : Numbers → ℕ → ℕ
count_of numbers worker = unwrap_or (get nat_cmp numbers.made worker) 0
