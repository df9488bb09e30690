use Rattle.std.proofs.Common.{rules}
use Rattle.std.proofs.lemmas.List.Sorted.{IsNonDecreasingBy-from_sort_by_key}
use Rattle.layout_table.specs.Stored.{from_of}
use Rattle.layout_table.proofs.ordering.sort.Goals as goal

pub returns-clause-sorted : goal.returns-clause-sorted
returns-clause-sorted c = IsNonDecreasingBy-from_sort_by_key from_of _ c.sort_unstable_by_key.ensures.sorted (λ a r q
    k. search rules)
