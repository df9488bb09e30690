use Rattle.std.proofs.Common.{◌≡◌, ◌+◌, take}
use Rattle.c_tree.specs.Counts.{capped, nodes_of_values}
use Rattle.c_tree.proofs.counts.+values.Given as goal

abbrev pub invariant-with_values-loop-value : goal.invariant-with_values-loop-value
invariant-with_values-loop-value l = l.total ≡ capped (l.count + nodes_of_values (take l.value-index l.values))
