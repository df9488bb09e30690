use Rattle.std.proofs.Common.{◌≡◌, ◌+◌, take}
use Rattle.c_tree.specs.Counts.{capped, nodes_of_initials}
use Rattle.c_tree.proofs.counts.with_initials.Given as goal

abbrev pub invariant-loop-store : goal.invariant-loop-store
invariant-loop-store l = l.total ≡ capped (l.count + nodes_of_initials (take l.store-index l.stores))
