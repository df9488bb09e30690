use Rattle.std.proofs.Common.{◌≡◌, ◌≤◌, length}
use Rattle.layout_table.specs.Strides as strides
use Rattle.layout_table.specs.Stored.{chain}
use Rattle.layout_table.proofs.search.descend.Given as goal

abbrev pub invariant-loop-head : goal.invariant-loop-head
invariant-loop-head l = (l.head ≤ length l.levels) × (strides.descend (chain l.levels l.head) l.at ≡ strides.descend
    (chain l.levels l.fn.head) l.fn.at)

abbrev pub decreases-loop-head : goal.decreases-loop-head
decreases-loop-head l = l.head
