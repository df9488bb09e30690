use Rattle.layout_table.proofs.Counted.{IsCountedTo}
use Rattle.layout_table.proofs.counting.test_count.Given as goal

abbrev pub invariant-loop-i : goal.invariant-loop-i
invariant-loop-i l = IsCountedTo l.types l.order l.counts.items l.total l.i
