use Rattle.layout_table.proofs.Copies.{AreNumbersTo}
use Rattle.layout_table.proofs.known.numbers_of_tags.Given as goal

abbrev pub invariant-loop-i : goal.invariant-loop-i
invariant-loop-i l = AreNumbersTo l.types l.i l.numbers.items
