use Rattle.std.proofs.Common.{take}
use Rattle.layout_table.specs.Making.{IsSoFar}
use Rattle.layout_table.proofs.table.Table.build.Given as goal

abbrev pub invariant-loop-i : goal.invariant-loop-i
invariant-loop-i l = IsSoFar l.types (take l.i l.numbers) l.entries.items l.rows.items l.levels.items
