use Rattle.std.proofs.Common.{◌≡◌, take}
use Rattle.c_types.specs.Table.{shape_of}
use Rattle.type_layout.specs.Search.{best_of, IsOrdered}
use Rattle.type_layout.proofs.preference.preferred.Given as goal

abbrev pub invariant-loop-run : goal.invariant-loop-run
invariant-loop-run l = (l.best ≡ best_of l.types l.k (shape_of l.types l.want) (take l.run-index l.runs)) × IsOrdered l.best
