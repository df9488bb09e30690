use Rattle.std.proofs.Common.{◌≡◌, take}
use Rattle.c_types.specs.Table.{shape_of}
use Rattle.type_layout.specs.Search.{IsOrdered}
use Rattle.layout_table.specs.Strides as strides
use Rattle.layout_table.proofs.Scans.{over}
use Rattle.layout_table.proofs.search.scan_around.Given as goal

abbrev pub invariant-loop-row : goal.invariant-loop-row
invariant-loop-row l =
    (l.best ≡ over l.types l.levels l.k (shape_of l.types l.want) (strides.around l.at l.k) l.fn.best (take
    l.row-index l.rows)) × IsOrdered l.best
