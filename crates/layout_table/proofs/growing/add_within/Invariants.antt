use Rattle.std.proofs.Common.{◌≡◌, ◌++◌, length, map, take}
use Rattle.layout_table.specs.Growing as growing
use Rattle.layout_table.proofs.growing.add_within.Given as goal

abbrev pub invariant-loop-row : goal.invariant-loop-row
invariant-loop-row l =
    (l.levels.items ≡ l.fn.levels.items ++ map (growing.level_around l.stride l.count) (take l.row-index l.rows)) ×
    (l.to.items ≡ l.fn.to.items ++ growing.rows_within l.stride l.count (length l.fn.levels.items) (take l.row-index
    l.rows))
