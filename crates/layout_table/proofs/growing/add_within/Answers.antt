use Rattle.std.proofs.Common.{arith, length}
use Rattle.layout_table.specs.Growing as growing
use Rattle.layout_table.proofs.Growth.{map_more, levels_so_far, within_more}
use Rattle.layout_table.proofs.growing.add_within.Goals as goal

pub loop-row-preserved : goal.loop-row-preserved
loop-row-preserved c = (
  map_more (growing.level_around c.args.stride c.args.count) c.args.rows.now c.args.levels.now.items
      c.loop-row.levels.items c.push_within.new.levels.items c.loop-row.row-index
      _ c.loop-row-test.true c.loop-row.invariant.0 c.in_ok-push_within.ensures.levels,
  within_more c.args.stride c.args.count c.args.rows.now c.args.to.now.items c.loop-row.to.items
      c.push_within.new.to.items (length c.args.levels.now.items) c.loop-row.row-index
      (length c.loop-row.levels.items) _ c.loop-row-test.true c.loop-row.invariant.1
      (levels_so_far (growing.level_around c.args.stride c.args.count) c.args.rows.now c.args.levels.now.items
      c.loop-row.levels.items c.loop-row.row-index (omega arith)
      c.loop-row.invariant.0)
      c.in_ok-push_within.ensures.rows,
)
