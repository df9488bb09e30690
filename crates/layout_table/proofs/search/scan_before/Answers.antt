use Rattle.c_types.specs.Table.{shape_of}
use Rattle.layout_table.specs.Strides as strides
use Rattle.layout_table.proofs.Scans.{row_ok, before_more, over_end}
use Rattle.layout_table.proofs.search.scan_before.Goals as goal

pub start_to-start-requires-clause-head : goal.start_to-start-requires-clause-head
start_to-start-requires-clause-head c = (row_ok c.args.types.now c.args.levels.now c.args.rows.now
    c.loop-row.row-index _ c.requires.rows c.loop-row-test.true).headed

pub match_at-requires-clause-kind : goal.match_at-requires-clause-kind
match_at-requires-clause-kind c = (row_ok c.args.types.now c.args.levels.now c.args.rows.now c.loop-row.row-index _
    c.requires.rows c.loop-row-test.true).known

pub match_at-requires-clause-step : goal.match_at-requires-clause-step
match_at-requires-clause-step c = (row_ok c.args.types.now c.args.levels.now c.args.rows.now c.loop-row.row-index _
    c.requires.rows c.loop-row-test.true).sized

pub match_at-requires-clause-sized : goal.match_at-requires-clause-sized
match_at-requires-clause-sized c = (row_ok c.args.types.now c.args.levels.now c.args.rows.now c.loop-row.row-index _
    c.requires.rows c.loop-row-test.true).filled

pub loop-row-preserved : goal.loop-row-preserved
loop-row-preserved c = (
  before_more c.args.types.now c.args.levels.now c.args.k (shape_of c.args.types.now c.args.want) c.args.best
      c.loop-row.best c.consider-best.result c.match_at.result
      c.start_to-start.result c.args.rows.now c.args.at c.loop-row.row-index _ c.requires.rows c.loop-row-test.true
      c.loop-row.invariant.0 c.start_to-start.ensures.value c.match_at.ensures.value
      c.consider-best.ensures.value,
  c.consider-best.ensures.ordered,
)

pub returns-clause-value : goal.returns-clause-value
returns-clause-value c =
    over_end c.args.types.now c.args.levels.now c.args.k (shape_of c.args.types.now c.args.want) (strides.before
    c.args.at c.args.k) c.args.best c.loop-row.best c.args.rows.now c.loop-row.row-index
    c.loop-row-test.false c.loop-row.invariant.0
