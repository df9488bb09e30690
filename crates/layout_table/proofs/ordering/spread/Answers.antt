use Rattle.std.proofs.Common.{arith}
use Rattle.layout_table.proofs.Raising.{raised_more, all_rising}
use Rattle.layout_table.proofs.ordering.spread.Goals as goal

pub loop-i-preserved : goal.loop-i-preserved
loop-i-preserved c =
    raised_more c.args.rows.now c.loop-i.rows c.raise.new.rows c.loop-i.i (omega arith) (omega (
      arith,
      c.loop-i.invariant.count,
    )) c.requires.sorted c.loop-i.invariant
    c.raise.ensures.raised c.raise.ensures.short

pub returns-clause-sorted : goal.returns-clause-sorted
returns-clause-sorted c = all_rising c.args.rows.now c.loop-i.rows c.loop-i.i (omega (
  arith,
  c.loop-i.invariant.count,
)) c.loop-i.invariant

pub returns-clause-short : goal.returns-clause-short
returns-clause-short c = record { each = c.loop-i.invariant.within }
