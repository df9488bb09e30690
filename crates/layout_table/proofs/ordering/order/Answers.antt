use Rattle.std.proofs.lemmas.List.Sorted.{IsPermutation-sym}
use Rattle.layout_table.proofs.Raising.{same_rows, both_orders, all_short}
use Rattle.layout_table.proofs.ordering.order.Goals as goal

pub returns-clause-ordered : goal.returns-clause-ordered
returns-clause-ordered c =
    both_orders c.args.rows.now c.sort.new.rows c.spread.new.rows c.requires.each (IsPermutation-sym _ _
    c.sort.ensures.same) c.sort.ensures.sorted c.spread.ensures.raised c.spread.ensures.sorted

pub returns-clause-same : goal.returns-clause-same
returns-clause-same c = same_rows c.args.rows.now c.sort.new.rows c.spread.new.rows c.sort.ensures.same
    (IsPermutation-sym _ _ c.sort.ensures.same) c.spread.ensures.raised

pub returns-clause-short : goal.returns-clause-short
returns-clause-short c = record {
  each = all_short c.args.rows.now c.sort.new.rows c.spread.new.rows
      (IsPermutation-sym _ _ c.sort.ensures.same) c.spread.ensures.short.each;
}
