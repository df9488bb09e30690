use Rattle.std.proofs.Common.{◌≡◌, ◌+◌, subst, arith, sym, ap, ◌∙◌, sum_by, take}
use Rattle.std.proofs.lemmas.List.{take_all}
use Rattle.layout_table.specs.Tables.{counted, rows_total}
use Rattle.layout_table.specs.Counting.{IsCounted}
use Rattle.layout_table.proofs.Counted.{written_back, order_total, total_more, too_many}
use Rattle.layout_table.proofs.counting.test_count.Goals as goal

pub overflow_add-total : goal.overflow_add-total
overflow_add-total c = omega (arith, c.loop-i.invariant.few, c.count_next-total.ensures.small)

pub returns-then-total-gt-MAX_ROWS-clause-told : goal.returns-then-total-gt-MAX_ROWS-clause-told
returns-then-total-gt-MAX_ROWS-clause-told c =
    too_many c.args.types.now c.known_types-order.result.now c.loop-i.total c.count_next-total.result c.loop-i.i
    c.loop-i-test.true c.loop-i.invariant.total_is c.count_next-total.ensures.rows
    (rows_total c.args.types.now) (order_total c.args.types.now c.law_table.ensures c.known_types-order.result.now
    c.known_types-order.ensures.ordered c.known_types-order.ensures.all) c.if-total-gt-MAX_ROWS.true

pub loop-i-preserved : goal.loop-i-preserved
loop-i-preserved c = record {
  so_far =
      subst (IsCounted c.args.types.now (take (c.loop-i.i + 1) c.known_types-order.result.now))
      (sym (written_back c.loop-i.counts.len c.count_next-total.new.counts c.loop-i.counts.items (omega (
        arith,
        c.loop-i.counts.ok.0,
      ))
      (omega (arith, c.count_next-total.ensures.counted.length_is, c.loop-i.invariant.so_far.length_is))))
      c.count_next-total.ensures.counted;
  total_is = total_more c.args.types.now c.known_types-order.result.now c.loop-i.total c.count_next-total.result
      c.loop-i.i c.loop-i-test.true c.loop-i.invariant.total_is c.count_next-total.ensures.rows
      (omega (arith, c.if-total-gt-MAX_ROWS.false));
  few = omega (arith, c.if-total-gt-MAX_ROWS.false);
}

pub returns-clause-few : goal.returns-clause-few
returns-clause-few c =
    let e : c.loop-i.total ≡ rows_total c.args.types.now = c.loop-i.invariant.total_is ∙
    ap (sum_by (counted c.args.types.now)) (take_all c.loop-i.i c.known_types-order.result.now
    c.loop-i-test.false) ∙
    order_total c.args.types.now c.law_table.ensures c.known_types-order.result.now
    c.known_types-order.ensures.ordered c.known_types-order.ensures.all in
    omega (arith, e, c.loop-i.invariant.few)
