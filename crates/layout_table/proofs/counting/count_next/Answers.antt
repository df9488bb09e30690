use Rattle.std.proofs.Common.{arith, get_or, take, ◌+◌}
use Rattle.layout_table.proofs.Orders.{stands_after, part_before, next_or_before, number_known}
use Rattle.layout_table.proofs.Counted.{next_counted}
use Rattle.layout_table.proofs.counting.count_next.Goals as goal

pub inner_of-inner-requires-clause-number : goal.inner_of-inner-requires-clause-number
inner_of-inner-requires-clause-number c =
    let s = stands_after c.args.types.now c.args.order.now c.requires.ordered c.args.i 0 c.requires.within in
    number_known c.args.types.now (get_or c.args.order.now c.args.i 0) s.kind s.is

pub inner_of-inner-requires-clause-counted : goal.inner_of-inner-requires-clause-counted
inner_of-inner-requires-clause-counted c = λ p i.
    let s = stands_after c.args.types.now c.args.order.now c.requires.ordered c.args.i 0 c.requires.within in
    c.requires.so_far.each p (part_before c.args.types.now (take c.args.i c.args.order.now) (get_or c.args.order.now
    c.args.i 0) p s i)

pub overflow_sub-counts : goal.overflow_sub-counts
overflow_sub-counts c =
    let s = stands_after c.args.types.now c.args.order.now c.requires.ordered c.args.i 0 c.requires.within in
    let n = number_known c.args.types.now (get_or c.args.order.now c.args.i 0) s.kind s.is in
    omega (arith, n.0)

pub bounds-counts-t : goal.bounds-counts-t
bounds-counts-t c =
    let s = stands_after c.args.types.now c.args.order.now c.requires.ordered c.args.i 0 c.requires.within in
    let n = number_known c.args.types.now (get_or c.args.order.now c.args.i 0) s.kind s.is in
    omega (arith, n.0, n.1, c.requires.so_far.length_is)

pub size_of-requires : goal.size_of-requires
size_of-requires c =
    let s = stands_after c.args.types.now c.args.order.now c.requires.ordered c.args.i 0 c.requires.within in
    number_known c.args.types.now (get_or c.args.order.now c.args.i 0) s.kind s.is

pub returns-then-is_some-clause-counted : goal.returns-then-is_some-clause-counted
returns-then-is_some-clause-counted c =
    let s = stands_after c.args.types.now c.args.order.now c.requires.ordered c.args.i 0 c.requires.within in
    next_counted c.args.types.now (take c.args.i c.args.order.now) (take (c.args.i + 1) c.args.order.now)
    c.args.counts.now (get_or c.args.order.now c.args.i 0) c.inner_of-inner.result
    (number_known c.args.types.now (get_or c.args.order.now c.args.i 0) s.kind s.is) c.inner_of-inner.ensures
    c.requires.so_far (λ n. next_or_before c.args.order.now c.args.i 0 n c.requires.within)

pub returns-else-is_some-clause-counted : goal.returns-else-is_some-clause-counted
returns-else-is_some-clause-counted c =
    let s = stands_after c.args.types.now c.args.order.now c.requires.ordered c.args.i 0 c.requires.within in
    next_counted c.args.types.now (take c.args.i c.args.order.now) (take (c.args.i + 1) c.args.order.now)
    c.args.counts.now (get_or c.args.order.now c.args.i 0) c.inner_of-inner.result
    (number_known c.args.types.now (get_or c.args.order.now c.args.i 0) s.kind s.is) c.inner_of-inner.ensures
    c.requires.so_far (λ n. next_or_before c.args.order.now c.args.i 0 n c.requires.within)
