use Rattle.std.proofs.Common.{take, get_or, ◌+◌}
use Rattle.c_types.specs.Table.{shape_of}
use Rattle.layout_table.proofs.Made.{some_size, no_size, one_skipped}
use Rattle.layout_table.proofs.Orders.{stands_after, parts_so_far, next_or_before, number_known}
use Rattle.layout_table.proofs.making.add_next.Goals as goal

pub size_of-requires : goal.size_of-requires
size_of-requires c =
    let s = stands_after c.args.types.now c.args.numbers.now c.requires.ordered c.args.i 0 c.requires.within in
    number_known c.args.types.now (get_or c.args.numbers.now c.args.i 0) s.kind s.is

pub add_type-requires-clause-known : goal.add_type-requires-clause-known
add_type-requires-clause-known c =
    let s = stands_after c.args.types.now c.args.numbers.now c.requires.ordered c.args.i 0 c.requires.within in (
      number_known c.args.types.now (get_or c.args.numbers.now c.args.i 0) s.kind s.is,
      (some_size (shape_of
          c.args.types.now (get_or c.args.numbers.now c.args.i 0)) c.in-Some.size c.in-Some.ensures).0,
    )

pub add_type-requires-clause-parts : goal.add_type-requires-clause-parts
add_type-requires-clause-parts c =
    let s = stands_after c.args.types.now c.args.numbers.now c.requires.ordered c.args.i 0 c.requires.within in
    parts_so_far c.args.types.now (take c.args.i c.args.numbers.now) c.args.entries.now c.args.rows.now.items
    c.args.levels.now.items (get_or c.args.numbers.now c.args.i 0) s c.requires.so_far

pub returns-in_ok-add_type-in-Some : goal.returns-in_ok-add_type-in-Some
returns-in_ok-add_type-in-Some c =
    c.in_ok-add_type-in-Some.ensures (take c.args.i c.args.numbers.now) (take (c.args.i + 1) c.args.numbers.now)
    c.requires.so_far
    (λ n. next_or_before c.args.numbers.now c.args.i 0 n c.requires.within)

pub returns-in-None : goal.returns-in-None
returns-in-None c =
    one_skipped c.args.types.now (take c.args.i c.args.numbers.now) (take (c.args.i + 1) c.args.numbers.now)
    c.args.entries.now c.args.rows.now.items c.args.levels.now.items
    (get_or c.args.numbers.now c.args.i 0) (no_size (shape_of c.args.types.now (get_or c.args.numbers.now c.args.i
    0)) c.in-None.ensures) c.requires.so_far
    (λ n. next_or_before c.args.numbers.now c.args.i 0 n c.requires.within)
