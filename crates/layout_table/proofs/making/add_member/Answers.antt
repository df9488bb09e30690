use Rattle.std.proofs.Common.{arith}
use Rattle.layout_table.proofs.Ready.{part_short}
use Rattle.layout_table.proofs.making.add_member.Goals as goal

pub add_moved-requires-clause-fits : goal.add_moved-requires-clause-fits
add_moved-requires-clause-fits c = λ i d h.
    let ready = c.requires.ready.each c.entry_of-entry.result c.entry_of-entry.ensures in
    let short = part_short c.args.types.now c.args.rows.now c.rows_between-inside.result.now c.args.kind
    c.entry_of-entry.result ready c.rows_between-inside.ensures i d h in
    omega (arith, short.1, ready.sized, c.requires.fits)

pub add_moved-requires-clause-ordered : goal.add_moved-requires-clause-ordered
add_moved-requires-clause-ordered c = λ i d h.
    let ready = c.requires.ready.each c.entry_of-entry.result c.entry_of-entry.ensures in
    (part_short c.args.types.now c.args.rows.now c.rows_between-inside.result.now c.args.kind c.entry_of-entry.result
    ready c.rows_between-inside.ensures i d h).0
