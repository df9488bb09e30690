use Rattle.std.proofs.Common.{sym, subst, ◌*◌, ◌≤◌, ℕ}
use Rattle.layout_table.proofs.Ready.{part_short, array_fits}
use Rattle.layout_table.proofs.making.rows_of_array.Goals as goal

pub add_within-requires-clause-fits : goal.add_within-requires-clause-fits
add_within-requires-clause-fits c = λ i d h.
    let ready = c.requires.ready.each c.entry_of-entry.result c.entry_of-entry.ensures in
    let short = part_short c.args.types.now c.args.rows.now c.rows_between-inside.result.now c.args.of
    c.entry_of-entry.result ready c.rows_between-inside.ensures i d h in
    array_fits _ c.entry_of-entry.result.size c.args.count short.1 c.requires.filled (subst (λ (n : ℕ). c.args.count
    * n ≤ 1048559) (sym ready.sized) c.requires.fits)
