use Rattle.std.proofs.Common.{◌≡◌, ◌-◌, length, Some, slice_get, arith, refl, ap, sym}
use Rattle.std.proofs.lemmas.Option.{slice_get_read}
use Rattle.c_types.proofs.Kept.{row_small}
use Rattle.c_types.proofs.table.TypeTable.row.Goals as goal

pub returns-clause-small : goal.returns-clause-small
returns-clause-small c =
    let same : length c.args.self.now.kinds ≡ length c.self.inside.kinds.keys = ap (λ t. length t.kinds) (sym c.self.view_is) in
    let at : slice_get c.self.inside.rows.items (c.args.t - 1) ≡ Some c.index.result.now =
    slice_get_read c.self.inside.rows.items (length c.self.inside.rows.items) (c.args.t - 1) c.index.result.now refl
    (omega (arith, c.requires.0, c.requires.1, same, c.self.invariant.rows_length)) c.index.ensures in
    row_small c.self.inside.kinds.keys c.self.inside.rows.items c.self.inside.tags.items c.self.inside.order.items c.self.invariant (c.args.t - 1)
    c.index.result.now at
