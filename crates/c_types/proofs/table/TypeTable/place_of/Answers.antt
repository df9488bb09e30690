use Rattle.std.proofs.Common.{◌≡◌, ap, ◌∙◌, position}
use Rattle.c_types.specs.Adding.{is_same}
use Rattle.c_types.proofs.Places.{equal, same, place_alike}
use Rattle.c_types.proofs.table.TypeTable.place_of.Goals as goal

pub returns : goal.returns
returns c =
    c.get_index_of.ensures.index ∙
    (place_alike (equal c.args.kind) (is_same c.args.kind) (same c.args.kind) c.self.inside.kinds.keys ∙
    ap (λ t. position (is_same c.args.kind) t.kinds) c.self.view_is)
