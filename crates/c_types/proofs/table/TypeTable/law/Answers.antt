use Rattle.std.proofs.Common.{subst}
use Rattle.c_types.specs.Holds.{IsTable}
use Rattle.c_types.specs.Rows.{types_of}
use Rattle.c_types.proofs.Based.{table}
use Rattle.c_types.proofs.table.TypeTable.law.Goals as goal

pub returns : goal.returns
returns c = subst IsTable c.self.view_is
    (table (types_of c.self.inside.kinds.keys c.self.inside.tags.items) c.self.inside.order.items c.self.invariant.base)
