use Rattle.std.proofs.Common.{suc, length}
use Rattle.c_types.proofs.table.TypeTable.add_array.Goals as goal

pub add-requires-clause-row : goal.add-requires-clause-row
add-requires-clause-row c = c.in_ok-row.ensures.row (suc (length c.args.self.now.kinds))
