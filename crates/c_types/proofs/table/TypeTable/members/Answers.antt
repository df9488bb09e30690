use Rattle.std.proofs.Common.{true, false}
use Rattle.c_types.proofs.table.TypeTable.members.Goals as goal

pub returns-in-Struct : goal.returns-in-Struct
returns-in-Struct c = c.members_of.ensures false c.args.t c.in-Struct.ensures.kind

pub returns-in-Union : goal.returns-in-Union
returns-in-Union c = c.members_of-in-Union.ensures true c.args.t c.in-Union.ensures.kind
