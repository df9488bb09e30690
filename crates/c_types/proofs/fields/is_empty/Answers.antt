use Rattle.c_types.proofs.Forms.{two_fields, known_at}
use Rattle.c_types.specs.Table.{shape_of}
use Rattle.std.proofs.Common.{arith}
use Rattle.c_types.proofs.fields.is_empty.Goals as goal

pub has-requires : goal.has-requires
has-requires c = known_at c.args.fields.now c.requires 0 c.one-item.result (omega (arith, c.in-len1.len_at_least)) c.one-item.is

pub returns-in_default : goal.returns-in_default
returns-in_default c = two_fields (shape_of c.args.types.now) c.args.fields.now c.in_default.len_at_least
