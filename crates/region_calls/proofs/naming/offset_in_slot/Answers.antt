use Rattle.std.proofs.Common.{arith}
use Rattle.region_calls.proofs.Standing.{offset-bound, address-bound}
use Rattle.region_calls.proofs.naming.offset_in_slot.Goals as goal

pub offset_of-requires-clause-address : goal.offset_of-requires-clause-address
offset_of-requires-clause-address c = omega (arith, address-bound c.args.word, c.parts-address.ensures.address)

pub returns-clause-bound : goal.returns-clause-bound
returns-clause-bound c = rw c.offset_of.ensures (offset-bound _ c.parts-address.result.0)
