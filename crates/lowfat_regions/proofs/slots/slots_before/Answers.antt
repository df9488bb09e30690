use Rattle.std.proofs.Common.{arith}
use Rattle.lowfat_regions.proofs.Division.{quotient_in, product_fits}
use Rattle.lowfat_regions.proofs.slots.slots_before.Goals as goal

pub returns : goal.returns
returns c = quotient_in c.args.bytes c.args.region c.args.shape c.requires.region c.requires.shape c.requires.few

pub overflow_mul-result : goal.overflow_mul-result
overflow_mul-result c = omega (arith, product_fits c.args.bytes c.args.region c.args.shape c.requires.region c.requires.shape c.requires.few)
