use Rattle.whole_numbers.proofs.Traps.{equal_is}
use Rattle.whole_numbers.proofs.arithmetic.is_equal.Goals as goal

pub returns : goal.returns
returns c = equal_is c.args.kind c.args.left c.args.right c.ranges.left.fits c.ranges.right.fits
