use Rattle.whole_numbers.proofs.Traps.{zero_is}
use Rattle.whole_numbers.proofs.arithmetic.is_zero.Goals as goal

pub returns : goal.returns
returns c = zero_is c.args.kind c.args.word c.ranges.word.fits
