use Rattle.std.proofs.Common.{◌∙◌}
use Rattle.whole_numbers.proofs.WordArithmetic.{word_of_either}
use Rattle.whole_numbers.proofs.arithmetic.bits_of_either.Goals as goal

pub returns-clause-value : goal.returns-clause-value
returns-clause-value c =
    c.extended.ensures.value
    ∙ word_of_either c.args.kind c.args.left c.args.right c.ranges.left.fits c.ranges.right.fits
