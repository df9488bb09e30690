use Rattle.std.proofs.Common.{◌∙◌}
use Rattle.whole_numbers.proofs.Words.{wrapped_as}
use Rattle.whole_numbers.proofs.WordArithmetic.{word_of_product}
use Rattle.whole_numbers.proofs.arithmetic.product.Goals as goal

pub returns-clause-value : goal.returns-clause-value
returns-clause-value c =
    c.extended.ensures.value
    ∙ wrapped_as c.args.kind _ _
    (word_of_product c.args.kind c.args.left c.args.right c.ranges.left.fits c.ranges.right.fits)
