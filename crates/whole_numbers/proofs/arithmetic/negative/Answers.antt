use Rattle.std.proofs.Common.{◌∙◌}
use Rattle.whole_numbers.proofs.Words.{wrapped_as}
use Rattle.whole_numbers.proofs.WordArithmetic.{word_of_negative}
use Rattle.whole_numbers.proofs.arithmetic.negative.Goals as goal

pub returns-clause-value : goal.returns-clause-value
returns-clause-value c =
    c.extended.ensures.value ∙ wrapped_as c.args.kind _ _ (word_of_negative c.args.kind c.args.word c.ranges.word.fits)
