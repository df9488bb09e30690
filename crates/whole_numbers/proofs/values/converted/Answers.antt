use Rattle.std.proofs.Common.{◌∙◌}
use Rattle.whole_numbers.specs.Types.{converted}
use Rattle.whole_numbers.proofs.Words.{wrapped_as, word_number}
use Rattle.whole_numbers.proofs.values.converted.Goals as goal

pub returns-clause-value : goal.returns-clause-value
unfolding converted
returns-clause-value c =
    c.extended.ensures.value
    ∙ wrapped_as c.args.to _ c.args.word (word_number c.args.from c.args.word c.ranges.word.fits)
