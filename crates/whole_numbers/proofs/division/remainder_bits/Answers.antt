use Rattle.std.proofs.Common.{◌∙◌, sym}
use Rattle.std.specs.Prelude.{int_rem}
use Rattle.whole_numbers.specs.Types.{word_of}
use Rattle.whole_numbers.proofs.WordArithmetic.{number_signed, number_unsigned, remainder_is, plain_remainder_is}
use Rattle.whole_numbers.proofs.division.remainder_bits.Goals as goal

pub returns-then-kind : goal.returns-then-kind
returns-then-kind c =
    let k = c.args.kind in
    remainder_is c.args.left c.args.right _ _ _ _ c.ranges.left.fits c.ranges.right.fits c.cast_signed.ensures
    c.cast_signed-then-kind.ensures
    c.wrapping_rem-rest.ensures c.cast_unsigned.ensures
    ∙ (λ i. word_of (int_rem (sym (number_signed k c.args.left c.if-kind.true) i)
    (sym (number_signed k c.args.right c.if-kind.true) i)))

pub returns-else-kind : goal.returns-else-kind
returns-else-kind c =
    let k = c.args.kind in
    plain_remainder_is c.args.left c.args.right c.ranges.left.fits
    ∙ (λ i. word_of (int_rem (sym (number_unsigned k c.args.left c.if-kind.false) i)
    (sym (number_unsigned k c.args.right c.if-kind.false) i)))
