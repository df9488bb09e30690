use Rattle.std.proofs.Common.{◌∙◌, ap, sym}
use Rattle.std.specs.Int.{w64, cast_signed, cast_unsigned, int_shr}
use Rattle.whole_numbers.specs.Types.{word_of}
use Rattle.whole_numbers.proofs.WordArithmetic.{word_of_down, word_of_signed_down, number_signed, number_unsigned, read_back, down_back}
use Rattle.whole_numbers.proofs.shifts.moved_down.Goals as goal

pub returns-then-kind : goal.returns-then-kind
returns-then-kind c =
    c.cast_unsigned.ensures
    ∙ ap (λ z. cast_unsigned w64 (cast_signed w64 (cast_unsigned w64 (int_shr z c.args.count))))
    (read_back c.args.left _ c.ranges.left.fits c.cast_signed.ensures)
    ∙ ap (cast_unsigned w64) (down_back c.args.left c.args.count c.ranges.left.fits)
    ∙ sym (word_of_signed_down c.args.left c.args.count c.ranges.left.fits)
    ∙ sym (ap (λ z. word_of (int_shr z c.args.count)) (number_signed c.args.kind c.args.left c.if-kind.true))

pub returns-else-kind : goal.returns-else-kind
returns-else-kind c =
    sym (ap (λ z. word_of (int_shr z c.args.count)) (number_unsigned c.args.kind c.args.left c.if-kind.false)
    ∙ word_of_down c.args.left c.args.count c.ranges.left.fits)
