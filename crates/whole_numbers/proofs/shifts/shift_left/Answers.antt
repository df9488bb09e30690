use Rattle.std.proofs.Common.{arith}
use Rattle.whole_numbers.proofs.Traps.{left_answers, left_refuses}
use Rattle.whole_numbers.proofs.shifts.shift_left.Goals as goal

pub returns-then-count-from-clause-value : goal.returns-then-count-from-clause-value
returns-then-count-from-clause-value c =
    left_answers c.args.kind c.args.count_kind c.args.left c.args.count _ c.ranges.left.fits
    (omega (arith, c.bits.ensures, c.from.ensures)) c.extended.ensures.value

pub returns-else-count-from-clause-value : goal.returns-else-count-from-clause-value
returns-else-count-from-clause-value c =
    left_refuses c.args.kind c.args.count_kind c.args.left c.args.count
    (omega (arith, c.bits.ensures, c.from.ensures)) c.ranges.count.fits
