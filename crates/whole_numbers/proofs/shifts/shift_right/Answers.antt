use Rattle.std.proofs.Common.{arith}
use Rattle.whole_numbers.proofs.Traps.{right_answers, right_refuses}
use Rattle.whole_numbers.proofs.shifts.shift_right.Goals as goal

pub returns-then-count-from-clause-value : goal.returns-then-count-from-clause-value
returns-then-count-from-clause-value c =
    right_answers c.args.kind c.args.count_kind c.args.left c.args.count _ _
    (omega (arith, c.bits.ensures, c.from.ensures)) c.moved_down.ensures c.extended.ensures.value

pub returns-else-count-from-clause-value : goal.returns-else-count-from-clause-value
returns-else-count-from-clause-value c =
    right_refuses c.args.kind c.args.count_kind c.args.left c.args.count
    (omega (arith, c.bits.ensures, c.from.ensures)) c.ranges.count.fits
