use Rattle.std.proofs.Common.{◌+◌, ◌*◌}
use Rattle.program_form.proofs.numbers.+number.Given as goal

abbrev pub decreases-number : goal.decreases-number
decreases-number l = 2 * l.depth

abbrev pub decreases-number_by : goal.decreases-number_by
decreases-number_by l = 2 * l.depth + 1
