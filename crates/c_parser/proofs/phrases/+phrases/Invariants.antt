use Rattle.std.proofs.Common.{◌+◌, ◌*◌}
use Rattle.c_parser.proofs.phrases.+phrases.Given as goal

abbrev pub decreases-expression : goal.decreases-expression
decreases-expression l = 2 * l.depth

abbrev pub decreases-specs : goal.decreases-specs
decreases-specs l = 2 * l.depth + 1

abbrev pub decreases-declarator : goal.decreases-declarator
decreases-declarator l = 2 * l.depth + 1
