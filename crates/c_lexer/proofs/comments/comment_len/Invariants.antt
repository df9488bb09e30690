use Rattle.std.proofs.Common.{◌≡◌, false, drop}
use Rattle.c_lexer.specs.Scan as spec
use Rattle.c_lexer.proofs.Runs.{shifted}
use Rattle.c_lexer.proofs.comments.comment_len.Given as goal

abbrev pub invariant-loop-i : goal.invariant-loop-i
invariant-loop-i l = shifted l.i (spec.comment_len l.star (drop l.i l.s)) ≡ spec.comment_len false l.s
