use Rattle.std.proofs.Common.{◌≡◌, ◌≤◌, ◌-◌, drop, length, is_some}
use Rattle.c_lexer.specs.Scan as spec
use Rattle.c_lexer.proofs.escapes.means_bytes.Given as goal

abbrev pub invariant-loop-at : goal.invariant-loop-at
invariant-loop-at l = record {
  within : l.at ≤ length l.s;
  same : is_some (spec.meant_bytes 0 (drop l.at l.s)) ≡ is_some (spec.meant_bytes 0 l.s);
}

abbrev pub decreases-loop-at : goal.decreases-loop-at
decreases-loop-at l = length l.s - l.at
