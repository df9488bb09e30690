use Rattle.std.proofs.Common.{◌≡◌, ◌≤◌, ◌-◌, ◌++◌, List, ℕ, drop, length}
use Rattle.std.specs.Option.{option_map}
use Rattle.c_lexer.specs.Scan as spec
use Rattle.c_lexer.proofs.escapes.decode.Given as goal

abbrev pub invariant-loop-at : goal.invariant-loop-at
invariant-loop-at l = record {
  within : l.at ≤ length l.s;
  same : option_map (λ (more : List ℕ). l.bytes.items ++ more) (spec.meant_bytes 0 (drop l.at l.s)) ≡ spec.meant_bytes 0 l.s;
}

abbrev pub decreases-loop-at : goal.decreases-loop-at
decreases-loop-at l = length l.s - l.at
