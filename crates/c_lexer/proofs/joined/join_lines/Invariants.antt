use Rattle.std.proofs.Common.{◌≡◌, ◌≤◌, ◌+◌, ◌++◌, ℕ, drop, map}
use Rattle.c_lexer.specs.declared.joined.Origin.{Origin}
use Rattle.c_lexer.specs.Joined as spec
use Rattle.c_lexer.specs.Lexes.{AreSmall}
use Rattle.c_lexer.proofs.joined.join_lines.Given as goal

abbrev pub invariant-loop-at : goal.invariant-loop-at
invariant-loop-at l = record {
  bytes : l.bytes.items ++ map (λ (spot : ℕ × Origin). spot.0) (spec.spots l.before l.at l.line (drop l.at l.text)) ≡ spec.joined_bytes l.text;
  origins : l.origins.items ++ map (λ (spot : ℕ × Origin). spot.1) (spec.spots l.before l.at l.line (drop l.at l.text)) ≡ spec.joined_origins l.text;
  small : AreSmall l.at l.origins.items;
  lines : l.line ≤ l.at + 1;
}
