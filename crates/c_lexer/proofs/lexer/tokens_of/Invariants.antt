use Rattle.std.proofs.Common.{◌≤◌, ◌-◌, length}
use Rattle.c_tokens.specs.Limits.{max_tokens}
use Rattle.c_lexer.proofs.Steps.{Completes}
use Rattle.c_lexer.proofs.lexer.tokens_of.Given as goal

abbrev pub invariant-text : goal.invariant-text
invariant-text l = record {
  completes : Completes l.origins l.bytes l.tokens.items (max_tokens - length l.tokens.items) l.at l.first;
  room_in : length l.tokens.items ≤ max_tokens;
  at_in : l.at ≤ length l.bytes;
}

abbrev pub decreases-text : goal.decreases-text
decreases-text l = length l.bytes - l.at
