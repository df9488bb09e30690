use Rattle.std.proofs.Common.{◌≡◌, ◌+◌, ◌-◌, ◌≤◌, length}
use Rattle.c_pp.specs.Marked.{marks_of}
use Rattle.c_pp.proofs.Expanding.{IsReading}
use Rattle.c_pp.proofs.expansion.expanded_tokens.Given as goal

abbrev pub invariant-text : goal.invariant-text
invariant-text l = record {
  reading : IsReading l.fn.text l.tokens l.names.numbers.items l.table l.output l.at;
  marked : length (marks_of l.table.marks) ≡ length l.table.bodies.items;
  changes : l.table.marks.changes ≤ l.at + 1;
  within : l.at ≤ length l.tokens;
}

abbrev pub decreases-text : goal.decreases-text
decreases-text l = length l.tokens - l.at
