use Rattle.std.proofs.Common.{◌≡◌, ◌+◌, ◌≤◌, drop, length}
use Rattle.std.specs.Prelude.{filter}
use Rattle.effsan_top.specs.Faults.{is_line_end}
use Rattle.effsan_top.proofs.faults.line_ends.Given as goal

abbrev pub invariant-loop-byte : goal.invariant-loop-byte
invariant-loop-byte l = record {
  counted : l.count + length (filter is_line_end (drop l.byte-index l.text)) ≡ length (filter is_line_end l.text);
  few : l.count ≤ l.byte-index;
}
