use Rattle.std.proofs.Common.{◌≡◌, ◌≤◌, length, drop, []}
use Rattle.program_form.specs.Programs as spec
use Rattle.program_form.proofs.program.functions.Given as goal

abbrev pub invariant-loop-one : goal.invariant-loop-one
invariant-loop-one l = record {
  same : spec.functions l.texts [] [] l.all ≡ spec.functions l.texts l.names l.found (drop l.one-index l.all);
  few : length l.found ≤ l.one-index;
}
