use Rattle.std.proofs.Common.{◌≡◌}
use Rattle.shared_tests.proofs.scripts.visit_all.Given as goal

abbrev pub invariant-loop-region : goal.invariant-loop-region
invariant-loop-region g l = l.pass.locks ≡ l.heap.locks
