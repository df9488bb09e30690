use Rattle.std.proofs.Common.{◌≡◌}
use Rattle.shared_tests.proofs.scripts.calls_on.Given as goal

abbrev pub invariant-loop-call : goal.invariant-loop-call
invariant-loop-call g l = l.pass.locks ≡ l.heap.locks
