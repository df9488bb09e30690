use Rattle.std.proofs.Common.{◌≡◌}
use Rattle.shared_tests.proofs.scripts.repeat.Given as goal

abbrev pub invariant-loop-turn : goal.invariant-loop-turn
invariant-loop-turn g l = l.pass.locks ≡ l.heap.locks
