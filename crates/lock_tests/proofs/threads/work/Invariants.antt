use Rattle.std.proofs.Common.{◌≡◌, ◌+◌, ◌≤◌, length}
use Rattle.lock_tests.proofs.threads.work.Given as goal

abbrev pub invariant-loop-turn : goal.invariant-loop-turn
invariant-loop-turn g l = (l.pass.locks ≡ l.fn.pass.locks) × (length l.pass.list ≤ length l.fn.pass.list + l.turn)
