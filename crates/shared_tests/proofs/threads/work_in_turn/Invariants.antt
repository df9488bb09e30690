use Rattle.std.proofs.Common.{◌≡◌}
use Rattle.std.specs.List.{All}
use Rattle.shared_tests.proofs.threads.work_in_turn.Given as goal

abbrev pub invariant-loop-script : goal.invariant-loop-script
invariant-loop-script g l = All (λ p. p.locks ≡ l.heap.locks) l.passes
