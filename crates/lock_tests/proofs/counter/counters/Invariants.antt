use Rattle.std.proofs.Common.{◌≡◌, vec_len}
use Rattle.lock_tests.specs.Fresh.{IsFresh}
use Rattle.lock_tests.proofs.counter.counters.Given as goal

abbrev pub invariant-loop-at : goal.invariant-loop-at
invariant-loop-at l = (vec_len l.values ≡ l.at) × IsFresh (λ s. s.region) (λ s. s.entries.items) l.values.items
