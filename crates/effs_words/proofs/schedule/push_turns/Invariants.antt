use Rattle.std.proofs.Common.{◌≡◌, ◌++◌, replicate}
use Rattle.effs_words.proofs.schedule.push_turns.Given as goal

abbrev pub invariant-loop : goal.invariant-loop
invariant-loop l = l.schedule ≡ l.fn.schedule ++ replicate l.counter l.worker
