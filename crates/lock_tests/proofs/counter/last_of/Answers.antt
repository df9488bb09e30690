use Rattle.lock_tests.proofs.Ends.{last_is}
use Rattle.lock_tests.proofs.counter.last_of.Goals as goal

pub returns-in-Some : goal.returns-in-Some
returns-in-Some c = last_is c.args.entries.now _ c.in-Some.ensures.value
