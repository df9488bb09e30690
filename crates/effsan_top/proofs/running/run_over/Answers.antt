use Rattle.effsan_top.proofs.Endings.{knows_types}
use Rattle.effsan_top.proofs.running.run_over.Goals as goal

pub printed-requires-clause-known : goal.printed-requires-clause-known
printed-requires-clause-known c = knows_types c.law_wants.ensures _ _ _ c.in_ok-run.ensures.run
