use Rattle.std.proofs.Common.{◌≡◌, ◌++◌, drop}
use Rattle.reports.specs.Lines as spec
use Rattle.reports.proofs.endings.ending_lines.Given as goal

abbrev pub invariant-loop-worker : goal.invariant-loop-worker
invariant-loop-worker l =
    l.lines ++ spec.lines_from l.run.history.entries l.types l.worker (drop l.worker l.ending-items) ≡ spec.ending_lines l.run l.types
