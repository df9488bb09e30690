use Rattle.std.proofs.Common.{◌≡◌, ◌++◌, map, length}
use Rattle.c_types.specs.Table.{shape_of}
use Rattle.type_layout.specs.Runs.{runs_of}
use Rattle.type_layout.specs.Search.{run_in}
use Rattle.type_layout.specs.Pending.{AreFrames, pending}
use Rattle.type_layout.proofs.opening.list_run.Given as goal

abbrev pub invariant-opening : goal.invariant-opening
invariant-opening l =
    AreFrames l.types l.stack.items ×
    (map (run_in l.types) l.runs.items ++ pending l.types l.stack.items ≡
    map (run_in l.types) l.fn.runs.items ++ runs_of (shape_of l.types l.fn.run.kind) l.fn.run.lo l.fn.run.count)

abbrev pub decreases-opening : goal.decreases-opening
decreases-opening l = length (pending l.types l.stack.items)
