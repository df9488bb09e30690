use Rattle.std.proofs.Common.{◌≡◌, ◌≤◌, length}
use Rattle.operand_plans.proofs.Formats.{kinds_fit, fit_from}
use Rattle.operand_plans.proofs.calls.fit.Given as goal

abbrev pub invariant-loop-part : goal.invariant-loop-part
invariant-loop-part l =
    (kinds_fit l.types l.parts l.kinds ≡ fit_from l.types l.parts l.kinds l.part-index l.used)
    × (l.used ≤ length l.kinds)
