use Rattle.std.proofs.Common.{◌≡◌, ◌≤◌, ◌⊎◌, [], ◌++◌, length}
use Rattle.std.specs.Prelude.{reverse}
use Rattle.declarator_rules.proofs.marks.split_items.Given as goal

abbrev pub invariant-loop-from : goal.invariant-loop-from
invariant-loop-from g l =
    (l.from ++ reverse l.taken.items ≡ l.fn.from) × ((l.start ≤ length l.from) ⊎ (l.taken.items ≡ []))

abbrev pub decreases-loop-from : goal.decreases-loop-from
decreases-loop-from g l = length l.from
