use Rattle.std.proofs.Common.{◌≡◌, ◌≤◌, length, take}
use Rattle.std.specs.Prelude.{reverse}
use Rattle.declaration_rules.specs.Parts.{made_from}
use Rattle.declarator_rules.proofs.making.made.Given as goal

abbrev pub invariant-loop-left : goal.invariant-loop-left
invariant-loop-left l =
    (made_from l.state (reverse (take l.left l.parts)) l.kind ≡ made_from l.fn.state (reverse l.parts) l.fn.base)
    × (l.left ≤ length l.parts)

abbrev pub decreases-loop-left : goal.decreases-loop-left
decreases-loop-left l = l.left
