use Rattle.std.proofs.Common.{◌≡◌, ◌++◌, length}
use Rattle.std.specs.Prelude.{reverse}
use Rattle.declaration_rules.specs.Stores.{placed}
use Rattle.initialiser_steps.specs.Objects.{place_of}
use Rattle.initialiser_steps.proofs.placing.initials.Given as goal

abbrev pub invariant-loop-store : goal.invariant-loop-store
invariant-loop-store l =
    l.made ++ placed l.line (place_of l.line l.kind l.object) (reverse l.waiting)
    ≡ placed l.line (place_of l.line l.kind l.object) l.fn.stores

abbrev pub decreases-loop-store : goal.decreases-loop-store
decreases-loop-store l = length l.waiting
