use Rattle.std.proofs.Common.{◌≡◌, length}
use Rattle.c_types.specs.Adding.{any}
use Rattle.c_types.specs.Shapes.{is_open}
use Rattle.c_types.specs.Table.{shape_of}
use Rattle.declarator_rules.proofs.arrays.any_open.Given as goal

abbrev pub invariant-loop-members : goal.invariant-loop-members
invariant-loop-members l =
    any (λ m. is_open (shape_of l.types m.kind)) l.members ≡ any (λ m. is_open (shape_of l.types m.kind)) l.initial.members

abbrev pub decreases-loop-members : goal.decreases-loop-members
decreases-loop-members l = length l.members
