use Rattle.std.proofs.Common.{◌≡◌, ◌<◌, ◌-◌, ◌++◌, replicate}
use Rattle.c_types.specs.Table.{IsNumber}
use Rattle.reports.specs.TypeNames.{name_within, type_name}
use Rattle.reports.proofs.type_name.base_and_stars.Given as goal

abbrev pub invariant-loop-pointers : goal.invariant-loop-pointers
invariant-loop-pointers l =
    (0 < l.number → IsNumber l.types l.at) × (name_within (l.number - l.pointers) l.types l.at ++ replicate l.pointers 42 ≡ type_name l.types l.number)
