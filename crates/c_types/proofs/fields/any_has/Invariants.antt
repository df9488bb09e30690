use Rattle.std.proofs.Common.{◌≡◌, ◌+◌, ◌≤◌, ◌<◌, ◌||◌, ◌∷◌, [], max, map, IfOk, IsFalse, ℕ, ◌-◌, ◌*◌, length}
use Rattle.c_types.specs.declared.kinds.TypeError.TheVariants as why
use Rattle.c_types.specs.Shapes as trees
use Rattle.c_types.specs.Adding as spec
use Rattle.c_types.specs.Table.{fields_of, shape_of, members_of_fields}
use Rattle.c_types.specs.Adding.{any, first_of, shapes, members_fault, fault_beside, tag_of}
use Rattle.c_types.specs.Calls.{Refuses, IsTagOf, AreFields}
use Rattle.c_types.specs.Rows.{IsLaid, IsSmall, field_of, has_form, members_as}
use Rattle.c_types.specs.Extents.{offset_after, extent_of, too_large, row_within}
use Rattle.std.proofs.Common.{take, false}
use Rattle.c_types.proofs.fields.any_has.Given as goal

abbrev pub invariant-loop-field : goal.invariant-loop-field
invariant-loop-field l = any (has_form l.form) (shapes (shape_of l.types) (take l.field-index l.fields)) ≡ false
