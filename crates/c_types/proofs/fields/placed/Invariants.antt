use Rattle.std.proofs.Common.{◌≡◌, ◌+◌, ◌≤◌, ◌<◌, ◌||◌, ◌∷◌, [], max, map, IfOk, IsFalse, ℕ, ◌-◌, ◌*◌, length}
use Rattle.c_types.specs.declared.kinds.TypeError.TheVariants as why
use Rattle.c_types.specs.Shapes as trees
use Rattle.c_types.specs.Adding as spec
use Rattle.c_types.specs.Table.{fields_of, shape_of, members_of_fields}
use Rattle.c_types.specs.Adding.{any, first_of, shapes, members_fault, fault_beside, tag_of}
use Rattle.c_types.specs.Calls.{Refuses, IsTagOf, AreFields}
use Rattle.c_types.specs.Rows.{IsLaid, IsSmall, field_of, has_form, members_as}
use Rattle.c_types.specs.Extents.{offset_after, extent_of, too_large, row_within}
use Rattle.c_types.proofs.Reached.{Reaches}
use Rattle.c_types.proofs.fields.placed.Given as goal

abbrev pub invariant-loop-field : goal.invariant-loop-field
invariant-loop-field l = Reaches l.union_tag (shape_of l.types) l.fields l.field-index l.members l.extent
