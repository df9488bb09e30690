use Rattle.std.proofs.Common.{◌≡◌, ◌-◌, ◌<◌, ◌^◌, ℕ, Bool, true, false, Some, None, Ok, suc, map, length, slice_get, position, IfSome, IfOk, OnOk, OnErr, IsFalse, Contains, ◌+◌, ◌*◌, ◌≤◌}
use Rattle.c_types.specs.declared.kinds.CType.TheVariants.{Pointer, Array, Flexible}
use Rattle.c_types.specs.declared.rows.Form.TheVariants as form
use Rattle.c_types.specs.Shapes as trees
use Rattle.c_types.specs.Table as spec
use Rattle.c_types.specs.Shapes.{size_of_shape, alignment_of_shape, is_unknown}
use Rattle.c_types.specs.Table.{IsNumber, basic_types, kind_of, shape_of, shape_of_kind, fields_of}
use Rattle.c_types.specs.Adding.{added, added_tag, array_fault, open_fault, is_same, members_fault, fault_beside, completed, completed_tags, tag_kind, tag_of}
use Rattle.c_types.specs.Calls.{Refuses, IsTagOf, AreFields}
use Rattle.c_types.specs.Holds.{IsTable, IsOrdered, IsMade}
use Rattle.c_types.specs.Rows.{IsPlain, IsSmall, IsLaid, IsSomeTag, row_of, field_of}
use Rattle.std.proofs.Common.{take, fold, []}
use Rattle.indexmap.specs.IndexSet.{insert_key}
use Rattle.c_types.proofs.Places.{equal}
use Rattle.c_types.proofs.table.TypeTable.new.Given as goal

abbrev pub invariant-loop-kind : goal.invariant-loop-kind
invariant-loop-kind l = l.kinds.keys ≡ fold (insert_key equal) [] (take l.kind-index l.kind-items)
