use Rattle.std.proofs.Common.{◌≡◌, Bool, Some, sym, ap₂, ◌∙◌}
use Rattle.c_types.specs.declared.fields.Extent.{Extent}
use Rattle.c_types.specs.Table.{shape_of}
use Rattle.c_types.specs.Extents.{row_within}
use Rattle.c_types.proofs.Laid.{row_found}
use Rattle.c_types.proofs.fields.shaped.Goals as goal

pub returns-in-Some-clause-row : goal.returns-in-Some-clause-row
returns-in-Some-clause-row c =
    row_found (shape_of c.args.types.now) c.args.union_tag c.args.fields.now c.requires.order c.in-Some.row
    (sym (c.whole_row.ensures ∙ ap₂ row_within c.in_ok-members.ensures.extent c.any_has.ensures) ∙ c.in-Some.is)
