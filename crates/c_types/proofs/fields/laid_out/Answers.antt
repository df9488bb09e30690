use Rattle.std.proofs.Common.{◌≡◌, ◌||◌, [], ℕ, List, Option, Some, None, true, false, sym, ap, subst, ◌∙◌}
use Rattle.c_types.specs.declared.kinds.TypeError.{TypeError}
use Rattle.c_types.specs.Shapes.{size}
use Rattle.c_types.specs.Table.{fields_of, members_of_fields, shape_of}
use Rattle.c_types.specs.Adding.{first_of, fault_beside, has_two_of_a_name, members_fault, tag_of, whole_of}
use Rattle.c_types.specs.Calls.{IsTold}
use Rattle.c_types.specs.Extents.{too_large}
use Rattle.c_types.specs.Rows.{has_fields}
use Rattle.c_types.proofs.Laid.{told, misused, misuses, last_fault, size_any, laid_is, fields_are, no_fault}
use Rattle.c_types.proofs.fields.laid_out.Goals as goal

pub returns-in-Some-clause-fault : goal.returns-in-Some-clause-fault
returns-in-Some-clause-fault c =
    told (fault_beside (fields_of c.args.types.now.tags (tag_of c.args.types.now c.args.tag))
    (members_fault (shape_of c.args.types.now) c.args.union_tag c.args.tag c.args.fields.now)) c.in-Some.why
    (misused (shape_of c.args.types.now) c.args.union_tag c.args.tag (fields_of c.args.types.now.tags (tag_of c.args.types.now c.args.tag))
    c.args.fields.now c.in-Some.why (sym c.in_ok-repeats.ensures ∙ c.if-branch.false) (sym c.misuse.ensures ∙ c.in-Some.is))

pub returns-in-Err-clause-fault : goal.returns-in-Err-clause-fault
returns-in-Err-clause-fault c =
    subst (λ (fault : Option TypeError). IsTold fault c.in-Err.why)
    (sym (last_fault (shape_of c.args.types.now) c.args.union_tag c.args.tag (fields_of c.args.types.now.tags (tag_of c.args.types.now c.args.tag))
    c.args.fields.now (sym c.in_ok-repeats.ensures ∙ c.if-branch.false) (sym c.in_default.ensures) ∙
    ap (λ bytes. too_large bytes)
    (size_any c.args.union_tag c.args.tag 0 (members_of_fields (shape_of c.args.types.now) c.args.fields.now))))
    c.in-Err.ensures.fault

pub returns-in-Ok-clause-laid : goal.returns-in-Ok-clause-laid
returns-in-Ok-clause-laid c =
    laid_is c.args.types.now c.args.union_tag c.args.tag c.requires.tag.0 c.args.fields.now c.in-Ok.members c.in-Ok.row c.requires.tag.1
    (sym c.in_ok-repeats.ensures ∙ c.if-branch.false) (sym c.in_default.ensures) c.in-Ok.ensures.fault c.requires.fields
    c.in-Ok.ensures.members c.in-Ok.ensures.row c.tag_of.result c.tag_of.ensures.number

pub returns-in-Ok-clause-fields : goal.returns-in-Ok-clause-fields
returns-in-Ok-clause-fields c =
    fields_are c.args.types.now c.args.union_tag c.args.tag c.requires.tag.0 c.args.fields.now c.in-Ok.members c.in-Ok.row c.requires.tag.1
    (sym c.in_ok-repeats.ensures ∙ c.if-branch.false) (sym c.in_default.ensures) c.in-Ok.ensures.fault c.requires.fields
    c.in-Ok.ensures.members c.in-Ok.ensures.row

pub returns-in-Ok-clause-fault : goal.returns-in-Ok-clause-fault
returns-in-Ok-clause-fault c =
    no_fault c.args.types.now c.args.union_tag c.args.tag c.requires.tag.0 c.args.fields.now c.in-Ok.members c.in-Ok.row c.requires.tag.1
    (sym c.in_ok-repeats.ensures ∙ c.if-branch.false) (sym c.in_default.ensures) c.in-Ok.ensures.fault c.requires.fields
    c.in-Ok.ensures.members c.in-Ok.ensures.row
