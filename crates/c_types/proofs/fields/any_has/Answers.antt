use Rattle.std.proofs.Common.{◌≡◌, ◌≤◌, Bool, true, false, length, take, rules, arith, sym, ap, ◌∙◌}
use Rattle.std.proofs.lemmas.Grind.{common_steps}
use Rattle.std.proofs.lemmas.List.{take_all}
use Rattle.c_types.specs.Table.{shape_of}
use Rattle.c_types.specs.Adding.{any, shapes}
use Rattle.c_types.specs.Rows.{has_form}
use Rattle.c_types.proofs.Forms.{known_at, none_more, one_found}
use Rattle.c_types.proofs.fields.any_has.Goals as goal

pub has-requires : goal.has-requires
has-requires c = known_at c.args.fields.now c.requires c.loop-field.field-index c.field-item.result c.loop-field-test.true c.field-item.is

pub returns-then-has : goal.returns-then-has
returns-then-has c =
    let passes : has_form c.args.form (shape_of c.args.types.now c.field-item.result.kind) ≡ true = first_of (search rules, grind (arith, common_steps)) in
    one_found (has_form c.args.form) (shape_of c.args.types.now) c.args.fields.now c.loop-field.field-index c.field-item.result c.loop-field-test.true
    c.field-item.is c.loop-field.invariant passes

pub loop-field-preserved : goal.loop-field-preserved
loop-field-preserved c =
    let fails : has_form c.args.form (shape_of c.args.types.now c.field-item.result.kind) ≡ false = first_of (search rules, grind (arith, common_steps)) in
    none_more (has_form c.args.form) (shape_of c.args.types.now) c.args.fields.now c.loop-field.field-index c.field-item.result c.loop-field-test.true
    c.field-item.is c.loop-field.invariant fails

pub returns : goal.returns
returns c =
    let end : length c.args.fields.now ≤ c.loop-field.field-index = omega (arith, c.loop-field-test.false) in
    sym (ap (λ fs. any (has_form c.args.form) (shapes (shape_of c.args.types.now) fs)) (sym (take_all c.loop-field.field-index c.args.fields.now end)) ∙
    c.loop-field.invariant)
