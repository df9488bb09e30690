use Rattle.std.proofs.Common.{◌≡◌, true, rules, arith}
use Rattle.std.proofs.lemmas.Grind.{common_steps}
use Rattle.c_types.specs.Table.{IsNumber}
use Rattle.declarator_rules.proofs.FieldLemmas.{known_more, all_known}
use Rattle.declarator_rules.proofs.completing.are_fields.Goals as goal

pub loop-field-preserved : goal.loop-field-preserved
loop-field-preserved c =
    let known : IsNumber c.args.types.now c.field-item.result.kind = first_of (search rules, grind (arith, common_steps)) in
    known_more c.args.types.now c.args.fields.now c.loop-field.field-index c.field-item.result c.loop-field-test.true
    c.field-item.is known c.loop-field.invariant

pub returns : goal.returns
returns c = λ yes.
    all_known c.args.types.now c.args.fields.now c.loop-field.field-index (omega (arith, c.loop-field-test.false))
    c.loop-field.invariant
