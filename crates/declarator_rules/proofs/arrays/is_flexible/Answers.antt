use Rattle.std.proofs.Common.{◌∙◌, sym, ap}
use Rattle.c_types.specs.Table.{shape_of, members}
use Rattle.declarator_rules.specs.Flexible.{flexible_by}
use Rattle.declarator_rules.proofs.Open.{is_flexible-by}
use Rattle.declarator_rules.proofs.arrays.is_flexible.Goals as goal

pub returns : goal.returns
returns c =
    let types = c.args.types.now in
    let kind = c.args.kind in
    c.is_flexible_by.ensures ∙ ap (λ ms. flexible_by (shape_of types) ms c.find.result) c.members.ensures
    ∙ ap (flexible_by (shape_of types) (members types kind)) c.find.ensures
    ∙ sym (is_flexible-by types kind c.law_table.ensures.trees)
