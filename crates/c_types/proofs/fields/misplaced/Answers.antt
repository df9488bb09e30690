use Rattle.std.proofs.Common.{◌≡◌, ◌++◌, ◌∷◌, [], Bool, List, subst, sym, ap, ◌∙◌, Contains}
use Rattle.std.proofs.lemmas.List.Elements.{Contains-append_left}
use Rattle.c_types.specs.declared.kinds.Field.{Field}
use Rattle.c_types.specs.Shapes.{is_open}
use Rattle.c_types.specs.Table.{shape_of}
use Rattle.c_types.specs.Adding.{any, shapes, misplaced, before_last}
use Rattle.c_types.proofs.Forms.{before_push}
use Rattle.c_types.proofs.fields.misplaced.Goals as goal

pub any_has-requires-in-Some : goal.any_has-requires-in-Some
any_has-requires-in-Some c f at =
    c.requires f (subst (λ fs. Contains fs f) (sym c.in-Some.ensures.cases.0)
    (Contains-append_left c.in-Some.firsts.now (c.in-Some.field-0-0.now ∷ []) f at))

pub returns-in-Some : goal.returns-in-Some
returns-in-Some c =
    c.any_has-in-Some.ensures ∙
    (ap (any is_open) (sym (before_push (shape_of c.args.types.now) c.in-Some.firsts.now c.in-Some.field-0-0.now)) ∙
    (ap (λ fs. any is_open (before_last (shapes (shape_of c.args.types.now) fs))) (sym c.in-Some.ensures.cases.0) ∙
    ap (λ b. misplaced b (shapes (shape_of c.args.types.now) c.args.fields.now)) (sym c.if-union_tag.false)))
