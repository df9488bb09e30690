use Rattle.std.proofs.Common.{◌≡◌, ℕ, Bool, length, Some, slice_get, arith, refl, ap, sym, subst, ◌∙◌}
use Rattle.std.proofs.lemmas.Option.{slice_get_read}
use Rattle.c_types.specs.Table.{Types, kind_of, members}
use Rattle.c_types.specs.Adding.{tag_kind}
use Rattle.c_types.specs.Rows.{tag_of_row, types_of}
use Rattle.c_types.proofs.Kept.{members_read, length_tags}
use Rattle.c_types.proofs.table.TypeTable.members_of.Goals as goal

pub returns : goal.returns
returns c =
    let count : length c.args.self.now.tags ≡ length c.self.inside.tags.items =
    ap (λ t. length t.tags) (sym c.self.view_is) ∙ length_tags c.self.inside.tags.items in
    let at : slice_get c.self.inside.tags.items c.args.tag ≡ Some c.index.result.now =
    slice_get_read c.self.inside.tags.items (length c.self.inside.tags.items) c.args.tag c.index.result.now refl
    (omega (arith, c.requires, count)) c.index.ensures in
    subst (λ (t : Types). (sort : Bool) (n : ℕ) → kind_of t n ≡ Some (tag_kind sort c.args.tag) → c.as_slice.result.now ≡ members t n) c.self.view_is
    (λ sort n is. c.as_slice.ensures ∙ members_read c.self.inside.kinds.keys c.self.inside.rows.items c.self.inside.tags.items
    c.self.inside.order.items c.self.invariant sort n c.args.tag c.index.result.now is at)
