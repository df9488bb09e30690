use Rattle.std.proofs.Common.{◌≡◌, ◌++◌, ◌∷◌, ◌-◌, [], suc, None, Some, length, map, sym, subst, ap, ap₂, ◌∙◌, rules, arith, List, ℕ, refl, slice_get, slice_set, Option}
use Rattle.std.proofs.lemmas.Option.{slice_get_read}
use Rattle.std.proofs.lemmas.Grind.{common_steps}
use Rattle.c_types.specs.Table.{Types, Tag}
use Rattle.c_types.specs.Adding.{completed_tags, with_fields}
use Rattle.c_types.specs.Rows.{IsLaid, field_of, tag_of_row, types_of}
use Rattle.c_types.specs.declared.table.TagRow.{TagRow}
use Rattle.c_types.proofs.Kept.{keeps_filled, tags_set, tag_row, length_tags}
use Rattle.c_types.proofs.table.TypeTable.complete.Goals as goal

pub invariant_of-self-2 : goal.invariant_of-self-2
invariant_of-self-2 c =
    let view : types_of c.self.inside.kinds.keys c.self.inside.tags.items ≡ c.args.self.now = c.self.view_is in
    let laid : IsLaid (types_of c.self.inside.kinds.keys c.self.inside.tags.items) c.args.n c.args.laid =
    subst (λ t. IsLaid t c.args.n c.args.laid) (sym view) c.requires.laid in
    let count : length c.args.self.now.tags ≡ length c.self.inside.tags.items =
    ap (λ t. length t.tags) (sym c.self.view_is) ∙ length_tags c.self.inside.tags.items in
    let at : slice_get c.self.inside.tags.items c.args.laid.tag ≡ Some c.index_mut.result.now =
    slice_get_read c.self.inside.tags.items (length c.self.inside.tags.items) c.args.laid.tag c.index_mut.result.now refl
    (omega (arith, c.requires.tag, count)) c.index_mut.ensures.value in
    let order : c.push-stored.new.self.items ≡ c.self.inside.order.items ++ c.args.n ∷ [] = first_of (search rules, grind (arith, common_steps)) in
    rw order (keeps_filled c.self.inside.kinds.keys c.self.inside.rows.items c.self.inside.tags.items c.self.inside.order.items c.self.invariant
    c.args.n c.args.laid.tag laid.union_tag c.index_mut.result.now c.args.laid.members c.args.laid.row laid.kind at laid.unfilled laid.parts
    laid.fits laid.members laid.row)

pub returns-clause-completed : goal.returns-clause-completed
returns-clause-completed c =
    let view : types_of c.self.inside.kinds.keys c.self.inside.tags.items ≡ c.args.self.now = c.self.view_is in
    let count : length c.args.self.now.tags ≡ length c.self.inside.tags.items =
    ap (λ t. length t.tags) (sym c.self.view_is) ∙ length_tags c.self.inside.tags.items in
    let at : slice_get c.self.inside.tags.items c.args.laid.tag ≡ Some c.index_mut.result.now =
    slice_get_read c.self.inside.tags.items (length c.self.inside.tags.items) c.args.laid.tag c.index_mut.result.now refl
    (omega (arith, c.requires.tag, count)) c.index_mut.ensures.value in
    let row : TagRow = record { union_tag = c.index_mut.result.now.union_tag; name = c.index_mut.result.now.name; members = c.args.laid.members } in
    let tags : map tag_of_row (slice_set c.self.inside.tags.items c.args.laid.tag row) ≡
    completed_tags (map tag_of_row c.self.inside.tags.items) c.args.laid.tag (map field_of c.args.laid.members) =
    tags_set c.self.inside.tags.items c.args.laid.tag row ∙
    sym (ap (λ (found : Option Tag). with_fields (map field_of c.args.laid.members) found (map tag_of_row c.self.inside.tags.items) c.args.laid.tag)
    (tag_row c.self.inside.tags.items c.args.laid.tag c.index_mut.result.now at)) in
    ap (λ (ts : List Tag). record { kinds = c.self.inside.kinds.keys; tags = ts }) tags ∙
    ap (λ (t : Types). record { kinds = t.kinds; tags = completed_tags t.tags c.args.laid.tag (map field_of c.args.laid.members) }) view
