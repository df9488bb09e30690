use Rattle.std.proofs.Common.{◌≡◌, ◌≢◌, ◌++◌, ◌∷◌, [], ℕ, suc, Some, length, map, sym, subst, ap, ap₂, ◌∙◌, rules, arith, List, refl}
use Rattle.std.proofs.lemmas.Grind.{common_steps}
use Rattle.c_types.specs.declared.kinds.CType.{CType}
use Rattle.c_types.specs.declared.table.TagRow.{TagRow}
use Rattle.c_types.specs.Table.{Types, kind_in}
use Rattle.c_types.specs.Adding.{added_tag, tag_kind}
use Rattle.c_types.specs.Rows.{tag_of_row, types_of}
use Rattle.indexmap.specs.IndexSet.{insert_key}
use Rattle.c_types.specs.declared.rows.Form.TheVariants as form
use Rattle.c_types.proofs.Places.{equal, keys_new}
use Rattle.c_types.proofs.Pushes.{tag_absent}
use Rattle.c_types.proofs.Kept.{keeps_tag, length_tags, added_is, types_are}
use Rattle.c_types.proofs.table.TypeTable.add_tag.Goals as goal

pub invariant_of-self-2 : goal.invariant_of-self-2
invariant_of-self-2 c =
    let row : TagRow = record { union_tag = c.args.union_tag; name = c.args.name; members = c.new-members.result } in
    let absent : (n : ℕ) → kind_in c.self.inside.kinds.keys n ≢ Some (tag_kind c.args.union_tag (length c.self.inside.tags.items)) =
    subst (λ m. (n : ℕ) → kind_in c.self.inside.kinds.keys n ≢ Some (tag_kind c.args.union_tag m)) (length_tags c.self.inside.tags.items)
    (tag_absent (types_of c.self.inside.kinds.keys c.self.inside.tags.items) c.self.inside.order.items c.self.invariant.base c.args.union_tag c.args.name) in
    let kind : c.tag_kind.result ≡ tag_kind c.args.union_tag (length c.self.inside.tags.items) = first_of (search rules, grind (arith, common_steps)) in
    let kinds : c.insert.new.self.keys ≡ c.self.inside.kinds.keys ++ tag_kind c.args.union_tag (length c.self.inside.tags.items) ∷ [] =
    subst (λ k. c.insert.new.self.keys ≡ insert_key equal c.self.inside.kinds.keys k) kind c.in_ok-insert.ensures.keys ∙
    keys_new c.self.inside.kinds.keys c.args.union_tag (length c.self.inside.tags.items) absent in
    let tags : c.push-stored-2.new.self.items ≡ c.self.inside.tags.items ++ row ∷ [] = first_of (search rules, grind (arith, common_steps)) in
    let rows : c.push-stored.new.self.items ≡ c.self.inside.rows.items ++ record { form = form.Unsized; size = 0; alignment = 1 } ∷ [] =
    first_of (search rules, grind (arith, common_steps)) in
    rw (kinds, rows, tags)
    (keeps_tag c.self.inside.kinds.keys c.self.inside.rows.items c.self.inside.tags.items c.self.inside.order.items c.self.invariant row
    c.new-members.ensures (record { form = form.Unsized; size = 0; alignment = 1 }) refl)

pub returns-clause-number : goal.returns-clause-number
returns-clause-number c =
    let row : TagRow = record { union_tag = c.args.union_tag; name = c.args.name; members = c.new-members.result } in
    let absent : (n : ℕ) → kind_in c.self.inside.kinds.keys n ≢ Some (tag_kind c.args.union_tag (length c.self.inside.tags.items)) =
    subst (λ m. (n : ℕ) → kind_in c.self.inside.kinds.keys n ≢ Some (tag_kind c.args.union_tag m)) (length_tags c.self.inside.tags.items)
    (tag_absent (types_of c.self.inside.kinds.keys c.self.inside.tags.items) c.self.inside.order.items c.self.invariant.base c.args.union_tag c.args.name) in
    let kind : c.tag_kind.result ≡ tag_kind c.args.union_tag (length c.self.inside.tags.items) = first_of (search rules, grind (arith, common_steps)) in
    let kinds : c.insert.new.self.keys ≡ c.self.inside.kinds.keys ++ tag_kind c.args.union_tag (length c.self.inside.tags.items) ∷ [] =
    subst (λ k. c.insert.new.self.keys ≡ insert_key equal c.self.inside.kinds.keys k) kind c.in_ok-insert.ensures.keys ∙
    keys_new c.self.inside.kinds.keys c.args.union_tag (length c.self.inside.tags.items) absent in
    let tags : c.push-stored-2.new.self.items ≡ c.self.inside.tags.items ++ row ∷ [] = first_of (search rules, grind (arith, common_steps)) in
    let number : c.len.result ≡ suc (length c.self.inside.kinds.keys) = first_of (search rules, grind (arith, common_steps)) in
    let types : types_of c.insert.new.self.keys c.push-stored-2.new.self.items ≡
    types_of (c.self.inside.kinds.keys ++ tag_kind c.args.union_tag (length c.self.inside.tags.items) ∷ []) (c.self.inside.tags.items ++ row ∷ []) =
    ap₂ types_of kinds tags in
    ap₂ (λ (n : ℕ) (t : Types). (n, t)) number
    (types ∙ types_are c.self.inside.kinds.keys c.self.inside.rows.items c.self.inside.tags.items c.self.inside.order.items c.self.invariant row
    c.new-members.ensures (record { form = form.Unsized; size = 0; alignment = 1 }) refl) ∙
    (added_is c.self.inside.kinds.keys c.self.inside.rows.items c.self.inside.tags.items c.self.inside.order.items c.self.invariant row
    c.new-members.ensures (record { form = form.Unsized; size = 0; alignment = 1 }) refl ∙
    ap (added_tag c.args.union_tag c.args.name) c.self.view_is)
