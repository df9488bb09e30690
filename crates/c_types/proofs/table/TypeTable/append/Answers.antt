use Rattle.std.proofs.Common.{◌≡◌, ◌++◌, ◌∷◌, [], suc, None, Some, length, sym, subst, ap, ap₂, ◌∙◌, rules, arith, position, List, ℕ, refl}
use Rattle.std.proofs.lemmas.Grind.{common_steps}
use Rattle.c_types.specs.declared.kinds.CType.{CType}
use Rattle.c_types.specs.Table.{Types, shape_of, shape_of_kind}
use Rattle.c_types.specs.Adding.{added, added_by, is_same}
use Rattle.c_types.specs.Holds.{IsMade}
use Rattle.c_types.specs.Rows.{row_of, types_of}
use Rattle.c_types.proofs.Places.{absent_kind, keys_after, added_absent}
use Rattle.c_types.proofs.Kept.{keeps_plain}
use Rattle.c_types.proofs.table.TypeTable.append.Goals as goal

pub invariant_of-self-2 : goal.invariant_of-self-2
invariant_of-self-2 c =
    let keys : List CType = c.self.inside.kinds.keys in
    let view : types_of c.self.inside.kinds.keys c.self.inside.tags.items ≡ c.args.self.now = c.self.view_is in
    let absent : position (is_same c.args.kind) c.self.inside.kinds.keys ≡ None =
    subst (λ t. position (is_same c.args.kind) t.kinds ≡ None) (sym view) c.requires.absent in
    let made : IsMade (types_of c.self.inside.kinds.keys c.self.inside.tags.items) (suc (length c.self.inside.kinds.keys)) c.args.kind =
    subst (λ t. IsMade t (suc (length t.kinds)) c.args.kind) (sym view) c.requires.made in
    let row : c.args.row ≡ row_of (shape_of_kind (types_of c.self.inside.kinds.keys c.self.inside.tags.items).tags
    (shape_of (types_of c.self.inside.kinds.keys c.self.inside.tags.items)) (suc (length c.self.inside.kinds.keys)) (Some c.args.kind)) =
    subst (λ t. c.args.row ≡ row_of (shape_of_kind t.tags (shape_of t) (suc (length t.kinds)) (Some c.args.kind))) (sym view) c.requires.row in
    let kinds : c.insert.new.self.keys ≡ c.self.inside.kinds.keys ++ c.args.kind ∷ [] =
    c.in_ok-insert.ensures.keys ∙ keys_after c.self.inside.kinds.keys c.args.kind absent in
    let rows : c.push-stored.new.self.items ≡ c.self.inside.rows.items ++ c.args.row ∷ [] = first_of (search rules, grind (arith, common_steps)) in
    let order : c.push-stored-2.new.self.items ≡ c.self.inside.order.items ++ suc (length c.self.inside.kinds.keys) ∷ [] =
    first_of (search rules, grind (arith, common_steps)) in
    rw (kinds, rows, order)
    (keeps_plain c.self.inside.kinds.keys c.self.inside.rows.items c.self.inside.tags.items c.self.inside.order.items c.self.invariant
    c.args.kind c.args.row (absent_kind c.self.inside.kinds.keys c.args.kind absent) c.requires.plain made row)

pub returns-clause-number : goal.returns-clause-number
returns-clause-number c =
    let view : types_of c.self.inside.kinds.keys c.self.inside.tags.items ≡ c.args.self.now = c.self.view_is in
    let absent : position (is_same c.args.kind) c.self.inside.kinds.keys ≡ None =
    subst (λ t. position (is_same c.args.kind) t.kinds ≡ None) (sym view) c.requires.absent in
    let kinds : c.insert.new.self.keys ≡ c.self.inside.kinds.keys ++ c.args.kind ∷ [] =
    c.in_ok-insert.ensures.keys ∙ keys_after c.self.inside.kinds.keys c.args.kind absent in
    let number : c.len-number.result ≡ suc (length c.self.inside.kinds.keys) = first_of (search rules, grind (arith, common_steps)) in
    let types : types_of c.insert.new.self.keys c.self.inside.tags.items ≡ types_of (c.self.inside.kinds.keys ++ c.args.kind ∷ []) c.self.inside.tags.items =
    ap (λ ks. types_of ks c.self.inside.tags.items) kinds in
    let to : added c.args.kind (types_of c.self.inside.kinds.keys c.self.inside.tags.items) ≡ added c.args.kind c.args.self.now = ap (added c.args.kind) view in
    ap₂ (λ (n : ℕ) (t : Types). (n, t)) number types ∙ (sym (added_absent (types_of c.self.inside.kinds.keys c.self.inside.tags.items) c.args.kind absent) ∙ to)
