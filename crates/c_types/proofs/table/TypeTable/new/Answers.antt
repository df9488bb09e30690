use Rattle.std.proofs.Common.{◌≡◌, ◌≤◌, [], List, length, take, fold, ap, ◌∙◌, refl, arith, rules}
use Rattle.std.proofs.lemmas.Grind.{common_steps}
use Rattle.std.proofs.lemmas.List.{take_all}
use Rattle.indexmap.specs.IndexSet.{insert_key}
use Rattle.c_types.specs.declared.kinds.CType.{CType}
use Rattle.c_types.specs.Table.{basic_kinds}
use Rattle.c_types.proofs.Places.{equal}
use Rattle.c_types.proofs.Basics.{basic_kept, basic_rows}
use Rattle.c_types.proofs.table.TypeTable.new.Goals as goal

each_once : fold (insert_key equal) [] basic_kinds ≡ basic_kinds
each_once = refl

pub invariant_of-result : goal.invariant_of-result
invariant_of-result c =
    let end : length basic_kinds ≤ c.loop-kind.kind-index = first_of (search rules, grind (arith, common_steps)) in
    let kinds : c.loop-kind.kinds.keys ≡ basic_kinds =
    c.loop-kind.invariant ∙ (ap (fold (insert_key equal) []) (take_all c.loop-kind.kind-index basic_kinds end) ∙ each_once) in
    let rows : c.in_ok-rows.rows.items ≡ basic_rows = first_of (search rules, grind (arith, common_steps)) in
    rw (kinds, rows, c.new.ensures.items, c.in_ok-order.ensures.items) basic_kept
