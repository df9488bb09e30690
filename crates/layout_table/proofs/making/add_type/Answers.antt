use Rattle.std.proofs.Common.{◌∙◌, ◌+◌, ◌++◌, ap, refl, length}
use Rattle.layout_table.proofs.Made.{low, type_added}
use Rattle.layout_table.proofs.making.add_type.Goals as goal

pub ordered_rows-own-requires : goal.ordered_rows-own-requires
ordered_rows-own-requires c = record {
  each = λ row i. low c.args.types.now c.rows_of_type.new.levels.items c.in_ok-rows_of_type.field-0.items
      c.in_ok-rows_of_type.ensures.rows_ok row i;
}

pub returns : goal.returns
returns c = λ done next so_far cases.
    type_added c.args.types.now c.law_table.ensures c.args.rows.now.items c.in_ok-rows_of_type.field-0.items
    c.ordered_rows-own.result.items c.args.levels.now.items c.rows_of_type.new.levels.items
    c.args.t c.requires.known c.in_ok-rows_of_type.ensures c.ordered_rows-own.ensures.same
    c.ordered_rows-own.ensures.ordered c.ordered_rows-own.ensures.short c.tail_of-tail.result
    c.tail_of-tail.ensures
    _ c.requires.sized c.in_ok-start.ensures.places.0 (c.in_ok-start.ensures.places.1 ∙
    ap (λ rs. length c.args.rows.now.items + length rs) c.deref-2.ensures.value) refl refl c.args.entries.now
    c.append.new.rows.items (c.in_ok-start.ensures.rows ∙ ap (λ rs. c.args.rows.now.items ++ rs)
    c.deref-2.ensures.value) done next so_far cases
