use Rattle.c_types.specs.Table.{shape_of}
use Rattle.layout_table.proofs.Entries.{ok, is_known}
use Rattle.layout_table.proofs.Lookups.{past, own_is_part, tail_ok, found}
use Rattle.layout_table.proofs.table.find.Goals as goal

pub returns-then-k-size : goal.returns-then-k-size
returns-then-k-size c = record {
  value = past (shape_of c.args.types.now c.args.elem) (shape_of c.args.types.now
      c.args.want) c.args.size c.args.k c.if-k-size.true;
}

pub whole_part-own-requires : goal.whole_part-own-requires
whole_part-own-requires c = (ok c.args.types.now c.args.entries.now c.args.rows.now c.args.levels.now
    c.requires.table c.args.elem c.requires.elem c.entry_of-entry.result c.entry_of-entry.ensures).filled

pub tail_of-tail-requires-clause-known : goal.tail_of-tail-requires-clause-known
tail_of-tail-requires-clause-known c = λ n.
    is_known c.args.types.now c.args.entries.now c.args.rows.now c.args.levels.now c.requires.table
    c.entry_of-entry.result.tail
    ((ok c.args.types.now c.args.entries.now c.args.rows.now c.args.levels.now c.requires.table c.args.elem
    c.requires.elem c.entry_of-entry.result c.entry_of-entry.ensures).tail_known n)

pub tail_of-tail-requires-clause-sized : goal.tail_of-tail-requires-clause-sized
tail_of-tail-requires-clause-sized c = λ e n at.
    let has = (ok c.args.types.now c.args.entries.now c.args.rows.now c.args.levels.now c.requires.table c.args.elem
    c.requires.elem c.entry_of-entry.result c.entry_of-entry.ensures).tail_known n in
    let t = ok c.args.types.now c.args.entries.now c.args.rows.now c.args.levels.now c.requires.table
    c.entry_of-entry.result.tail has e at in
    (t.sized, t.filled)

pub best_of-requires-clause-own : goal.best_of-requires-clause-own
best_of-requires-clause-own c =
    own_is_part c.args.types.now c.args.entries.now c.args.rows.now c.args.levels.now c.requires.table c.args.elem
    c.args.size c.args.k c.args.want c.requires.elem
    c.entry_of-entry.result c.entry_of-entry.ensures c.requires.size c.whole_part-own.result
    c.whole_part-own.ensures.value

pub best_of-requires-clause-tail : goal.best_of-requires-clause-tail
best_of-requires-clause-tail c =
    tail_ok c.args.types.now c.args.entries.now c.args.rows.now c.args.levels.now c.requires.table c.args.elem
    c.args.size c.args.k c.args.want c.requires.elem
    c.entry_of-entry.result c.entry_of-entry.ensures c.requires.size c.tail_of-tail.result c.tail_of-tail.ensures.value

pub returns : goal.returns
returns c = record {
  value =
      found c.args.types.now c.args.entries.now c.args.rows.now c.args.levels.now c.requires.table c.args.elem
      c.args.size c.args.k c.args.want c.requires.elem
      c.entry_of-entry.result c.entry_of-entry.ensures c.requires.size c.key_of-key.result c.key_of-key.ensures
      c.whole_part-own.result c.tail_of-tail.result c.best_of.result c.bounds_of.result
      c.whole_part-own.ensures.value c.tail_of-tail.ensures.value c.best_of.ensures.value c.bounds_of.ensures;
}
