use Rattle.std.proofs.Common.{map, take, drop, ◌-◌, ℕ, ap, sym, subst, ◌∙◌, arith, List}
use Rattle.c_types.specs.Table.{shape_of}
use Rattle.layout_table.specs.declared.stored.StoredRow.{StoredRow}
use Rattle.layout_table.specs.Strides as strides
use Rattle.layout_table.specs.Strides.{Row}
use Rattle.layout_table.specs.Stored.{AreRows, AreOrdered, decoded, near_end, part_in}
use Rattle.layout_table.proofs.Entries.{ok, ending_are, part_rows_ok}
use Rattle.layout_table.proofs.table.ends_one.Goals as goal

pub rows_between-own-requires-clause-ordered : goal.rows_between-own-requires-clause-ordered
rows_between-own-requires-clause-ordered c =
    (ok c.args.types.now c.args.entries.now c.args.rows.now c.args.levels.now c.requires.table c.args.part.now.kind
    c.requires.kind c.entry_of-entry.result c.entry_of-entry.ensures).ordered

pub rows_between-own-requires-clause-within : goal.rows_between-own-requires-clause-within
rows_between-own-requires-clause-within c =
    (ok c.args.types.now c.args.entries.now c.args.rows.now c.args.levels.now c.requires.table c.args.part.now.kind
    c.requires.kind c.entry_of-entry.result c.entry_of-entry.ensures).ended

pub part_ends-requires-clause-rows : goal.part_ends-requires-clause-rows
part_ends-requires-clause-rows c =
    subst (λ rs. AreRows c.args.types.now c.args.levels.now rs) (sym c.rows_between-own.ensures)
    (part_rows_ok c.args.types.now c.args.levels.now c.args.rows.now _ _ c.requires.table.rows_ok)

pub part_ends-requires-clause-bytes : goal.part_ends-requires-clause-bytes
part_ends-requires-clause-bytes c =
    c.from.ensures ∙
    (ok c.args.types.now c.args.entries.now c.args.rows.now c.args.levels.now c.requires.table c.args.part.now.kind
    c.requires.kind c.entry_of-entry.result c.entry_of-entry.ensures).sized

pub part_ends-requires-clause-sized : goal.part_ends-requires-clause-sized
part_ends-requires-clause-sized c =
    let e = ok c.args.types.now c.args.entries.now c.args.rows.now c.args.levels.now c.requires.table
    c.args.part.now.kind c.requires.kind c.entry_of-entry.result c.entry_of-entry.ensures in
    omega (arith, e.filled)

pub part_ends-requires-clause-sorted : goal.part_ends-requires-clause-sorted
part_ends-requires-clause-sorted c =
    subst (λ rs. AreOrdered rs) (sym c.rows_between-own.ensures)
    (ok c.args.types.now c.args.entries.now c.args.rows.now c.args.levels.now c.requires.table c.args.part.now.kind
    c.requires.kind c.entry_of-entry.result c.entry_of-entry.ensures).sorted

pub returns-clause-value : goal.returns-clause-value
returns-clause-value c =
    let e = ok c.args.types.now c.args.entries.now c.args.rows.now c.args.levels.now c.requires.table
    c.args.part.now.kind c.requires.kind c.entry_of-entry.result c.entry_of-entry.ensures in
    c.part_ends.ensures.value ∙
    ap (λ (rs : List Row). strides.part_ends c.args.k (shape_of c.args.types.now c.args.want) rs c.args.best (part_in
    c.args.types.now c.args.part.now))
    (ap (λ (rs : List StoredRow). map (decoded c.args.types.now c.args.levels.now) (near_end c.args.key c.args.k
    (strides.value_before c.from.result c.args.part.now.base c.args.part.now.count c.args.k) rs))
    c.rows_between-own.ensures ∙
    ap (λ (n : ℕ). map (decoded c.args.types.now c.args.levels.now) (near_end c.args.key c.args.k
    (strides.value_before n c.args.part.now.base c.args.part.now.count c.args.k)
    (take (c.entry_of-entry.result.end - c.entry_of-entry.result.start) (drop c.entry_of-entry.result.start
    c.args.rows.now)))) (c.from.ensures ∙ e.sized) ∙
    sym (ending_are c.args.types.now c.args.entries.now c.args.rows.now c.args.levels.now c.requires.table
    c.args.part.now.kind c.requires.kind c.entry_of-entry.result c.entry_of-entry.ensures
    c.args.part.now.base c.args.part.now.count c.args.key c.args.k))
