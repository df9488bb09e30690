use Rattle.std.proofs.Common.{arith, rules}
use Rattle.std.specs.Prelude.{nat_lt}
use Rattle.std.proofs.lemmas.List.Sorted.{IsPartitionPoint-from_clause, IsPartitionedBy-ltb}
use Rattle.layout_table.specs.Stored.{from_of}
use Rattle.layout_table.proofs.Filtered.{nat_lt_true, nat_lt_false}
use Rattle.layout_table.proofs.near.from_before.Goals as goal

pub returns-clause-below : goal.returns-clause-below
returns-clause-below c =
    let parted = IsPartitionedBy-ltb from_of c.args.rows.now c.args.place c.requires in
    let point = IsPartitionPoint-from_clause (λ row. nat_lt (from_of row) c.args.place) c.args.rows.now _
    c.partition_point.ensures.partitioned parted (λ a r q k. search rules) in
    λ i d h. nat_lt_true _ _ (point.0 i d (omega (arith, c.partition_point.ensures.bound, h)) h)

pub returns-clause-above : goal.returns-clause-above
returns-clause-above c =
    let parted = IsPartitionedBy-ltb from_of c.args.rows.now c.args.place c.requires in
    let point = IsPartitionPoint-from_clause (λ row. nat_lt (from_of row) c.args.place) c.args.rows.now _
    c.partition_point.ensures.partitioned parted (λ a r q k. search rules) in
    λ i d h l. nat_lt_false _ _ (point.1 i d h l)
