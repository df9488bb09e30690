use Rattle.std.proofs.Common.{arith, rules}
use Rattle.std.specs.Prelude.{nat_le}
use Rattle.std.proofs.lemmas.List.Sorted.{IsPartitionPoint-from_clause, IsPartitionedBy-leb}
use Rattle.layout_table.specs.Stored.{reach_of}
use Rattle.layout_table.proofs.Filtered.{nat_le_true, nat_le_false}
use Rattle.layout_table.proofs.near.reach_up_to.Goals as goal

pub returns-clause-below : goal.returns-clause-below
returns-clause-below c =
    let parted = IsPartitionedBy-leb reach_of c.args.rows.now c.args.place c.requires in
    let point = IsPartitionPoint-from_clause (λ row. nat_le (reach_of row) c.args.place) c.args.rows.now _
    c.partition_point.ensures.partitioned parted (λ a r q k. search rules) in
    λ i d h. nat_le_true _ _ (point.0 i d (omega (arith, c.partition_point.ensures.bound, h)) h)

pub returns-clause-above : goal.returns-clause-above
returns-clause-above c =
    let parted = IsPartitionedBy-leb reach_of c.args.rows.now c.args.place c.requires in
    let point = IsPartitionPoint-from_clause (λ row. nat_le (reach_of row) c.args.place) c.args.rows.now _
    c.partition_point.ensures.partitioned parted (λ a r q k. search rules) in
    λ i d h l. nat_le_false _ _ (point.1 i d h l)
