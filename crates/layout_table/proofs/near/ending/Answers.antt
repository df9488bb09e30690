use Rattle.std.proofs.Common.{◌∙◌}
use Rattle.layout_table.proofs.Filtered.{end_in_order, ended}
use Rattle.layout_table.proofs.near.ending.Goals as goal

pub part_of-requires-clause-ordered : goal.part_of-requires-clause-ordered
part_of-requires-clause-ordered c =
    end_in_order c.args.rows.now c.keyed_place-at.result c.reach_before-start.result c.from_before-end.result
    c.requires.ordered c.reach_before-start.ensures.bound c.reach_before-start.ensures.below
    c.from_before-end.ensures.above

pub returns : goal.returns
returns c =
    c.part_of.ensures ∙
    ended c.args.rows.now c.keyed_place-at.result c.reach_before-start.result c.from_before-end.result
    c.requires.ordered c.reach_before-start.ensures.bound c.from_before-end.ensures.bound
    c.reach_before-start.ensures.below c.from_before-end.ensures.above c.args.key c.args.place
    c.keyed_place-at.ensures c.reach_before-start.ensures.above c.from_before-end.ensures.below
    (end_in_order c.args.rows.now c.keyed_place-at.result c.reach_before-start.result c.from_before-end.result
    c.requires.ordered c.reach_before-start.ensures.bound c.reach_before-start.ensures.below
    c.from_before-end.ensures.above)
