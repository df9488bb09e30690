use Rattle.std.proofs.Common.{◌∙◌}
use Rattle.layout_table.proofs.Filtered.{in_order, held}
use Rattle.layout_table.proofs.near.holding.Goals as goal

pub part_of-requires-clause-ordered : goal.part_of-requires-clause-ordered
part_of-requires-clause-ordered c =
    in_order c.args.rows.now c.keyed_place-at.result c.reach_up_to-start.result c.from_up_to-end.result
    c.requires.ordered c.reach_up_to-start.ensures.bound c.reach_up_to-start.ensures.below
    c.from_up_to-end.ensures.above

pub returns : goal.returns
returns c =
    c.part_of.ensures ∙
    held c.args.rows.now c.keyed_place-at.result c.reach_up_to-start.result c.from_up_to-end.result
    c.requires.ordered c.reach_up_to-start.ensures.bound c.from_up_to-end.ensures.bound
    c.reach_up_to-start.ensures.below c.from_up_to-end.ensures.above c.args.key c.args.place c.keyed_place-at.ensures
    c.reach_up_to-start.ensures.above c.from_up_to-end.ensures.below
    (in_order c.args.rows.now c.keyed_place-at.result c.reach_up_to-start.result c.from_up_to-end.result
    c.requires.ordered c.reach_up_to-start.ensures.bound c.reach_up_to-start.ensures.below
    c.from_up_to-end.ensures.above)
