use Rattle.std.proofs.Common.{ap, sym, take, sum_by, ◌∙◌}
use Rattle.c_types.specs.Shapes.{is_open}
use Rattle.c_types.specs.Table.{shape_of}
use Rattle.layout_table.specs.Strides.{inner}
use Rattle.layout_table.specs.Counting.{capped, member_counts}
use Rattle.layout_table.proofs.Counted.{members_more, one_more_counted}
use Rattle.layout_table.proofs.counting.count_members.Goals as goal

pub count_member-requires-clause-counted : goal.count_member-requires-clause-counted
count_member-requires-clause-counted c = c.requires.counted c.member-item.result (
  c.loop-member.member-index,
  c.loop-member-test.true,
  sym c.member-item.is,
)

pub loop-member-preserved : goal.loop-member-preserved
loop-member-preserved c =
    c.plus-count.ensures ∙
    one_more_counted (is_open (shape_of c.args.types.now c.member-item.result.kind)) c.loop-member.count (inner
    (shape_of c.args.types.now c.member-item.result.kind))
    (sum_by (member_counts c.args.types.now) (take c.loop-member.member-index c.args.members.now))
    c.count_member.result c.loop-member.invariant c.count_member.ensures.value ∙
    ap capped (members_more c.args.types.now c.args.members.now c.loop-member.member-index c.member-item.result
    c.loop-member-test.true c.member-item.is)
