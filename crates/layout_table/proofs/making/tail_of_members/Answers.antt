use Rattle.std.proofs.Common.{sym}
use Rattle.layout_table.proofs.making.tail_of_members.Goals as goal

pub get-requires : goal.get-requires
get-requires c = c.requires c.member-item.result (
  c.loop-member.member-index,
  c.loop-member-test.true,
  sym
      c.member-item.is,
)
