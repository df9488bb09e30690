use Rattle.std.proofs.Common.{sym}
use Rattle.layout_table.proofs.making.rows_of_members.Goals as goal

pub is_open-requires : goal.is_open-requires
is_open-requires c = c.requires.ready.numbers c.member-item.result (
  c.loop-member.member-index,
  c.loop-member-test.true,
  sym c.member-item.is,
)
