use Rattle.std.proofs.Common.{◌≡◌, take}
use Rattle.layout_table.specs.Making as making
use Rattle.layout_table.proofs.making.rows_of_members.Given as goal

abbrev pub invariant-loop-member : goal.invariant-loop-member
invariant-loop-member l = l.own.items ≡ making.rows_of_members l.types l.entries l.rows (take l.member-index l.members)
