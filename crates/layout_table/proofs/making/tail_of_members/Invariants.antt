use Rattle.std.proofs.Common.{◌≡◌, take}
use Rattle.layout_table.specs.Making as making
use Rattle.layout_table.proofs.making.tail_of_members.Given as goal

abbrev pub invariant-loop-member : goal.invariant-loop-member
invariant-loop-member l = l.tail ≡ making.tail_of_members l.types (take l.member-index l.members)
