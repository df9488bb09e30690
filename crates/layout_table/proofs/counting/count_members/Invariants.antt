use Rattle.std.proofs.Common.{◌≡◌, take, sum_by}
use Rattle.layout_table.specs.Counting.{capped, member_counts}
use Rattle.layout_table.proofs.counting.count_members.Given as goal

abbrev pub invariant-loop-member : goal.invariant-loop-member
invariant-loop-member l = l.count ≡ capped (sum_by (member_counts l.types) (take l.member-index l.members))
