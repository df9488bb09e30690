use Rattle.std.proofs.Common.{◌≡◌, map, take}
use Rattle.layout_table.specs.Known.{field_of}
use Rattle.layout_table.proofs.known.fields_of_members.Given as goal

abbrev pub invariant-loop-member : goal.invariant-loop-member
invariant-loop-member l = l.fields.items ≡ map field_of (take l.member-index l.members)
