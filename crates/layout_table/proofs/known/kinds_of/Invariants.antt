use Rattle.std.proofs.Common.{◌≡◌, take}
use Rattle.layout_table.proofs.known.kinds_of.Given as goal

abbrev pub invariant-loop-i : goal.invariant-loop-i
invariant-loop-i l = l.kinds.items ≡ take l.i l.types.kinds
