use Rattle.layout_table.proofs.Copies.{IsTagCount}
use Rattle.layout_table.proofs.known.count_tags.Given as goal

abbrev pub invariant-loop-kind : goal.invariant-loop-kind
invariant-loop-kind l = IsTagCount l.types l.kind-index l.count
