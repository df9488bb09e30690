use Rattle.std.proofs.Common.{drop}
use Rattle.tree_walk.proofs.Loops.{InBlock, InLoop}
use Rattle.tree_walk.proofs.walk.Walk.+walk.Given as goal

abbrev pub invariant-block-loop-statement : goal.invariant-block-loop-statement
invariant-block-loop-statement l = InBlock l.initial.self l.all l.self (drop l.statement-index l.all)

abbrev pub invariant-repeat-loop-self : goal.invariant-repeat-loop-self
invariant-repeat-loop-self l = InLoop l.initial.self l.line l.test l.body l.self

abbrev pub decreases-repeat-loop-self : goal.decreases-repeat-loop-self
decreases-repeat-loop-self l = l.self.left
