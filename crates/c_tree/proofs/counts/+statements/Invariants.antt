use Rattle.std.proofs.Common.{◌≡◌, ◌+◌, take}
use Rattle.c_tree.specs.Counts.{capped, nodes_of_statements}
use Rattle.c_tree.proofs.counts.+statements.Given as goal

abbrev pub invariant-with_statements-loop-statement : goal.invariant-with_statements-loop-statement
invariant-with_statements-loop-statement l =
    l.total ≡ capped (l.count + nodes_of_statements (take l.statement-index l.statements))
