use Rattle.std.proofs.Common.{◌≡◌, ◌≤◌, ◌+◌, ◌*◌, length, take, drop, []}
use Rattle.program_form.specs.Statements as spec
use Rattle.program_form.proofs.statements.+statement.Given as goal

abbrev pub decreases-statement : goal.decreases-statement
decreases-statement l = 5 * l.depth

abbrev pub decreases-statement_by : goal.decreases-statement_by
decreases-statement_by l = 5 * l.depth + 4

abbrev pub decreases-if_statement : goal.decreases-if_statement
decreases-if_statement l = 5 * l.depth + 1

abbrev pub decreases-if_else_statement : goal.decreases-if_else_statement
decreases-if_else_statement l = 5 * l.depth + 1

abbrev pub decreases-while_statement : goal.decreases-while_statement
decreases-while_statement l = 5 * l.depth + 1

abbrev pub decreases-block : goal.decreases-block
decreases-block l = 5 * l.depth + 3

abbrev pub decreases-items : goal.decreases-items
decreases-items l = 5 * l.depth + 2

abbrev pub decreases-item : goal.decreases-item
decreases-item l = 5 * l.depth + 1

abbrev pub invariant-items-loop-one : goal.invariant-items-loop-one
invariant-items-loop-one l = record {
  same : spec.items l.texts (spec.statement l.texts l.depth) (length l.fn.scope) l.fn.scope [] l.all ≡
      spec.items l.texts (spec.statement l.texts l.depth) l.start l.scope l.found (drop l.one-index l.all);
  grew : l.start ≤ length l.scope;
  outside : take l.start l.scope ≡ l.fn.scope;
}
