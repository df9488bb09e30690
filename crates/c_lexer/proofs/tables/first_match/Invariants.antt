use Rattle.std.proofs.Common.{◌≡◌, length, map}
use Rattle.c_lexer.specs.Scan.{first_match}
use Rattle.c_lexer.proofs.tables.first_match.Given as goal

abbrev pub invariant-loop-table : goal.invariant-loop-table
invariant-loop-table g l = first_match (map (λ e. (e.0, e.1.now)) l.table) l.s ≡ first_match (map (λ e. (e.0, e.1.now)) l.initial.table) l.s

abbrev pub decreases-loop-table : goal.decreases-loop-table
decreases-loop-table g l = length l.table
