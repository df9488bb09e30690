use Rattle.std.proofs.Common.{◌≡◌, length, map}
use Rattle.c_lexer.specs.Scan.{entry_of}
use Rattle.c_lexer.proofs.tables.entry_of.Given as goal

abbrev pub invariant-loop-table : goal.invariant-loop-table
invariant-loop-table g l = entry_of (map (λ e. (e.0, e.1.now)) l.table) l.word ≡ entry_of (map (λ e. (e.0, e.1.now)) l.initial.table) l.word

abbrev pub decreases-loop-table : goal.decreases-loop-table
decreases-loop-table g l = length l.table
