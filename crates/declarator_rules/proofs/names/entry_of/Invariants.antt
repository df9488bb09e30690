use Rattle.std.proofs.Common.{◌≡◌, length, map}
use Rattle.static_rules.specs.Predefined.{entry_of}
use Rattle.declarator_rules.proofs.names.entry_of.Given as goal

abbrev pub invariant-loop-table : goal.invariant-loop-table
invariant-loop-table g l =
    entry_of (map (λ e. (e.0.now, e.1)) l.table) l.word ≡ entry_of (map (λ e. (e.0.now, e.1)) l.initial.table) l.word

abbrev pub decreases-loop-table : goal.decreases-loop-table
decreases-loop-table g l = length l.table
