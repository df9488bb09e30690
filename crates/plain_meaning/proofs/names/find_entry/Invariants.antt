use Rattle.std.proofs.Common.{ℕ, ◌<◌}
use Rattle.plain_meaning.specs.Names.{HasName}
use Rattle.plain_meaning.proofs.names.find_entry.Given as goal

abbrev pub invariant-loop-number : goal.invariant-loop-number
invariant-loop-number l = (other : ℕ) → other < l.number → HasName l.program other l.name → ⊥
