use Rattle.std.proofs.Common.{◌≡◌, ◌++◌, length}
use Rattle.std.specs.Prelude.{reverse}
use Rattle.scoped_meanings.proofs.meanings.Meanings.extend.Given as goal

abbrev pub invariant-loop-name : goal.invariant-loop-name
invariant-loop-name g l = l.self ++ reverse l.waiting ≡ l.fn.self ++ l.fn.entries

abbrev pub decreases-loop-name : goal.decreases-loop-name
decreases-loop-name g l = length l.waiting
