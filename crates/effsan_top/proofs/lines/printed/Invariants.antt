use Rattle.std.proofs.Common.{◌≡◌, ◌++◌, drop}
use Rattle.effsan_top.specs.Lines as spec
use Rattle.effsan_top.proofs.lines.printed.Given as goal

abbrev pub invariant-loop-text : goal.invariant-loop-text
invariant-loop-text l = l.all ++ spec.joined (drop l.text-index l.text-items) ≡ spec.joined l.run.texts
