use Rattle.std.proofs.Common.{◌≤◌, ◌-◌, length, take, map}
use Rattle.std.specs.Prelude.{string_bytes}
use Rattle.effs_words.specs.Judged.{Says}
use Rattle.effs_words.proofs.judge.Line.read.Given as goal

abbrev pub invariant-loop-at : goal.invariant-loop-at
invariant-loop-at l = record {
  within : l.at ≤ length l.fn.self.words.now;
  said : Says l.fn.self.play l.fn.self.workers (take l.at (map string_bytes l.fn.self.words.now)) l.options;
}

abbrev pub decreases-loop-at : goal.decreases-loop-at
decreases-loop-at l = length l.fn.self.words.now - l.at
