use Rattle.std.proofs.Common.{◌≡◌, ◌++◌, drop, take}
use Rattle.effs_words.specs.Schedules.{cut}
use Rattle.effs_words.proofs.schedule.cut_at.Given as goal

abbrev pub invariant-loop-i : goal.invariant-loop-i
invariant-loop-i l = record {
  front : (cut l.mark l.bytes).front ≡ take l.i l.bytes ++ (cut l.mark (drop l.i l.bytes)).front;
  rest : (cut l.mark l.bytes).rest ≡ (cut l.mark (drop l.i l.bytes)).rest;
}
