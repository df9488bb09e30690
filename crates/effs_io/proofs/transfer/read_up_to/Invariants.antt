use Rattle.std.proofs.Common.{◌≤◌, ◌+◌, ◌-◌, vec_len}
use Rattle.std.specs.Io.KnownBytes.{Consumes}
use Rattle.effs_io.proofs.transfer.read_up_to.Given as goal

abbrev pub invariant-loop-bytes : goal.invariant-loop-bytes
invariant-loop-bytes g l = record {
  small : vec_len l.bytes ≤ l.fn.limit;
  gave : Consumes (g.S.Source.left l.fn.src) (g.S.Source.left l.src) l.bytes.items;
  never_falls : g.S.Source.faults l.fn.src ≤ g.S.Source.faults l.src;
}

abbrev pub decreases-loop-bytes : goal.decreases-loop-bytes
decreases-loop-bytes g l = l.fn.limit + 1 - vec_len l.bytes
