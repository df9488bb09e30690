use Rattle.std.proofs.Common.{length, ◌-◌, ◌≡◌, ◌≤◌, take}
use Rattle.effs_io.specs.Streams.{Appends}
use Rattle.effs_io.proofs.transfer.write_all.Given as goal

abbrev pub invariant-loop-done : goal.invariant-loop-done
invariant-loop-done g l = record {
  within : l.done ≤ length l.bytes;
  took : Appends (take l.done l.bytes) (g.O.Sink.taken l.fn.out) (g.O.Sink.taken l.out);
  never_falls : g.O.Sink.faults l.fn.out ≤ g.O.Sink.faults l.out;
  nothing : length l.bytes ≡ 0 → l.out ≡ l.fn.out;
}

abbrev pub decreases-loop-done : goal.decreases-loop-done
decreases-loop-done g l = length l.bytes - l.done
