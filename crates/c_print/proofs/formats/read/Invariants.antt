use Rattle.std.proofs.Common.{◌≡◌, drop}
use Rattle.c_print.specs.Machine.{reading}
use Rattle.c_print.specs.declared.machine.State.TheVariants.{Outside}
use Rattle.c_print.proofs.Onward.{onward}
use Rattle.c_print.proofs.formats.read.Given as goal

abbrev pub invariant-loop-at : goal.invariant-loop-at
invariant-loop-at l = onward l.built l.at (reading l.state (drop l.at l.format)) ≡ reading Outside l.format
