use Rattle.std.proofs.Common.{arith, rules}
use Rattle.std.proofs.lemmas.Grind.{common_steps}
use Rattle.effs_io.proofs.Passed.{appends-write}
use Rattle.effs_io.proofs.transfer.write_all.Goals as goal

pub loop-done-preserved : goal.loop-done-preserved
loop-done-preserved g c = record {
  within = search rules;
  took = appends-write _ _ _ _ _ _ _ (grind (arith, common_steps)) c.loop-done.invariant.took c.in_ok-count.ensures.took;
  never_falls = omega (arith, c.in_ok-count.ensures.never_falls);
  nothing = λ empty. absurd (omega arith);
}
