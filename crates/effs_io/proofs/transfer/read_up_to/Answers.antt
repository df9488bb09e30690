use Rattle.std.proofs.Common.{rules, arith, ◌+◌}
use Rattle.std.proofs.lemmas.Grind.{common_steps}
use Rattle.effs_io.specs.Streams.{GaveSome}
use Rattle.effs_io.proofs.Passed.{consumes-all, consumes-read, consumes-some, consumes-stays}
use Rattle.effs_io.proofs.transfer.read_up_to.Goals as goal

pub returns-in_err-count-clause-rest : goal.returns-in_err-count-clause-rest
returns-in_err-count-clause-rest g c =
    let given : GaveSome (c.args.limit + 1) (g.S.Source.left c.args.src.now) (g.S.Source.left c.read.new.self) =
    consumes-some _ _ _ _ (consumes-stays _ _ _ _ c.loop-bytes.invariant.gave c.in_err-count.ensures.kept) (grind (arith, common_steps)) in
    search rules

pub returns-in_err-extend_from_slice-clause-rest : goal.returns-in_err-extend_from_slice-clause-rest
returns-in_err-extend_from_slice-clause-rest g c =
    let given : GaveSome (c.args.limit + 1) (g.S.Source.left c.args.src.now) (g.S.Source.left c.read.new.self) =
    consumes-some _ _ _ _ (consumes-read _ _ _ _ _ _ c.loop-bytes.invariant.gave c.in_ok-count.ensures.given c.in_ok-count.ensures.moved) (grind (arith, common_steps)) in
    search rules

pub returns-then-len-limit-clause-rest : goal.returns-then-len-limit-clause-rest
returns-then-len-limit-clause-rest g c =
    consumes-some _ _ _ _ (consumes-read _ _ _ _ _ _ c.loop-bytes.invariant.gave c.in_ok-count.ensures.given c.in_ok-count.ensures.moved) (grind (arith, common_steps))

pub returns-then-len-limit-clause-too_large : goal.returns-then-len-limit-clause-too_large
returns-then-len-limit-clause-too_large g c =
    λ is. consumes-all _ _ _ _ (consumes-read _ _ _ _ _ _ c.loop-bytes.invariant.gave c.in_ok-count.ensures.given c.in_ok-count.ensures.moved) (grind (arith, common_steps))
