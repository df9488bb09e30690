use Rattle.std.proofs.lemmas.Result.{err_from_is_err_and}
use Rattle.effsan_top.proofs.Pieces.{some_after}
use Rattle.effsan_top.proofs.refusal.write_both.Goals as goal

pub returns-in_err-write_all-2-clause-failed : goal.returns-in_err-write_all-2-clause-failed
returns-in_err-write_all-2-clause-failed g c =
    let p = err_from_is_err_and c.from_residual-in_err-write_all-2.result c.from_residual-in_err-write_all-2.ensures.1 in
    rw p.1 (some_after c.args.first.now c.args.second.now _ _ _ c.in_ok-write_all.ensures.all c.in_err-write_all-2.ensures.part)
