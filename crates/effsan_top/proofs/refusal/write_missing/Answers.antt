use Rattle.std.proofs.Common.{◌++◌, codes}
use Rattle.std.proofs.lemmas.Result.{err_from_is_err_and}
use Rattle.effsan_top.proofs.Pieces.{appends_both, some_of_front, some_after}
use Rattle.effsan_top.proofs.refusal.write_missing.Goals as goal

pub returns-in_err-write_all-clause-failed : goal.returns-in_err-write_all-clause-failed
returns-in_err-write_all-clause-failed g c =
    let p = err_from_is_err_and c.from_residual.result c.from_residual.ensures.1 in
    rw p.1 (some_of_front (codes "effsan: entry NotFound " ++ c.args.name.now) (codes "\n") _ _
    (some_of_front (codes "effsan: entry NotFound ") c.args.name.now _ _ c.in_err-write_all.ensures.part))

pub returns-in_err-write_all-2-clause-failed : goal.returns-in_err-write_all-2-clause-failed
returns-in_err-write_all-2-clause-failed g c =
    let p = err_from_is_err_and c.from_residual-in_err-write_all-2.result c.from_residual-in_err-write_all-2.ensures.1 in
    rw p.1 (some_of_front (codes "effsan: entry NotFound " ++ c.args.name.now) (codes "\n") _ _
    (some_after (codes "effsan: entry NotFound ") c.args.name.now _ _ _ c.in_ok-write_all.ensures.all c.in_err-write_all-2.ensures.part))

pub returns-in_err-write_all-3-clause-failed : goal.returns-in_err-write_all-3-clause-failed
returns-in_err-write_all-3-clause-failed g c =
    let p = err_from_is_err_and c.from_residual-in_err-write_all-3.result c.from_residual-in_err-write_all-3.ensures.1 in
    rw p.1 (some_after (codes "effsan: entry NotFound " ++ c.args.name.now) (codes "\n") _ _ _
    (appends_both (codes "effsan: entry NotFound ") c.args.name.now _ _ _ c.in_ok-write_all.ensures.all c.in_ok-write_all-2.ensures.all)
    c.in_err-write_all-3.ensures.part)

pub returns-clause-ok : goal.returns-clause-ok
returns-clause-ok g c =
    appends_both (codes "effsan: entry NotFound " ++ c.args.name.now) (codes "\n") _ _ _
    (appends_both (codes "effsan: entry NotFound ") c.args.name.now _ _ _ c.in_ok-write_all.ensures.all c.in_ok-write_all-2.ensures.all)
    c.in_ok-write_all-3.ensures.all
