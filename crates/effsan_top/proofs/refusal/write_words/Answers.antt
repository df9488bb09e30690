use Rattle.std.proofs.Common.{◌++◌, codes}
use Rattle.std.proofs.lemmas.Result.{err_from_is_err_and}
use Rattle.effs_words.specs.Names.{error_name, error_place}
use Rattle.effsan_top.specs.Lines.{place_text}
use Rattle.effsan_top.proofs.Pieces.{appends_both, some_of_front, some_after}
use Rattle.effsan_top.proofs.refusal.write_words.Goals as goal

pub returns-in_err-write_error_name-clause-failed : goal.returns-in_err-write_error_name-clause-failed
returns-in_err-write_error_name-clause-failed g c =
    let p = err_from_is_err_and c.from_residual.result c.from_residual.ensures.1 in
    let name = codes "effsan: words: " ++ error_name c.args.error.now in
    let place = place_text (error_place c.args.error.now) in
    rw p.1 (some_of_front (name ++ place) (codes "\n") _ _ (some_of_front name place _ _ c.in_err-write_error_name.ensures.failed))

pub returns-in_err-write_error_place-clause-failed : goal.returns-in_err-write_error_place-clause-failed
returns-in_err-write_error_place-clause-failed g c =
    let p = err_from_is_err_and c.from_residual-in_err-write_error_place.result c.from_residual-in_err-write_error_place.ensures.1 in
    let name = codes "effsan: words: " ++ error_name c.args.error.now in
    let place = place_text (error_place c.args.error.now) in
    rw p.1 (some_of_front (name ++ place) (codes "\n") _ _ (some_after name place _ _ _ c.in_ok-write_error_name.ensures.ok c.in_err-write_error_place.ensures.failed))

pub returns-in_err-write_all-clause-failed : goal.returns-in_err-write_all-clause-failed
returns-in_err-write_all-clause-failed g c =
    let p = err_from_is_err_and c.from_residual-in_err-write_all.result c.from_residual-in_err-write_all.ensures.1 in
    let name = codes "effsan: words: " ++ error_name c.args.error.now in
    let place = place_text (error_place c.args.error.now) in
    rw p.1 (some_after (name ++ place) (codes "\n") _ _ _ (appends_both name place _ _ _ c.in_ok-write_error_name.ensures.ok c.in_ok-write_error_place.ensures.ok) c.in_err-write_all.ensures.part)

pub returns-clause-ok : goal.returns-clause-ok
returns-clause-ok g c =
    let name = codes "effsan: words: " ++ error_name c.args.error.now in
    let place = place_text (error_place c.args.error.now) in
    appends_both (name ++ place) (codes "\n") _ _ _ (appends_both name place _ _ _ c.in_ok-write_error_name.ensures.ok c.in_ok-write_error_place.ensures.ok) c.in_ok-write_all.ensures.all
