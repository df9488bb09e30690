use Rattle.std.proofs.Common.{map}
use Rattle.std.specs.Prelude.{string_bytes}
use Rattle.std.proofs.lemmas.Result.{err_from_is_err_and}
use Rattle.effs_words.proofs.Answering.{asks_play, play_refused}
use Rattle.effs_words.proofs.build.read_play.Goals as goal

pub returns-in_err-run : goal.returns-in_err-run
returns-in_err-run c =
    let p = err_from_is_err_and c.from_residual.result c.from_residual.ensures.1 in
    λ word named. rw (p.1, p.2) (play_refused word (map string_bytes c.args.words.now) _ c.in_err-run.ensures.refused named)

pub returns : goal.returns
returns c = λ word named. asks_play word (map string_bytes c.args.words.now) _ _ c.in_ok-run.ensures.asks named
