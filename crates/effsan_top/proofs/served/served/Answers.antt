use Rattle.std.proofs.Common.{map, sym, subst, ◌∙◌}
use Rattle.std.specs.Prelude.{string_bytes}
use Rattle.std.proofs.lemmas.Result.{err_from_is_err_and}
use Rattle.effs_words.specs.Words.{Words as Ask}
use Rattle.effsan_top.specs.Served.{unserved, run_needs_threads, big_needs_threads, unknown_watch, play_not_yet, layout_not_yet, check_not_yet, verify_not_yet}
use Rattle.effsan_top.proofs.Outcomes.{refusal_of_words, unwatched}
use Rattle.effsan_top.proofs.served.served.Goals as goal

pub returns-in_err-read_words-clause-refused : goal.returns-in_err-read_words-clause-refused
returns-in_err-read_words-clause-refused c =
    let p = err_from_is_err_and c.from_residual.result c.from_residual.ensures.1 in
    rw (p.1, p.2) (refusal_of_words (map string_bytes c.args.words.now) (c.law_words.ensures.no_memory (map string_bytes c.args.words.now)) _ c.in_err-read_words.ensures.refused)

pub returns-in-Run-clause-refused : goal.returns-in-Run-clause-refused
returns-in-Run-clause-refused c =
    let words = map string_bytes c.args.words.now in
    unserved (subst (Ask words) c.in-Run.is (c.in_ok-read_words.ensures {u = tt}).found) run_needs_threads

pub returns-in-Big-clause-refused : goal.returns-in-Big-clause-refused
returns-in-Big-clause-refused c =
    let words = map string_bytes c.args.words.now in
    unserved (subst (Ask words) c.in-Big.is (c.in_ok-read_words.ensures {u = tt}).found) big_needs_threads

pub returns-in-Layout-clause-refused : goal.returns-in-Layout-clause-refused
returns-in-Layout-clause-refused c =
    let words = map string_bytes c.args.words.now in
    unserved (subst (Ask words) c.in-Layout.is (c.in_ok-read_words.ensures {u = tt}).found) layout_not_yet

pub returns-in-Check-clause-refused : goal.returns-in-Check-clause-refused
returns-in-Check-clause-refused c =
    let words = map string_bytes c.args.words.now in
    unserved (subst (Ask words) c.in-Check.is (c.in_ok-read_words.ensures {u = tt}).found) check_not_yet

pub returns-clause-refused : goal.returns-clause-refused
returns-clause-refused c =
    let words = map string_bytes c.args.words.now in
    unserved (subst (Ask words) c.in-Verify.is (c.in_ok-read_words.ensures {u = tt}).found) verify_not_yet

pub returns-in-Some-clause-refused : goal.returns-in-Some-clause-refused
returns-in-Some-clause-refused c =
    let words = map string_bytes c.args.words.now in
    unserved (subst (Ask words) c.in-Play.is (c.in_ok-read_words.ensures {u = tt}).found) (unknown_watch (sym c.first_watch.ensures ∙ c.in-Some.is))

pub returns-in-Play-clause-refused : goal.returns-in-Play-clause-refused
returns-in-Play-clause-refused c =
    let words = map string_bytes c.args.words.now in
    let ask = subst (Ask words) c.in-Play.is (c.in_ok-read_words.ensures {u = tt}).found in
    let unknown = unwatched words c.in-Play.run' c.in-Play.schedule (c.law_watches.ensures words c.in-Play.run' c.in-Play.schedule ask) (sym c.first_watch.ensures ∙ c.in-None.is) in
    unserved ask (play_not_yet unknown (λ play run none. absurd (let some = (c.in-None-solo_play.ensures {u = tt}).only play run none in cc some)))
