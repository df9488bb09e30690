use Rattle.std.proofs.Common.{◌≡◌, ◌≤◌, List, ℕ, length, subst, sym, refl, ap, Err, arith}
use Rattle.std.specs.Prelude.{IfSome, map, string_bytes}
use Rattle.std.proofs.lemmas.Result.{err_from_is_err_and, IfErr-weaker, IfOk-weaker}
use Rattle.effs_io.specs.Streams.{Rose, max_text}
use Rattle.effsan_top.proofs.Outcomes.{words_cause, read_cause, text_cause, text_run, words_status, read_status, read_not_words, text_status, gave_none, read_whole}
use Rattle.effsan_top.proofs.answer.answer_words.Goals as goal

pub returns-in_err-play-clause-refused : goal.returns-in_err-play-clause-refused
returns-in_err-play-clause-refused g c =
    let p = err_from_is_err_and c.from_residual.result c.from_residual.ensures.1 in
    rw (p.1, p.2) (words_cause (map string_bytes c.args.words.now) (g.S.Source.left c.args.src.now) (Rose (g.S.Source.faults c.args.src.now) (g.S.Source.faults c.args.src.now)) _ c.in_err-play.ensures.refused)

pub returns-in_err-play-clause-source : goal.returns-in_err-play-clause-source
returns-in_err-play-clause-source g c =
    let p = err_from_is_err_and c.from_residual.result c.from_residual.ensures.1 in
    rw (p.1, p.2) (record {
      whole = λ is. absurd (words_status (map string_bytes c.args.words.now) _ c.in_err-play.ensures.refused is);
      front = gave_none _ _ _ refl;
    })

pub returns-in_err-text-clause-refused : goal.returns-in_err-text-clause-refused
returns-in_err-text-clause-refused g c =
    let p = err_from_is_err_and c.from_residual-in_err-text.result c.from_residual-in_err-text.ensures.1 in
    rw (p.1, p.2) (read_cause (map string_bytes c.args.words.now) (g.S.Source.left c.args.src.now) (Rose (g.S.Source.faults c.args.src.now) (g.S.Source.faults c.read_all.new.src))
    c.in_ok-play.play c.in_ok-play.ensures.found (g.S.Source.left c.read_all.new.src) c.in_err-text.field-0.0 (λ is. c.in_err-text.ensures.fault (ap (λ e. Err e) is)) (λ is. c.in_err-text.ensures.too_large (ap (λ e. Err e) is)))

pub returns-in_err-text-clause-source : goal.returns-in_err-text-clause-source
returns-in_err-text-clause-source g c =
    let p = err_from_is_err_and c.from_residual-in_err-text.result c.from_residual-in_err-text.ensures.1 in
    rw (p.1, p.2) (record {
      whole = λ is. absurd (read_status c.in_err-text.field-0.0 is);
      front = c.in_err-text.ensures.rest;
    })

pub returns-in_err-text-clause-untouched : goal.returns-in_err-text-clause-untouched
returns-in_err-text-clause-untouched g c =
    let p = err_from_is_err_and c.from_residual-in_err-text.result c.from_residual-in_err-text.ensures.1 in
    rw (p.1, p.2) (λ is. absurd (read_not_words c.in_err-text.field-0.0 is))

pub returns-clause-run : goal.returns-clause-run
returns-clause-run g c =
    let text = c.as_slice.result.now in
    let fits : length text ≤ max_text = omega (arith, c.as_slice.ensures.len, c.in_ok-text.ensures.small) in
    let told = subst (λ (t : List ℕ). IfSome (g.S.Source.left c.args.src.now) (λ told. t ≡ told)) (sym c.as_slice.ensures.value) c.in_ok-text.ensures.all in
    IfOk-weaker c.answer_text.result _ _
    (λ answer h. text_run (map string_bytes c.args.words.now) (g.S.Source.left c.args.src.now) (Rose (g.S.Source.faults c.args.src.now) (g.S.Source.faults c.read_all.new.src))
    c.in_ok-play.play c.in_ok-play.ensures.found text (record { told = told; fits = fits }) answer.run h)
    c.answer_text.ensures.run

pub returns-clause-refused : goal.returns-clause-refused
returns-clause-refused g c =
    let text = c.as_slice.result.now in
    let fits : length text ≤ max_text = omega (arith, c.as_slice.ensures.len, c.in_ok-text.ensures.small) in
    let told = subst (λ (t : List ℕ). IfSome (g.S.Source.left c.args.src.now) (λ told. t ≡ told)) (sym c.as_slice.ensures.value) c.in_ok-text.ensures.all in
    IfErr-weaker c.answer_text.result _ _
    (λ refusal h. text_cause (map string_bytes c.args.words.now) (g.S.Source.left c.args.src.now) (Rose (g.S.Source.faults c.args.src.now) (g.S.Source.faults c.read_all.new.src))
    c.in_ok-play.play c.in_ok-play.ensures.found text (record { told = told; fits = fits }) refusal h)
    c.answer_text.ensures.refused

pub returns-clause-source : goal.returns-clause-source
returns-clause-source g c =
    let text = c.as_slice.result.now in
    let fits : length text ≤ max_text = omega (arith, c.as_slice.ensures.len, c.in_ok-text.ensures.small) in
    let told = subst (λ (t : List ℕ). IfSome (g.S.Source.left c.args.src.now) (λ told. t ≡ told)) (sym c.as_slice.ensures.value) c.in_ok-text.ensures.all in
    record {
      whole = λ is. c.in_ok-text.ensures.end;
      front = read_whole (g.S.Source.left c.args.src.now) (g.S.Source.left c.read_all.new.src) text told c.in_ok-text.ensures.end fits;
    }

pub returns-clause-untouched : goal.returns-clause-untouched
returns-clause-untouched g c =
    IfErr-weaker c.answer_text.result _ _ (λ refusal h is. absurd (text_status c.in_ok-play.play.entry c.as_slice.result.now refusal h is)) c.answer_text.ensures.refused
