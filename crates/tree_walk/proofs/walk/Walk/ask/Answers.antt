use Rattle.std.proofs.Common.{refl, sym, ap, ◌∙◌}
use Rattle.std.proofs.lemmas.Result.{err_from_is_err_and}
use Rattle.plain_meaning.specs.declared.record.Ending.TheVariants.{Reported}
use Rattle.plain_meaning.specs.Tree.{Stop}
use Rattle.plain_meaning.specs.Points.{checked_next, pointer_of}
use Rattle.region_heaps.specs.Entries.{next_entry}
use Rattle.tree_walk.specs.Steps.{onward}
use Rattle.tree_walk.proofs.Passing.{asked, to_words, report_same}
use Rattle.tree_walk.proofs.walk.Walk.ask.Goals as goal

pub returns-in-Report-clause-asked : goal.returns-in-Report-clause-asked
returns-in-Report-clause-asked c =
    let walk = c.args.self.now in
    let subject = c.args.subject.now in
    let entry = next_entry walk.heaps 1 c.args.call.now c.in_ok-reply.reply in
    λ action u w f asks about.
    to_words (Stop (Reported c.report.result))
    (ap (λ r. onward f (checked_next tt subject.line action u w r)) c.in-Report.is
    ∙ ap (λ r. Stop (Reported r)) (report_same subject action (pointer_of u) c.in-Report.kind about ∙ sym c.report.ensures))
    (asked walk _ subject.line action u w f c.args.call.now entry asks refl refl (c.in_ok-reply.ensures {u = tt}).entry refl refl)

pub returns-in_default-clause-asked : goal.returns-in_default-clause-asked
returns-in_default-clause-asked c =
    let walk = c.args.self.now in
    let subject = c.args.subject.now in
    let entry = next_entry walk.heaps 1 c.args.call.now c.in_ok-reply.reply in
    λ action u w f asks.
    asked walk _ subject.line action u w f c.args.call.now entry asks refl refl (c.in_ok-reply.ensures {u = tt}).entry refl refl

pub returns-in_err-reply-clause-asked : goal.returns-in_err-reply-clause-asked
returns-in_err-reply-clause-asked c =
    let p = err_from_is_err_and c.from_residual.result c.from_residual.ensures.1 in rw (p.1, p.2) tt
