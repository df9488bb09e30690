use Rattle.std.proofs.Common.{refl, subst}
use Rattle.plain_meaning.specs.Names.{HasNone}
use Rattle.std.proofs.lemmas.Option.{slice_get_within}
use Rattle.std.proofs.lemmas.Result.{err_from_is_err_and}
use Rattle.effsan_top.proofs.Endings.{run_history, run_reports}
use Rattle.effsan_top.proofs.Outcomes.{program_cause}
use Rattle.effsan_top.proofs.answer.answer_text.Goals as goal

pub returns-in_err-program-clause-refused : goal.returns-in_err-program-clause-refused
returns-in_err-program-clause-refused c =
    let p = err_from_is_err_and c.from_residual.result c.from_residual.ensures.1 in
    rw (p.1, p.2) (program_cause c.args.play.entry c.args.text.now _ c.in_err-program.ensures.refused)

pub run_program-requires : goal.run_program-requires
run_program-requires c = slice_get_within _ _ c.in-Ok.ensures.named.function c.in-Ok.ensures.named.found

pub returns-in_default-clause-refused : goal.returns-in_default-clause-refused
returns-in_default-clause-refused c = (
  refl,
  record {
    program = c.in_ok-program.program;
    read = c.in_ok-program.ensures.found;
    missing = subst (λ n. HasNone c.in_ok-program.program n) c.bytes.ensures (c.in_default.ensures {u = tt});
  },
)

pub returns-clause-reports : goal.returns-clause-reports
returns-clause-reports c = run_reports c.law_reported.ensures _ _ _ c.in_ok-answer.ensures.run

pub returns-clause-history : goal.returns-clause-history
returns-clause-history c = run_history c.law_checks.ensures c.law_accesses_inside.ensures _ _ _ c.in_ok-answer.ensures.run c.in_ok-answer.ensures.stamps
