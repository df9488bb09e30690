use Rattle.std.proofs.Common.{length, refl, sym, ap, ◌∙◌, arith, rules}
use Rattle.std.proofs.lemmas.Option.{slice_get_read}
use Rattle.std.specs.Prelude.{slice_get}
use Rattle.tree_walk.proofs.Workers.{run_is}
use Rattle.tree_walk.proofs.running.run.Goals as goal

pub returns-clause-run : goal.returns-clause-run
returns-clause-run c =
    let program = c.args.program.now in
    let setting = c.args.setting.now in
    let functions = c.as_slice.result.now in
    let f = c.index-as_slice-setting.result in
    let outcome = c.in_ok-outcome.outcome in
    let ensured = c.in_ok-outcome.ensures {u = tt} in
    let law = c.law_calls.ensures in
    run_is program setting _ f outcome.heaps outcome.ending outcome.text c.into_history.ensures
    (ap (λ all. slice_get all setting.entry) (sym c.as_slice.ensures)
    ∙ slice_get_read functions (length functions) setting.entry f refl (omega (arith, ap length c.as_slice.ensures)) c.index-as_slice-setting.is)
    ensured.worked ensured.alone law.legal law.numbered law.stamped (search rules) (search rules)

pub returns-clause-stamps : goal.returns-clause-stamps
returns-clause-stamps c = rw c.into_history.ensures c.law_calls.ensures.stamps
