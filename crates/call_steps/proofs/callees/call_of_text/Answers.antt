use Rattle.std.proofs.Common.{◌≡◌, sym, ap, ◌∙◌, Ok, Err}
use Rattle.static_rules.specs.Calls.{answered}
use Rattle.call_steps.proofs.Tellings.{told_behind}
use Rattle.call_steps.proofs.callees.call_of_text.Goals as goal

pub returns-in-Ok : goal.returns-in-Ok
returns-in-Ok c = λ s.
    let read : answered c.args.at c.args.here s c.args.arguments ≡ Ok c.in-Ok.values =
    sym (c.answered.ensures s) ∙ c.in-Ok.is in rw read (ap (λ x. Ok (x, s)) (sym c.call.ensures))

pub returns-in-Err : goal.returns-in-Err
returns-in-Err c = λ s. told_behind _ _ c.in-Err.error (sym (c.answered.ensures s) ∙ c.in-Err.is)
