use Rattle.std.proofs.Common.{◌≡◌, sym, ◌∙◌, Ok, Err}
use Rattle.static_rules.specs.Calls.{answered}
use Rattle.call_steps.proofs.Tellings.{told_behind}
use Rattle.call_steps.proofs.given.given_call.Goals as goal

pub returns-in-Ok : goal.returns-in-Ok
returns-in-Ok c =
    let read : answered c.args.at c.args.here c.args.state.now c.args.arguments ≡ Ok c.in-Ok.values =
    sym (c.answered.ensures c.args.state.now) ∙ c.in-Ok.is in rw read c.given_made.ensures

pub returns-in-Err : goal.returns-in-Err
returns-in-Err c = told_behind _ _ c.in-Err.error (sym (c.answered.ensures c.args.state.now) ∙ c.in-Err.is)
