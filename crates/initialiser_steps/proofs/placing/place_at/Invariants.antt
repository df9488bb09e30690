use Rattle.std.proofs.Common.{◌≡◌, drop}
use Rattle.declaration_rules.specs.Stores.{place_at}
use Rattle.initialiser_steps.proofs.placing.place_at.Given as goal

abbrev pub invariant-loop-step : goal.invariant-loop-step
invariant-loop-step l = place_at l.line l.place (drop l.step-index l.path) ≡ place_at l.line l.fn.object l.path
