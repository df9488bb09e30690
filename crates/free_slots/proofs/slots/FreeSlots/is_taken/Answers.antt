use Rattle.std.proofs.Common.{◌≡◌, false, get_or, arith, sym, ap, subst, ◌∙◌}
use Rattle.std.proofs.lemmas.Grind.{common_steps}
use Rattle.std.specs.FinSet.{contains}
use Rattle.free_slots.specs.Fields.{IsWhole}
use Rattle.free_slots.specs.Slots.{Slots}
use Rattle.free_slots.proofs.Marks.{contains-marked}
use Rattle.free_slots.proofs.Steps.{apart_at_rest}
use Rattle.free_slots.proofs.slots.FreeSlots.is_taken.Goals as goal

pub returns-clause-value : goal.returns-clause-value
returns-clause-value c =
    let mark : contains c.args.self.now.taken c.args.slot ≡ get_or c.self.inside.taken.items c.args.slot false =
    sym (ap (λ (s : Slots). contains s.taken c.args.slot) c.self.view_is) ∙ contains-marked c.self.inside.taken.items c.args.slot in
    let read : c.unwrap_or.result ≡ get_or c.self.inside.taken.items c.args.slot false = grind (arith, common_steps) in
    let same : c.unwrap_or.result ≡ contains c.args.self.now.taken c.args.slot = read ∙ sym mark in
    (λ yes. sym same ∙ yes, λ yes. same ∙ yes)

pub returns-clause-apart : goal.returns-clause-apart
returns-clause-apart c = apart_at_rest c.args.self.now c.args.slot (subst IsWhole c.self.view_is c.self.invariant.whole)
