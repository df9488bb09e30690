use Rattle.std.proofs.Common.{◌<◌, ◌∙◌, Some, length, sym, ap, arith}
use Rattle.region_calls.proofs.Standing.{in-slot, elsewhere, no-region}
use Rattle.region_calls.proofs.naming.taken_slot.Goals as goal

pub returns-in_err-region : goal.returns-in_err-region
returns-in_err-region c = rw c.from_residual.ensures
    (no-region c.args.slots.now c.args.anchor (sym c.in_err-region.ensures.value))

pub returns-then-region : goal.returns-then-region
returns-then-region c =
    elsewhere c.args.slots.now c.args.anchor c.in_ok-slot.slot c.in_ok-region.region
    (sym c.in_ok-region.ensures.value) c.in_ok-slot.ensures
    (λ e. c.if-region.true (e ∙ sym c.region.ensures))

pub returns : goal.returns
returns c =
    let below : c.in_ok-slot.slot < length c.args.slots.now.states = omega arith in
    in-slot c.args.slots.now c.args.anchor c.in_ok-slot.slot
    (sym c.in_ok-region.ensures.value ∙ ap Some (c.if-region.false ∙ c.region.ensures)) c.in_ok-slot.ensures below
