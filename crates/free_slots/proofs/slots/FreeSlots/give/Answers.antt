use Rattle.std.proofs.Common.{◌≡◌, true, false, refl, sym, ap, subst, ◌∙◌, arith}
use Rattle.std.specs.FinSet.{contains}
use Rattle.std.specs.Vec.{with_item}
use Rattle.free_slots.specs.declared.slots.FreeSlots.TheInside.{Inside}
use Rattle.free_slots.specs.Fields.{marked}
use Rattle.free_slots.specs.Slots.{Slots, rest_limit, resting_slots, after_give}
use Rattle.free_slots.proofs.Kept.{room-given, kept-given, step-given}
use Rattle.free_slots.proofs.Steps.{resting-given}
use Rattle.free_slots.proofs.slots.FreeSlots.give.Goals as goal

pub lay_to_rest-requires-clause-room : goal.lay_to_rest-requires-clause-room
lay_to_rest-requires-clause-room c =
    let member : contains (marked c.self.inside.taken.items) c.args.slot ≡ true =
    subst (λ (s : Slots). contains s.taken c.args.slot ≡ true) (sym c.self.view_is) c.requires in
    room-given c.self.inside c.self.invariant c.args.slot member

pub invariant_of-self : goal.invariant_of-self
invariant_of-self c =
    let member : contains (marked c.self.inside.taken.items) c.args.slot ≡ true =
    subst (λ (s : Slots). contains s.taken c.args.slot ≡ true) (sym c.self.view_is) c.requires in
    let limit : c.rest_limit.result ≡ rest_limit c.self.inside.slots = c.rest_limit.ensures in
    kept-given c.self.inside c.self.invariant c.args.slot member _ refl refl c.lay_to_rest.ensures.order
    (omega (arith, c.lay_to_rest.ensures.few, limit))
    (λ more. c.lay_to_rest.ensures.full more ∙ limit)
    (λ full. c.lay_to_rest.ensures.still_full (full ∙ sym limit) ∙ limit)
    c.lay_to_rest.ensures.ready_room c.lay_to_rest.ensures.resting_room

pub returns-clause-step : goal.returns-clause-step
returns-clause-step c =
    let member : contains (marked c.self.inside.taken.items) c.args.slot ≡ true =
    subst (λ (s : Slots). contains s.taken c.args.slot ≡ true) (sym c.self.view_is) c.requires in
    let after : Inside = record {
      slots = c.self.inside.slots;
      taken = with_item c.self.inside.taken c.args.slot false;
      ready = c.lay_to_rest.new.ready;
      resting = c.lay_to_rest.new.resting;
    } in
    step-given c.self.inside c.self.invariant c.args.slot member after refl refl c.lay_to_rest.ensures.order
    ∙ ap (λ s. after_give s c.args.slot) c.self.view_is

pub returns-clause-resting : goal.returns-clause-resting
returns-clause-resting c = ap resting_slots (returns-clause-step c) ∙ resting-given c.args.self.now c.args.slot
