use Rattle.std.proofs.Common.{◌≡◌, ◌<◌, true, [], length, Some, refl, sym, ap, ◌∙◌, arith}
use Rattle.free_slots.specs.declared.slots.FreeSlots.TheInside.{Inside}
use Rattle.free_slots.specs.Fields.{IsKept}
use Rattle.free_slots.specs.Slots.{ready_slots, resting_slots, next_of, after_take}
use Rattle.free_slots.proofs.Kept.{ready-is, next-full, next-made, step-fresh, kept-fresh, resting-kept}
use Rattle.free_slots.proofs.slots.FreeSlots.take_fresh.Goals as goal

-- ---- no slot is left

pub returns-then-made-slots-clause-next : goal.returns-then-made-slots-clause-next
returns-then-made-slots-clause-next c =
    let none : c.self.inside.ready.items ≡ [] = sym (ready-is c.self.inside c.self.invariant) ∙ ap ready_slots c.self.view_is ∙ c.requires in
    let all : length c.self.inside.taken.items ≡ c.self.inside.slots =
    sym c.self.inside.taken.ok.0 ∙ sym c.len-made.ensures ∙ c.if-made-slots.true in
    next-full c.self.inside c.self.invariant none all ∙ ap next_of c.self.view_is

pub returns-then-made-slots-clause-step : goal.returns-then-made-slots-clause-step
unfolding after_take
returns-then-made-slots-clause-step c = refl

-- ---- a slot is marked

made : (c : goal.In_ok-push) → c.len-made.result ≡ length c.self.inside.taken.items
made c = c.len-made.ensures ∙ c.self.inside.taken.ok.0

left : (c : goal.In_ok-push) → length c.self.inside.taken.items < c.self.inside.slots
left c = omega (arith, made c, c.self.invariant.marks, c.self.invariant.whole.within, c.if-made-slots.false)

abbrev after : goal.In_ok-push → Inside
after c = record {
  slots = c.self.inside.slots;
  taken = c.push.new.self;
  ready = c.reserve_return.new.ready;
  resting = c.reserve_return.new.resting;
}

kept : (c : goal.In_ok-push) → IsKept (after c)
kept c =
    kept-fresh c.self.inside c.self.invariant (left c) (after c) refl c.in_ok-push.ensures.items c.in_ok-reserve_return.ensures.ready
    c.in_ok-reserve_return.ensures.resting
    (omega (arith, made c, c.in_ok-reserve_return.ensures.ready_room))
    (omega (arith, c.rest_limit.ensures, c.in_ok-reserve_return.ensures.resting_room))

pub invariant_of-self-2 : goal.invariant_of-self-2
invariant_of-self-2 c = kept c

pub returns-clause-next : goal.returns-clause-next
returns-clause-next c =
    let none : c.self.inside.ready.items ≡ [] = sym (ready-is c.self.inside c.self.invariant) ∙ ap ready_slots c.self.view_is ∙ c.requires in
    next-made c.self.inside c.self.invariant (left c) c.len-made.result (made c) none ∙ ap next_of c.self.view_is

pub returns-clause-step : goal.returns-clause-step
returns-clause-step c =
    step-fresh c.self.inside c.self.invariant (left c) (after c) refl c.in_ok-push.ensures.items c.in_ok-reserve_return.ensures.ready
    c.in_ok-reserve_return.ensures.resting c.len-made.result (made c)
    ∙ ap (λ s. after_take s (Some (record { slot = c.len-made.result; fresh = true }))) c.self.view_is

pub returns-clause-resting : goal.returns-clause-resting
returns-clause-resting c =
    resting-kept c.self.inside (after c) c.self.invariant (kept c) c.in_ok-reserve_return.ensures.resting ∙ ap resting_slots c.self.view_is
