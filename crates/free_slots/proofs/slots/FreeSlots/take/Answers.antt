use Rattle.std.proofs.Common.{◌≡◌, true, false, Some, refl, ap, subst, ◌∙◌, arith, rules}
use Rattle.std.specs.Prelude.{IfOk}
use Rattle.std.specs.Vec.{with_item}
use Rattle.std.proofs.lemmas.Result.{IfOk-weaker}
use Rattle.free_slots.specs.declared.slots.FreeSlots.TheInside.{Inside}
use Rattle.free_slots.specs.Fields.{IsWhole}
use Rattle.free_slots.specs.Slots.{resting_slots, next_of, after_take}
use Rattle.free_slots.proofs.Kept.{next-again, lawful-again, within-again, step-again, kept-again, resting-kept}
use Rattle.free_slots.proofs.Steps.{law_of_next, taken_of_step}
use Rattle.free_slots.proofs.slots.FreeSlots.take.Goals as goal

-- ---- a slot is ready

pub index_mut-requires : goal.index_mut-requires
index_mut-requires c =
    let within = within-again c.self.inside c.self.invariant c.pop.new.self.items c.in-Some.slot c.in-Some.ensures.items in
    omega (arith, within, c.self.inside.taken.ok.0)

pub invariant_of-self : goal.invariant_of-self
invariant_of-self c =
    kept-again c.self.inside c.self.invariant c.pop.new.self.items c.in-Some.slot c.in-Some.ensures.items _ refl refl refl refl
    c.in-Some.ensures.capacity refl

pub returns-in-Some-clause-next : goal.returns-in-Some-clause-next
returns-in-Some-clause-next c =
    next-again c.self.inside c.self.invariant c.pop.new.self.items c.in-Some.slot c.in-Some.ensures.items ∙ ap next_of c.self.view_is

pub returns-in-Some-clause-step : goal.returns-in-Some-clause-step
returns-in-Some-clause-step c =
    let after : Inside = record {
      slots = c.self.inside.slots;
      taken = with_item c.self.inside.taken c.in-Some.slot true;
      ready = c.pop.new.self;
      resting = c.self.inside.resting;
    } in
    step-again c.self.inside c.self.invariant c.pop.new.self.items c.in-Some.slot c.in-Some.ensures.items after refl refl refl refl
    ∙ ap (λ s. after_take s (Some (record { slot = c.in-Some.slot; fresh = false }))) c.self.view_is

pub returns-in-Some-clause-none : goal.returns-in-Some-clause-none
returns-in-Some-clause-none c =
    (lawful-again c.self.inside c.self.invariant c.pop.new.self.items c.in-Some.slot c.in-Some.ensures.items c.args.self.now c.self.view_is).none

pub returns-in-Some-clause-free : goal.returns-in-Some-clause-free
returns-in-Some-clause-free c =
    (lawful-again c.self.inside c.self.invariant c.pop.new.self.items c.in-Some.slot c.in-Some.ensures.items c.args.self.now c.self.view_is).free

pub returns-in-Some-clause-fresh : goal.returns-in-Some-clause-fresh
returns-in-Some-clause-fresh c =
    (lawful-again c.self.inside c.self.invariant c.pop.new.self.items c.in-Some.slot c.in-Some.ensures.items c.args.self.now c.self.view_is).fresh

pub returns-in-Some-clause-taken : goal.returns-in-Some-clause-taken
returns-in-Some-clause-taken c =
    taken_of_step c.args.self.now _ (Some (record { slot = c.in-Some.slot; fresh = false })) (returns-in-Some-clause-step c)

pub returns-in-Some-clause-resting : goal.returns-in-Some-clause-resting
returns-in-Some-clause-resting c =
    let after : Inside = record {
      slots = c.self.inside.slots;
      taken = with_item c.self.inside.taken c.in-Some.slot true;
      ready = c.pop.new.self;
      resting = c.self.inside.resting;
    } in
    resting-kept c.self.inside after c.self.invariant (invariant_of-self c) refl ∙ ap resting_slots c.self.view_is

-- ---- none is ready

pub returns-in-None-clause-none : goal.returns-in-None-clause-none
returns-in-None-clause-none c =
    let whole : IsWhole c.args.self.now = subst IsWhole c.self.view_is c.self.invariant.whole in
    let next : IfOk c.take_fresh.result (λ next. next ≡ next_of c.args.self.now) = search rules in
    IfOk-weaker c.take_fresh.result (λ next. next ≡ next_of c.args.self.now) _ (λ next e. (law_of_next c.args.self.now next whole e).none) next

pub returns-in-None-clause-free : goal.returns-in-None-clause-free
returns-in-None-clause-free c =
    let whole : IsWhole c.args.self.now = subst IsWhole c.self.view_is c.self.invariant.whole in
    let next : IfOk c.take_fresh.result (λ next. next ≡ next_of c.args.self.now) = search rules in
    IfOk-weaker c.take_fresh.result (λ next. next ≡ next_of c.args.self.now) _ (λ next e. (law_of_next c.args.self.now next whole e).free) next

pub returns-in-None-clause-fresh : goal.returns-in-None-clause-fresh
returns-in-None-clause-fresh c =
    let whole : IsWhole c.args.self.now = subst IsWhole c.self.view_is c.self.invariant.whole in
    let next : IfOk c.take_fresh.result (λ next. next ≡ next_of c.args.self.now) = search rules in
    IfOk-weaker c.take_fresh.result (λ next. next ≡ next_of c.args.self.now) _ (λ next e. (law_of_next c.args.self.now next whole e).fresh) next

pub returns-in-None-clause-taken : goal.returns-in-None-clause-taken
returns-in-None-clause-taken c =
    let step : IfOk c.take_fresh.result (λ next. c.take_fresh.new.self ≡ after_take c.args.self.now next) = search rules in
    IfOk-weaker c.take_fresh.result (λ next. c.take_fresh.new.self ≡ after_take c.args.self.now next) _
    (λ next e. taken_of_step c.args.self.now c.take_fresh.new.self next e) step
