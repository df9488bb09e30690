use Rattle.std.proofs.Common.{◌∙◌, sym, ap, subst, refl}
use Rattle.slot_headers.specs.Words.{address_of}
use Rattle.heap_model.specs.Answers.{offset}
use Rattle.heap_model.specs.State.{State}
use Rattle.heap_model.specs.declared.calls.Call.TheVariants.{Free}
use Rattle.heap_model.specs.declared.calls.Reply.TheVariants.{Done}
use Rattle.heap_model.specs.declared.calls.ReportKind.TheVariants.{BadFree}
use Rattle.object_slots.specs.SlotStates.{state_at}
use Rattle.region_calls.specs.Serving.{IsServed}
use Rattle.region_calls.proofs.Standing.{offset-here}
use Rattle.region_calls.proofs.Freeing.{live-inside, live-ends}
use Rattle.region_calls.proofs.Ending.{served-report, served-end}
use Rattle.region_calls.proofs.frees.free_of_live.Goals as goal

pub returns-then-offset_in_slot-ne0-clause-answer : goal.returns-then-offset_in_slot-ne0-clause-answer
returns-then-offset_in_slot-ne0-clause-answer c = λ dead.
    let named = c.requires.named in
    let far = c.offset_in_slot.ensures.value ∙ sym
    (offset-here c.args.slots.now (address_of c.args.p) c.args.slot named.at c.args.p) in
    live-inside (offset (address_of c.args.p) c.args.p) c.args.fixed dead
    (state_at c.args.slots.now.states c.args.slot).body named.object named.body
    (λ e. c.if-offset_in_slot-ne0.true (far ∙ e))

pub returns-then-offset_in_slot-ne0-clause-served : goal.returns-then-offset_in_slot-ne0-clause-served
returns-then-offset_in_slot-ne0-clause-served c =
    served-report c.args.slots.now (Free c.args.p c.args.fixed) BadFree refl

pub returns-then-facts-fixed-clause-served : goal.returns-then-facts-fixed-clause-served
returns-then-facts-fixed-clause-served c = served-report c.args.slots.now (Free c.args.p c.args.fixed) BadFree refl

pub returns-clause-answer : goal.returns-clause-answer
returns-clause-answer c = λ dead.
    let named = c.requires.named in
    let far = c.offset_in_slot.ensures.value ∙ sym
    (offset-here c.args.slots.now (address_of c.args.p) c.args.slot named.at c.args.p) in
    live-ends (offset (address_of c.args.p) c.args.p) c.args.fixed c.args.facts.fixed dead
    (state_at c.args.slots.now.states c.args.slot).body named.object named.body
    (sym far ∙ c.if-offset_in_slot-ne0.false) (ap (λ f. f.fixed) named.known) c.if-facts-fixed.false

pub returns-clause-served : goal.returns-clause-served
returns-clause-served c =
    subst (λ (s : State). IsServed c.args.slots.now s (Free c.args.p c.args.fixed) Done) (sym c.release.ensures)
    (served-end c.args.slots.now c.args.p c.args.slot c.args.fixed c.args.facts c.requires.named c.requires.version)
