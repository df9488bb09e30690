use Rattle.std.proofs.Common.{◌≡◌, ◌∙◌, ◌==◌, true, false, None, refl, sym, ap}
use Rattle.std.proofs.lemmas.Bool.{eq-eqb, ne_eqb}
use Rattle.slot_headers.specs.Words.{version_of, address_of}
use Rattle.heap_model.specs.State.{live_by, dead_by}
use Rattle.heap_model.specs.declared.calls.Call.TheVariants.{Free}
use Rattle.heap_model.specs.declared.calls.ReportKind.TheVariants.{BadFree, DoubleFree}
use Rattle.object_slots.specs.SlotStates.{state_at}
use Rattle.region_calls.proofs.Standing.{live-named}
use Rattle.region_calls.proofs.Freeing.{free-zero, free-null, free-at}
use Rattle.region_calls.proofs.Ending.{served-report, served-null}
use Rattle.region_calls.proofs.frees.free.Goals as goal
use Rattle.region_calls.proofs.frees.free.Goals.{Else-version-eq0}

not_null : (c : Else-version-eq0) → (version_of c.args.p == 0) ≡ false
not_null c = ne_eqb _ _ (λ e. c.if-version-eq0.false (c.parts-address.ensures.version ∙ e))

pub object_named-requires : goal.object_named-requires
object_named-requires c = not_null (goal.at.object_named-requires c).Else-version-eq0

pub free_of_live-requires-clause-version : goal.free_of_live-requires-clause-version
free_of_live-requires-clause-version c = not_null (goal.at.free_of_live-requires-clause-version c).Else-version-eq0

pub returns-then-p-eq0-clause-answer : goal.returns-then-p-eq0-clause-answer
returns-then-p-eq0-clause-answer c = λ layouts.
    free-zero layouts (live_by c.args.slots.now) (dead_by c.args.slots.now) c.args.p c.args.fixed c.if-p-eq0.true

pub returns-then-p-eq0-clause-served : goal.returns-then-p-eq0-clause-served
returns-then-p-eq0-clause-served c = served-null c.args.slots.now c.args.p c.args.fixed c.if-p-eq0.true

pub returns-then-version-eq0-clause-answer : goal.returns-then-version-eq0-clause-answer
returns-then-version-eq0-clause-answer c = λ layouts.
    free-null layouts (live_by c.args.slots.now) (dead_by c.args.slots.now) c.args.p c.args.fixed c.if-p-eq0.false
    (eq-eqb _ _ (sym c.parts-address.ensures.version ∙ c.if-version-eq0.true))

pub returns-then-version-eq0-clause-served : goal.returns-then-version-eq0-clause-served
returns-then-version-eq0-clause-served c = served-report c.args.slots.now (Free c.args.p c.args.fixed) BadFree refl

pub returns-in-Nothing-clause-answer : goal.returns-in-Nothing-clause-answer
returns-in-Nothing-clause-answer c = λ layouts.
    free-at layouts (live_by c.args.slots.now) (dead_by c.args.slots.now) c.args.p c.args.fixed c.if-p-eq0.false
    (not_null (goal.at.returns-in-Nothing-clause-answer c).Else-version-eq0) None false
    (ap (λ a. live_by c.args.slots.now a c.args.p) (sym c.parts-address.ensures.address) ∙ c.in-Nothing.ensures.live)
    (ap (λ a. dead_by c.args.slots.now a c.args.p) (sym c.parts-address.ensures.address) ∙ c.in-Nothing.ensures.dead)

pub returns-in-Nothing-clause-served : goal.returns-in-Nothing-clause-served
returns-in-Nothing-clause-served c = served-report c.args.slots.now (Free c.args.p c.args.fixed) DoubleFree refl

pub returns-in-Dead-clause-answer : goal.returns-in-Dead-clause-answer
returns-in-Dead-clause-answer c = λ layouts.
    c.free_of_dead.ensures.answer c.args.fixed
    ∙ free-at layouts (live_by c.args.slots.now) (dead_by c.args.slots.now) c.args.p c.args.fixed c.if-p-eq0.false
    (not_null (goal.at.returns-in-Dead-clause-answer c).Else-version-eq0) None true
    (ap (λ a. live_by c.args.slots.now a c.args.p) (sym c.parts-address.ensures.address) ∙ c.in-Dead.ensures.live)
    (ap (λ a. dead_by c.args.slots.now a c.args.p) (sym c.parts-address.ensures.address) ∙ c.in-Dead.ensures.dead)

pub returns-in-Dead-clause-served : goal.returns-in-Dead-clause-served
returns-in-Dead-clause-served c = served-report c.args.slots.now
    (Free c.args.p c.args.fixed) c.free_of_dead.result c.free_of_dead.ensures.suits

pub returns-in-Live-clause-answer : goal.returns-in-Live-clause-answer
returns-in-Live-clause-answer c = λ layouts.
    c.free_of_live.ensures.answer (dead_by c.args.slots.now (address_of c.args.p) c.args.p)
    ∙ free-at layouts (live_by c.args.slots.now) (dead_by c.args.slots.now) c.args.p c.args.fixed c.if-p-eq0.false
    (not_null (goal.at.returns-in-Live-clause-answer c).Else-version-eq0)
    (state_at c.args.slots.now.states c.in-Live.slot).body (dead_by c.args.slots.now (address_of c.args.p) c.args.p)
    (ap (λ a. live_by c.args.slots.now a c.args.p) (sym c.parts-address.ensures.address)
    ∙ live-named c.args.slots.now c.parts-address.result.0 c.args.p c.in-Live.slot c.in-Live.facts c.in-Live.ensures
    ∙ sym c.in-Live.ensures.body) refl
