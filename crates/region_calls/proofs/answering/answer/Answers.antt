use Rattle.std.proofs.Common.{◌≡◌, ◌∙◌, true, Some, refl, sym, ap, subst}
use Rattle.std.specs.Prelude.{IfOk}
use Rattle.heap_model.specs.Answers.{Words, next}
use Rattle.heap_model.specs.Forms.{region_for}
use Rattle.heap_model.specs.Legal.{Answers, knows_types}
use Rattle.heap_model.specs.Layouts.{layouts_of}
use Rattle.heap_model.specs.State.{StandsFor}
use Rattle.heap_model.specs.declared.calls.Call.{Call}
use Rattle.heap_model.specs.declared.calls.Call.TheVariants.{Alloc}
use Rattle.region_calls.proofs.Knowing.{class-fits}
use Rattle.region_calls.proofs.Stepping.{free-answers, check-answers, load-answers, store-answers, add-answers, check-next, load-next, elements-after, pieces-after}
use Rattle.region_calls.proofs.answering.answer.Goals as goal

pub allocate-requires : goal.allocate-requires
unfolding region_for
allocate-requires c =
    class-fits c.in-Alloc.size c.args.slots.now.region
    (subst (λ (call : Call). region_for call ≡ Some c.args.slots.now.region) c.in-Alloc.is c.requires.region)

pub returns-in-Alloc-clause-answers : goal.returns-in-Alloc-clause-answers
unfolding Answers
returns-in-Alloc-clause-answers c =
    subst (λ (call : Call). IfOk c.allocate.result
    (λ reply. (h : Words) → StandsFor c.args.slots.now h → Answers
    (layouts_of c.args.table.now) h c.args.slots.now.region call reply)) (sym c.in-Alloc.is) c.allocate.ensures.answers

pub returns-in-Alloc-clause-elements : goal.returns-in-Alloc-clause-elements
returns-in-Alloc-clause-elements c =
    elements-after c.allocate.result c.args.slots.now c.allocate.new.slots
    (Alloc c.in-Alloc.elem c.in-Alloc.size c.in-Alloc.fixed) c.allocate.ensures.served c.allocate.ensures.unchanged
    (layouts_of c.args.table.now)
    (subst (λ (call : Call). knows_types (layouts_of c.args.table.now) call ≡ true) c.in-Alloc.is c.requires.types)
    c.requires.elements

pub returns-in-Alloc-clause-pieces : goal.returns-in-Alloc-clause-pieces
returns-in-Alloc-clause-pieces c =
    pieces-after c.allocate.result c.args.slots.now c.allocate.new.slots
    (Alloc c.in-Alloc.elem c.in-Alloc.size c.in-Alloc.fixed) c.allocate.ensures.served c.allocate.ensures.unchanged
    c.requires.pieces

pub returns-in-Free-clause-answers : goal.returns-in-Free-clause-answers
returns-in-Free-clause-answers c = λ h stands.
    subst (λ (call : Call). Answers (layouts_of c.args.table.now) h c.args.slots.now.region call c.free.result)
    (sym c.in-Free.is)
    (free-answers (layouts_of c.args.table.now) c.args.slots.now h stands c.args.slots.now.region c.free.result
    c.in-Free.p c.in-Free.fixed (c.free.ensures.answer (layouts_of c.args.table.now)))

pub returns-in-Free-clause-elements : goal.returns-in-Free-clause-elements
returns-in-Free-clause-elements c = c.free.ensures.served.elements
    (layouts_of c.args.table.now) refl c.requires.elements

pub returns-in-Free-clause-pieces : goal.returns-in-Free-clause-pieces
returns-in-Free-clause-pieces c = c.free.ensures.served.pieces c.requires.pieces

pub returns-in-Check-clause-answers : goal.returns-in-Check-clause-answers
returns-in-Check-clause-answers c = λ h stands.
    subst (λ (call : Call). Answers (layouts_of c.args.table.now) h c.args.slots.now.region call c.check.result)
    (sym c.in-Check.is)
    (check-answers (layouts_of c.args.table.now) c.args.slots.now h stands c.args.slots.now.region c.check.result
    c.in-Check.p c.in-Check.want c.check.ensures.answer)

pub returns-in-Check-clause-next : goal.returns-in-Check-clause-next
returns-in-Check-clause-next c = λ worker number h stands.
    subst (λ (g : Words). StandsFor c.args.slots.now g)
    (check-next c.in-Check.p c.in-Check.want worker number h c.check.result ∙ ap
    (λ call. next worker number h call c.check.result) (sym c.in-Check.is)) stands

pub returns-in-Load-clause-answers : goal.returns-in-Load-clause-answers
returns-in-Load-clause-answers c = λ h stands.
    subst (λ (call : Call). Answers (layouts_of c.args.table.now) h c.args.slots.now.region call c.load.result)
    (sym c.in-Load.is)
    (load-answers (layouts_of c.args.table.now) c.args.slots.now h stands c.args.slots.now.region c.load.result
    c.in-Load.p c.in-Load.reach c.in-Load.kind c.load.ensures.answer)

pub returns-in-Load-clause-next : goal.returns-in-Load-clause-next
returns-in-Load-clause-next c = λ worker number h stands.
    subst (λ (g : Words). StandsFor c.args.slots.now g)
    (load-next c.in-Load.p c.in-Load.reach c.in-Load.kind worker number h c.load.result ∙ ap
    (λ call. next worker number h call c.load.result) (sym c.in-Load.is)) stands

pub returns-in-Store-clause-answers : goal.returns-in-Store-clause-answers
returns-in-Store-clause-answers c = λ h stands.
    subst (λ (call : Call). Answers (layouts_of c.args.table.now) h c.args.slots.now.region call c.store.result)
    (sym c.in-Store.is)
    (store-answers (layouts_of c.args.table.now) c.args.slots.now h stands c.args.slots.now.region c.store.result
    c.in-Store.p c.in-Store.reach c.in-Store.kind c.in-Store.value c.store.ensures.answer)

pub returns-in-Store-clause-elements : goal.returns-in-Store-clause-elements
returns-in-Store-clause-elements c = c.store.ensures.served.elements
    (layouts_of c.args.table.now) refl c.requires.elements

pub returns-in-Store-clause-pieces : goal.returns-in-Store-clause-pieces
returns-in-Store-clause-pieces c = c.store.ensures.served.pieces c.requires.pieces

pub returns-in-Add-clause-answers : goal.returns-in-Add-clause-answers
returns-in-Add-clause-answers c = λ h stands.
    subst (λ (call : Call). Answers (layouts_of c.args.table.now) h c.args.slots.now.region call c.add.result)
    (sym c.in-Add.is)
    (add-answers (layouts_of c.args.table.now) c.args.slots.now h stands c.args.slots.now.region c.add.result
    c.in-Add.p c.in-Add.reach c.in-Add.kind c.in-Add.value c.add.ensures.answer)

pub returns-in-Add-clause-elements : goal.returns-in-Add-clause-elements
returns-in-Add-clause-elements c = c.add.ensures.served.elements (layouts_of c.args.table.now) refl c.requires.elements

pub returns-in-Add-clause-pieces : goal.returns-in-Add-clause-pieces
returns-in-Add-clause-pieces c = c.add.ensures.served.pieces c.requires.pieces
