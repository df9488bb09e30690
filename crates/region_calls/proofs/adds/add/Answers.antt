use Rattle.std.proofs.Common.{◌≡◌, ◌∙◌, ◌+◌, ◌%◌, ◌^◌, ◌*◌, ◌<◌, ℕ, true, false, Some, None, refl, sym, ap, subst, arith}
use Rattle.slot_headers.specs.Cells.{cells_at, number_in}
use Rattle.slot_store.specs.Cells.{after_store}
use Rattle.heap_model.specs.Cells.{Adds, width}
use Rattle.heap_model.specs.Forms.{suits_add}
use Rattle.heap_model.specs.declared.calls.Call.TheVariants.{Add}
use Rattle.heap_model.specs.declared.calls.Reply.TheVariants.{Value as Moved}
use Rattle.heap_model.specs.declared.calls.ReportKind.TheVariants.{PointerBytes}
use Rattle.object_slots.specs.SlotStates.{with_cells_in}
use Rattle.region_calls.specs.Naming.{IsPlace}
use Rattle.region_calls.proofs.Accessing.{place-of, answered}
use Rattle.region_calls.proofs.Reading.{add-answer, no-add-answer, gives-sign_extension, add-report-suits}
use Rattle.region_calls.proofs.Ending.{served-report}
use Rattle.region_calls.proofs.Writing.{added-cells, served-add}
use Rattle.region_calls.proofs.adds.add.Goals as goal
use Rattle.region_calls.proofs.adds.add.Goals.{In-Ok, After-sign_extension}

place : (c : In-Ok) → IsPlace c.args.slots.now c.in-Ok.at.slot c.in-Ok.at.offset c.args.kind
place c = place-of c.args.slots.now c.args.p c.args.reach.now c.args.kind c.in-Ok.at.slot c.in-Ok.at.offset
    c.in-Ok.ensures

aligned-by : (c : In-Ok) (w : ℕ) → w ≡ width c.args.kind → c.in-Ok.at.offset % w ≡ 0
aligned-by c w e = subst (λ (v : ℕ). c.in-Ok.at.offset % v ≡ 0) (sym e) (place c).aligned

pub load-requires-clause-aligned : goal.load-requires-clause-aligned
load-requires-clause-aligned c = aligned-by
    (goal.at.load-requires-clause-aligned c).In-Ok c.width_of-width.result c.width_of-width.ensures

pub load-requires-clause-inside : goal.load-requires-clause-inside
load-requires-clause-inside c = λ o e. omega
    (arith, (place (goal.at.load-requires-clause-inside c).In-Ok).inside o e, c.width_of-width.ensures)

pub store-requires-clause-aligned : goal.store-requires-clause-aligned
store-requires-clause-aligned c = aligned-by
    (goal.at.store-requires-clause-aligned c).In-Ok c.width_of-width.result c.width_of-width.ensures

pub store-requires-clause-inside : goal.store-requires-clause-inside
store-requires-clause-inside c = λ o e. omega
    (arith, (place (goal.at.store-requires-clause-inside c).In-Ok).inside o e, c.width_of-width.ensures)

-- the number that stands there
stands : (c : After-sign_extension) → number_in
    (cells_at c.in-Ok.at.offset (width c.args.kind) c.in-Ok.ensures.named.object.cells) ≡ Some c.in-Some.number
stands c =
    let o = c.in-Ok.ensures.named.object in
    ap (λ w. number_in (cells_at c.in-Ok.at.offset w o.cells)) (sym c.width_of-width.ensures)
    ∙ sym (c.load.ensures.value o c.in-Ok.ensures.named.body) ∙ c.in-Some.is

pub returns-in-Some-clause-answer : goal.returns-in-Some-clause-answer
returns-in-Some-clause-answer c =
    let at = c.in-Ok.ensures in
    ap (λ bits. Moved (record { bits = bits; pointer = false })) c.sign_extension.ensures
    ∙ sym (add-answer c.args.kind c.requires.number c.args.value
    (cells_at c.in-Ok.at.offset (width c.args.kind) at.named.object.cells) c.in-Some.number
    (stands (goal.at.returns-in-Some-clause-answer c).After-sign_extension))
    ∙ sym (answered c.args.slots.now c.args.p c.args.reach.now c.args.kind c.in-Ok.at.slot c.in-Ok.at.offset at
    (Adds c.args.value))

pub returns-in-Some-clause-served : goal.returns-in-Some-clause-served
returns-in-Some-clause-served c =
    let st = c.args.slots.now in
    let n = c.in-Ok.at.slot in
    let k = c.in-Ok.at.offset in
    let at = c.in-Ok.ensures in
    let o = at.named.object in
    let below : c.in-Some.number < 2 ^ (8 * width c.args.kind) =
    subst (λ (w : ℕ). c.in-Some.number < 2 ^ (8 * w)) c.width_of-width.ensures c.in-Some.ensures.range in
    let suits : suits_add c.args.kind (Moved (record { bits = c.sign_extension.result; pointer = false })) ≡ true =
    ap (λ bits. suits_add c.args.kind (Moved (record { bits = bits; pointer = false }))) c.sign_extension.ensures
    ∙ gives-sign_extension c.args.kind c.requires.number c.in-Some.number below in
    served-add st c.args.p c.args.reach.now c.args.kind n k at c.args.value
    (record { bits = c.sign_extension.result; pointer = false }) suits c.store.new.self
    (c.store.ensures o at.named.body
    ∙ (λ i. with_cells_in st n o
    (after_store k (c.width_of-width.ensures i) ((c.in-Some.number + c.args.value) % 2 ^ 64) o.cells))
    ∙ ap (with_cells_in st n o)
    (added-cells c.args.kind k c.in-Some.number o.cells (c.requires.pieces n o at.named.body)
    (place (goal.at.returns-in-Some-clause-served c).In-Ok).aligned
    (stands (goal.at.returns-in-Some-clause-served c).After-sign_extension) c.args.value))

pub returns-in-None-clause-answer : goal.returns-in-None-clause-answer
returns-in-None-clause-answer c =
    let at = c.in-Ok.ensures in
    let o = at.named.object in
    let none : number_in (cells_at c.in-Ok.at.offset (width c.args.kind) o.cells) ≡ None =
    ap (λ w. number_in (cells_at c.in-Ok.at.offset w o.cells)) (sym c.width_of-width.ensures)
    ∙ sym (c.load.ensures.value o at.named.body) ∙ c.in-None.is in
    sym (no-add-answer c.args.kind c.requires.number c.args.value
    (cells_at c.in-Ok.at.offset (width c.args.kind) o.cells) none)
    ∙ sym (answered c.args.slots.now c.args.p c.args.reach.now c.args.kind c.in-Ok.at.slot c.in-Ok.at.offset at
    (Adds c.args.value))

pub returns-in-None-clause-served : goal.returns-in-None-clause-served
returns-in-None-clause-served c =
    served-report c.args.slots.now (Add c.args.p c.args.reach.now c.args.kind c.args.value) PointerBytes refl

pub returns-in-Err-clause-served : goal.returns-in-Err-clause-served
returns-in-Err-clause-served c =
    served-report c.args.slots.now (Add c.args.p c.args.reach.now c.args.kind c.args.value) c.in-Err.report
    (add-report-suits c.args.kind c.in-Err.report c.in-Err.ensures.1)
