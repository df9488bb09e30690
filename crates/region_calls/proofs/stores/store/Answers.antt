use Rattle.std.proofs.Common.{sym}
use Rattle.heap_model.specs.Answers.{datum}
use Rattle.heap_model.specs.Cells.{Stores}
use Rattle.heap_model.specs.declared.calls.Call.TheVariants.{Store}
use Rattle.region_calls.proofs.Accessing.{place-of, answered}
use Rattle.region_calls.proofs.Ending.{served-report}
use Rattle.region_calls.proofs.Writing.{served-store}
use Rattle.region_calls.proofs.stores.store.Goals as goal

pub store_at-requires-clause-place : goal.store_at-requires-clause-place
store_at-requires-clause-place c = place-of c.args.slots.now c.args.p c.args.reach.now c.args.kind c.in-Ok.at.slot
    c.in-Ok.at.offset c.in-Ok.ensures

pub returns-in-Ok-clause-answer : goal.returns-in-Ok-clause-answer
returns-in-Ok-clause-answer c =
    sym (answered c.args.slots.now c.args.p c.args.reach.now c.args.kind c.in-Ok.at.slot c.in-Ok.at.offset
    c.in-Ok.ensures (Stores (datum c.args.value)))

pub returns-in-Ok-clause-served : goal.returns-in-Ok-clause-served
returns-in-Ok-clause-served c =
    let at = c.in-Ok.ensures in
    served-store c.args.slots.now c.args.p c.args.reach.now c.args.kind c.in-Ok.at.slot c.in-Ok.at.offset at
    c.args.value c.requires c.store_at.new.slots
    (c.store_at.ensures at.named.object at.named.body)

pub returns-in-Err-clause-served : goal.returns-in-Err-clause-served
returns-in-Err-clause-served c =
    served-report c.args.slots.now (Store c.args.p c.args.reach.now c.args.kind c.args.value) c.in-Err.report
    c.in-Err.ensures.1
