use Rattle.std.proofs.Common.{◌∙◌, ap}
use Rattle.slot_store.specs.Cells.{after_store}
use Rattle.object_slots.specs.SlotStates.{with_cells_in}
use Rattle.region_calls.proofs.Writing.{stored-pointer, stored-number}
use Rattle.region_calls.proofs.stores.store_at.Goals as goal

pub returns-then-value : goal.returns-then-value
returns-then-value c = λ o e.
    c.store_word.ensures o e
    ∙ ap (with_cells_in c.args.slots.now c.args.at.slot o)
    (stored-pointer c.args.kind c.args.at.offset c.args.value o.cells c.if-value.true)

pub returns-else-value : goal.returns-else-value
returns-else-value c = λ o e.
    c.store.ensures o e
    ∙ ap (λ w. with_cells_in c.args.slots.now c.args.at.slot o
    (after_store c.args.at.offset w c.args.value.bits o.cells)) c.width_of.ensures
    ∙ ap (with_cells_in c.args.slots.now c.args.at.slot o)
    (stored-number c.args.kind c.args.at.offset c.args.value o.cells c.if-value.false)
