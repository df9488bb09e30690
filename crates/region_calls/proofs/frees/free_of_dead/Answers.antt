use Rattle.std.proofs.Common.{◌∙◌, sym}
use Rattle.slot_headers.specs.Words.{address_of}
use Rattle.heap_model.specs.Answers.{offset}
use Rattle.region_calls.proofs.Standing.{offset-here}
use Rattle.region_calls.proofs.Freeing.{dead-first, dead-inside}
use Rattle.region_calls.proofs.frees.free_of_dead.Goals as goal

pub returns-then-offset_in_slot-eq0-clause-answer : goal.returns-then-offset_in_slot-eq0-clause-answer
returns-then-offset_in_slot-eq0-clause-answer c = λ fixed.
    let far = c.offset_in_slot.ensures.value ∙ sym
    (offset-here c.args.slots.now (address_of c.args.p) c.args.slot c.requires c.args.p) in
    dead-first (offset (address_of c.args.p) c.args.p) fixed (sym far ∙ c.if-offset_in_slot-eq0.true)

pub returns-else-offset_in_slot-eq0-clause-answer : goal.returns-else-offset_in_slot-eq0-clause-answer
returns-else-offset_in_slot-eq0-clause-answer c = λ fixed.
    let far = c.offset_in_slot.ensures.value ∙ sym
    (offset-here c.args.slots.now (address_of c.args.p) c.args.slot c.requires c.args.p) in
    dead-inside (offset (address_of c.args.p) c.args.p) fixed (λ e. c.if-offset_in_slot-eq0.false (far ∙ e))
