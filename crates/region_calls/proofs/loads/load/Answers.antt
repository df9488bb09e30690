use Rattle.std.proofs.Common.{◌∙◌, sym}
use Rattle.heap_model.specs.Cells.{Loads}
use Rattle.region_calls.proofs.Accessing.{place-of, answered}
use Rattle.region_calls.proofs.loads.load.Goals as goal

pub load_at-requires : goal.load_at-requires
load_at-requires c = place-of c.args.slots.now c.args.p c.args.reach.now c.args.kind c.in-Ok.at.slot c.in-Ok.at.offset
    c.in-Ok.ensures

pub returns-in-Ok-clause-answer : goal.returns-in-Ok-clause-answer
returns-in-Ok-clause-answer c =
    let at = c.in-Ok.ensures in
    c.load_at.ensures.answer at.named.object at.named.body
    ∙ sym (answered c.args.slots.now c.args.p c.args.reach.now c.args.kind c.in-Ok.at.slot c.in-Ok.at.offset at Loads)
