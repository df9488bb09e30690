use Rattle.std.proofs.Common.{ap, ◌∙◌}
use Rattle.free_slots.specs.Slots.{unused}
use Rattle.object_slots.proofs.Opening.{new-kept, new-seen}
use Rattle.object_slots.proofs.slots.Slots.new.Goals as goal

pub invariant_of-result : goal.invariant_of-result
invariant_of-result c =
    new-kept c.args.region c.new.result c.new-2.result c.new.ensures (c.new-2.ensures ∙ ap unused c.slots_of.ensures) c.requires

pub returns : goal.returns
returns c = new-seen c.args.region c.new.result c.new-2.result c.new.ensures (c.new-2.ensures ∙ ap unused c.slots_of.ensures)
