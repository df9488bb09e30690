use Rattle.std.proofs.Common.{◌/◌}
use Rattle.slot_store.proofs.Stored.{whole_slots}
use Rattle.slot_store.proofs.store.law_slots.Goals as goal

pub returns : goal.returns
returns c =
    whole_slots c.store.inside.region (c.store.inside.slot_bytes / 8) c.store.inside.made c.store.inside.pages c.args.store.now c.store.invariant.1 c.store.view_is
