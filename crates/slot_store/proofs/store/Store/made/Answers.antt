use Rattle.std.proofs.Common.{◌/◌, sym}
use Rattle.slot_store.proofs.Stored.{made_is}
use Rattle.slot_store.proofs.store.Store.made.Goals as goal

pub returns-clause-value : goal.returns-clause-value
returns-clause-value c =
    sym (made_is c.self.inside.region (c.self.inside.slot_bytes / 8) c.self.inside.made c.self.inside.pages c.args.self.now c.self.invariant.1 c.self.view_is)
