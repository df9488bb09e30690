use Rattle.std.proofs.Common.{refl}
use Rattle.slot_store.specs.Words.{slot_cells}
use Rattle.slot_store.proofs.Stored.{whole_words, no_slots}
use Rattle.slot_store.proofs.store.Store.new.Goals as goal

pub invariant_of-result : goal.invariant_of-result
invariant_of-result c =
    (whole_words c.args.region c.size_of_region.result c.requires c.size_of_region.ensures.value, no_slots c.args.region c.size_of_region.result c.new.result c.requires c.size_of_region.ensures.value c.new.ensures)

pub returns : goal.returns
unfolding slot_cells
returns c = refl
