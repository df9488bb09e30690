use Rattle.lowfat_regions.proofs.Addresses.{slots_law}
use Rattle.lowfat_regions.proofs.laws.law_slots.Goals as goal

pub returns : goal.returns
returns c = slots_law
