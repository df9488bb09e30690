-- Addresses and offsets are below 2^40.
use Rattle.std.proofs.Common.{ℕ, ◌<◌, ◌^◌, ◌+◌, ◌-◌, lit<}
use Rattle.std.proofs.lemmas.Nat.{mod_below}
use Rattle.lowfat_regions.specs.Regions.{Slot, slot_address}
use Rattle.slot_headers.specs.Words.{address_of}
use Rattle.heap_model.specs.Objects.{offset_in}

pub address_below : (word : ℕ) → address_of word < 2 ^ 40
unfolding address_of
address_below word = mod_below word (2 ^ 40) (lit< tt)

pub offset_below : (s : Slot) (address : ℕ) → offset_in s address < 2 ^ 40
unfolding offset_in
offset_below s address = mod_below (address + 2 ^ 40 - (slot_address s + 16)) (2 ^ 40) (lit< tt)
