-- How many objects a region makes, and how far an address lies in one.
use Rattle.std.specs.Prelude.{ℕ, ◌+◌, ◌-◌, ◌%◌}
use Rattle.lowfat_regions.specs.Regions.{Slot, object_address}
use Rattle.slot_headers.specs.Words.{address_bound, version_bound}

-- how many objects a region makes at most: as many as versions tell apart
abbrev pub max_objects : ℕ
max_objects = version_bound - 1

-- how far an address is past the first byte of the object in a slot, modulo 2^40
unfoldable pub offset_in : Slot → ℕ → ℕ
offset_in s address = (address + address_bound - object_address s) % address_bound
