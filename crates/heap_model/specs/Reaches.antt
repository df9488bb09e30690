-- How whoever runs a program works with reaches and words: the bounds of a member, the tests of an access, of a pointer that
-- is kept, of a comparison, and the arithmetic on pointers (C11 6.5.6).
use Rattle.std.specs.Prelude.{ℕ, suc, ◌+◌, ◌-◌, ◌*◌, ◌%◌, ◌^◌, ℤ, pos, negsuc, Bool, false, ◌&&◌, ◌==◌, nat_le, min, max, Option, Some, None}
use Rattle.lowfat_regions.specs.Regions.{header_bytes, Slot, is_slot, slot_of, slot_base, region_of, size_of}
use Rattle.slot_headers.specs.Words.{address_of, version_of, pack}
use Rattle.heap_model.specs.Answers.{is_inside}
use Rattle.heap_model.specs.declared.calls.Reach.{Reach}

-- a reach that is cut to the addresses of a part of it
unfoldable pub narrow : Reach → ℕ → ℕ → Reach
narrow reach from to =
    let lo = min (max reach.lo from) reach.hi in
    record { lo = lo; hi = max lo (min reach.hi to) }

-- so many bytes at a word are inside a reach
unfoldable pub inside : Reach → ℕ → ℕ → Bool
inside reach word width = is_inside reach (address_of word) width

-- a word is within its reach or at its end, and so may be kept
unfoldable pub may_escape : Reach → ℕ → Bool
may_escape reach word = nat_le reach.lo (address_of word) && nat_le (address_of word) reach.hi

abbrev pub are_one_slot : Option Slot → Option Slot → Bool
are_one_slot None t = false
are_one_slot (Some s) None = false
are_one_slot (Some s) (Some t) = is_slot s t

-- two words have one version, and their addresses are in one and the same slot
unfoldable pub same_slot : ℕ → ℕ → Bool
same_slot a b = (version_of a == version_of b) && are_one_slot (slot_of (address_of a)) (slot_of (address_of b))

abbrev pub bounds_in : Option ℕ → ℕ → Reach
bounds_in None base = record { lo = 0; hi = 0 }
bounds_in (Some region) base = record { lo = base + header_bytes; hi = base + size_of region - 1 }

-- the addresses that an object can have whose slot is that of a word, its end included; none for a word in no region
unfoldable pub slot_bounds : ℕ → Reach
slot_bounds word = bounds_in (region_of (address_of word)) (slot_base (address_of word))

-- an address that is moved by so many values of a size, modulo 2 ^ 40
abbrev pub moved_address : ℕ → ℤ → ℕ → ℕ
moved_address address (pos n) size = (address + n * size) % 2 ^ 40
moved_address address (negsuc n) size = (address + (2 ^ 40 - suc n * size % 2 ^ 40)) % 2 ^ 40

-- a word that is moved so, its version kept
unfoldable pub moved : ℕ → ℤ → ℕ → ℕ
moved word count size = pack (moved_address (address_of word) count size) (version_of word)
