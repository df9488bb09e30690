-- The regions from 1 to 27 and their slots (after low-fat pointers: the region of an address tells the size of its slots,
-- and a slot begins at a multiple of that size).
use Rattle.std.specs.Prelude.{◌≡◌, ◌<◌, ◌≤◌, ℕ, ◌+◌, ◌-◌, ◌*◌, ◌/◌, ◌%◌, ◌^◌, Bool, ◌&&◌, ◌==◌, nat_lt, nat_le, if◌then◌else◌, min, List, [], ◌∷◌, length, slice_index, Option, Some, None, option_map}
use Rattle.std.specs.List.{position_or_len}

-- ---- limits

-- the number of the last region
abbrev pub last_region : ℕ
last_region = 27

-- the bytes of an object's header, before its first byte
abbrev pub header_bytes : ℕ
header_bytes = 16

-- the bytes of the largest object
abbrev pub max_object_bytes : ℕ
max_object_bytes = 1048559

abbrev pub IsRegion : ℕ → Type 0
IsRegion region = (1 ≤ region) × (region ≤ last_region)

-- ---- slots

-- how many bytes a slot of each region has, from region 1 on
unfoldable pub sizes : List ℕ
sizes =
    32 ∷ 48 ∷ 64 ∷ 80 ∷ 96 ∷ 112 ∷ 128 ∷ 160 ∷ 192 ∷ 224 ∷ 256 ∷ 320 ∷ 384 ∷ 448 ∷ 512 ∷ 640 ∷ 768 ∷ 1024
    ∷ 1536 ∷ 2048 ∷ 4096 ∷ 8192 ∷ 16384 ∷ 65536 ∷ 131072 ∷ 262144 ∷ 1048576 ∷ []

unfoldable pub size_of : ℕ → ℕ
size_of region = slice_index sizes (region - 1)

-- how many slots a region has
unfoldable pub slots : ℕ → ℕ
slots region = min 65536 (2 ^ 24 / size_of region)

-- the region for an object of this size: the first with room for its header and one byte past the object
unfoldable pub class_of : ℕ → Option ℕ
class_of size =
    let index = position_or_len (λ s. nat_le (size + header_bytes + 1) s) sizes in
    if nat_lt index (length sizes) then Some (index + 1) else None

-- the region of an address: region r has the 2 ^ 32 addresses from r * 2 ^ 32 on
unfoldable pub region_of : ℕ → Option ℕ
region_of address =
    let region = address / 2 ^ 32 in
    if nat_lt 0 region && nat_le region last_region then Some region else None

pub record Slot : Type 0 where
  pub region : ℕ
  pub number : ℕ

abbrev pub is_slot : Slot → Slot → Bool
is_slot s t = (s.region == t.region) && (s.number == t.number)

-- which multiple of its size a region's first slot is
unfoldable pub first_multiple : ℕ → ℕ
first_multiple region = (region * 2 ^ 32 + (size_of region - 1)) / size_of region

-- where a slot begins
unfoldable pub slot_address : Slot → ℕ
slot_address s = (first_multiple s.region + s.number) * size_of s.region

-- the address of the first byte of an object in a slot
abbrev pub object_address : Slot → ℕ
object_address s = slot_address s + header_bytes

unfoldable pub slot_in : Option ℕ → ℕ → Option Slot
slot_in None address = None
slot_in (Some region) address =
    let multiple = address / size_of region in
    let number = multiple - first_multiple region in
    if nat_le (first_multiple region) multiple && nat_lt number (slots region)
    then Some (record { region = region; number = number })
    else None

-- the slot of an address
unfoldable pub slot_of : ℕ → Option Slot
slot_of address = slot_in (region_of address) address

-- its number in its region
abbrev pub slot_number : ℕ → Option ℕ
slot_number address = option_map (λ s. s.number) (slot_of address)

-- the multiple of the size of its region's slots at or below an address
abbrev pub base_in : Option ℕ → ℕ → ℕ
base_in None address = 0
base_in (Some region) address = address - address % size_of region

unfoldable pub slot_base : ℕ → ℕ
slot_base address = base_in (region_of address) address

-- ---- laws

-- a slot of a region
pub record IsSlot (s : Slot) : Type 0 where
  pub from : 1 ≤ s.region
  pub to : s.region ≤ last_region
  pub number : s.number < slots s.region

-- Each address of a slot is in that slot alone, also the one past the end of an object in it.
abbrev pub SlotsLaw : Type 0
SlotsLaw = (s : Slot) (k : ℕ) → IsSlot s → k < size_of s.region → slot_of (slot_address s + k) ≡ Some s
