-- Addresses that are moved, and the bounds of slots.
use Rattle.std.proofs.Common.{◌≡◌, ℕ, ◌+◌, ◌-◌, ◌*◌, ◌%◌, ◌^◌, ◌<◌, ◌≤◌, ℤ, pos, negsuc, Some, None, refl, sym, ap, ◌∙◌, arith}
use Rattle.std.specs.Prelude.{◌<ℤ◌, ◌≤ℤ◌, unsigned_abs}
use Rattle.std.proofs.lemmas.Int.{ints}
use Rattle.std.proofs.Math.Nat.{mul-le-mul_left}
use Rattle.lowfat_regions.specs.Regions.{region_of, slot_base, size_of}
use Rattle.slot_headers.specs.Words.{address_of}
use Rattle.heap_model.specs.Reaches.{moved_address, slot_bounds}

pub distance_below : (n size : ℕ) → n ≤ 2 ^ 31 → size ≤ 8 → n * size ≤ 2 ^ 34
distance_below n size small few = omega (arith, mul-le-mul_left n few)

small_rest : (n : ℕ) → n < 2 ^ 40 → n % 2 ^ 40 ≡ n
small_rest n small = omega arith

pub forward : (address size distance : ℕ) (count : ℤ) → pos 0 ≤ℤ count → distance ≡ unsigned_abs count * size →
    (address + distance) % 2 ^ 40 ≡ moved_address address count size
forward address size distance (pos n) up is = ap (λ d. (address + d) % 2 ^ 40) is
forward address size distance (negsuc n) up is = absurd (omega (arith, ints))

pub backward : (address size distance : ℕ) (count : ℤ) → count <ℤ pos 0 → distance ≡ unsigned_abs count * size → distance < 2 ^ 40 →
    (address + (2 ^ 40 - distance)) % 2 ^ 40 ≡ moved_address address count size
backward address size distance (pos n) down is small = absurd (omega (arith, ints))
backward address size distance (negsuc n) down is small =
    ap (λ d. (address + (2 ^ 40 - d)) % 2 ^ 40) (sym (small_rest distance small) ∙ ap (λ d. d % 2 ^ 40) is)

pub bounds_in_region : (word address region size : ℕ) → address ≡ address_of word → size ≡ size_of region → region_of address ≡ Some region →
    slot_bounds word ≡ record { lo = address - address % size + 16; hi = address - address % size + size - 1 }
unfolding slot_bounds slot_base
bounds_in_region word address region size a s r =
    let e : region_of (address_of word) ≡ Some region = ap region_of (sym a) ∙ r in
    rw (e, ← a, ← s) refl

pub bounds_nowhere : (word address : ℕ) → address ≡ address_of word → region_of address ≡ None →
    slot_bounds word ≡ record { lo = 0; hi = 0 }
unfolding slot_bounds slot_base
bounds_nowhere word address a r =
    let e : region_of (address_of word) ≡ None = ap region_of (sym a) ∙ r in
    rw e refl
