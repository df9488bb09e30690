-- The addresses of a slot lie in it.
use Rattle.std.proofs.Common.{◌≡◌, ℕ, ◌+◌, ◌-◌, ◌*◌, ◌/◌, ◌^◌, ◌<◌, ◌≤◌, true, ◌&&◌, Some, refl, ap, ◌∙◌, arith, add-mul, mul-le-mul_right}
use Rattle.std.specs.Prelude.{nat_le}
use Rattle.std.proofs.lemmas.Bool.{agree_below_at, and_parts, and_from, leb-true, lt-ltb, le-leb, cond-true}
use Rattle.std.proofs.lemmas.Nat.{div-mul-add, div-add-mod'}
use Rattle.lowfat_regions.specs.Regions.{SlotsLaw, last_region, Slot, slot_of, slot_in, region_of, size_of, sizes, first_multiple, slots, slot_address}

-- a slot has 32 bytes or more, and 2^20 or fewer
pub size_ok : (r : ℕ) → r ≤ last_region → (32 ≤ size_of r) × (size_of r ≤ 2 ^ 20)
unfolding size_of sizes
size_ok r h =
    let both = and_parts _ _ (agree_below_at (λ r. nat_le 32 (size_of r) && nat_le (size_of r) (2 ^ 20)) (λ _. true) 28 r refl (omega arith)) in
    (leb-true _ _ both.0, leb-true _ _ both.1)

-- a region's first slot begins within a slot's size of the region
pub first_low : (r : ℕ) → r ≤ last_region → r * 2 ^ 32 ≤ first_multiple r * size_of r
unfolding first_multiple
first_low r h = omega (arith, size_ok r h, div-add-mod' (r * 2 ^ 32 + (size_of r - 1)) (size_of r))

pub first_high : (r : ℕ) → r ≤ last_region → first_multiple r * size_of r ≤ r * 2 ^ 32 + 2 ^ 20
unfolding first_multiple
first_high r h = omega (arith, size_ok r h, div-add-mod' (r * 2 ^ 32 + (size_of r - 1)) (size_of r))

-- all slots of a region are below 2^24 bytes
pub slots_within : (r n : ℕ) → n < slots r → n * size_of r + size_of r ≤ 2 ^ 24
unfolding slots
slots_within r n h =
    let k : n + 1 ≤ 2 ^ 24 / size_of r = omega arith in
    omega (arith, mul-le-mul_right (size_of r) k, add-mul n 1 (size_of r), div-add-mod' (2 ^ 24) (size_of r))

-- a slot lies in its region, and well below the words' addresses
pub slot_within : (r n : ℕ) → r ≤ last_region → n < slots r → (r * 2 ^ 32 ≤ (first_multiple r + n) * size_of r) × ((first_multiple r + n) * size_of r + size_of r ≤ r * 2 ^ 32 + 2 ^ 25)
slot_within r n h k =
    let sum = add-mul (first_multiple r) n (size_of r) in
    let within = slots_within r n k in
    (omega (arith, sum, first_low r h), omega (arith, sum, within, first_high r h))

module _ (s : Slot) (k : ℕ) (above : 1 ≤ s.region) (below : s.region ≤ last_region) (is_slot : s.number < slots s.region) (inside : k < size_of s.region) where
  address-is : slot_address s + k ≡ s.region * 2 ^ 32 + (slot_address s + k - s.region * 2 ^ 32)
  unfolding slot_address
  address-is = omega (arith, first_low s.region below, add-mul (first_multiple s.region) s.number (size_of s.region))

  pub address-below : slot_address s + k - s.region * 2 ^ 32 < 2 ^ 32
  unfolding slot_address
  address-below = omega (arith, first_low s.region below, first_high s.region below, slots_within s.region s.number is_slot, add-mul (first_multiple s.region) s.number (size_of s.region))

  region_of-at : region_of (slot_address s + k) ≡ Some s.region
  unfolding region_of
  region_of-at =
      let e : (slot_address s + k) / 2 ^ 32 ≡ s.region = ap (λ a. a / 2 ^ 32) address-is ∙ div-mul-add s.region (2 ^ 32) (slot_address s + k - s.region * 2 ^ 32) address-below in
      rw e (cond-true _ _ _ (and_from _ _ (lt-ltb _ _ above) (le-leb _ _ below)))

  multiple-at : (slot_address s + k) / size_of s.region ≡ first_multiple s.region + s.number
  unfolding slot_address
  multiple-at = div-mul-add (first_multiple s.region + s.number) (size_of s.region) k inside

  pub slot_of-at : slot_of (slot_address s + k) ≡ Some s
  unfolding slot_of slot_in
  slot_of-at =
      let f = first_multiple s.region in
      let d : f + s.number - f ≡ s.number = omega arith in
      let low : f ≤ f + s.number = omega arith in
      rw region_of-at (rw (multiple-at, d) (cond-true _ _ _ (and_from _ _ (le-leb _ _ low) (lt-ltb _ _ is_slot))))

pub slots_law : SlotsLaw
slots_law s k in_region inside = slot_of-at s k in_region.from in_region.to in_region.number inside
