-- The slot of an address, by its region and its number.
use Rattle.std.proofs.Common.{◌≡◌, ℕ, ◌<◌, ◌≤◌, ◌&&◌, Bool, true, false, nat_lt, nat_le, Option, Some, None, option_map, if◌then◌else◌, refl, arith, ◌/◌, ◌-◌}
use Rattle.std.proofs.lemmas.Grind.{common_steps}
use Rattle.std.proofs.lemmas.Bool.{ltb-true}
use Rattle.lowfat_regions.specs.Regions.{Slot, slots, slot_of, slot_in, slot_number, region_of, first_multiple, size_of}

pub in_regions : (a r : ℕ) → region_of a ≡ Some r → (1 ≤ r) × (r ≤ 27)
unfolding region_of
in_regions a r e = grind (arith, common_steps)

pub no_region : (a : ℕ) → region_of a ≡ None → slot_of a ≡ None
unfolding slot_of slot_in
no_region a e = rw e

pub no_number : (o : Option Slot) → option_map (λ (s : Slot). s.number) o ≡ None → o ≡ None
no_number None e = refl
no_number (Some s) e = cc

-- a slot that is numbered in a region
numbered : (b c : Bool) (r m n : ℕ) → (c ≡ true → m < slots r) →
    let o : Option Slot = if b && c then Some (record { region = r; number = m }) else None in
    option_map (λ (s : Slot). s.number) o ≡ Some n → (o ≡ Some (record { region = r; number = n })) × (n < slots r)
numbered true true r m n h e = (cc, grind (arith, common_steps, h refl))
numbered true false r m n h e = cc
numbered false c r m n h e = cc

in_region : (o : Option ℕ) (a r n : ℕ) → o ≡ Some r → option_map (λ (s : Slot). s.number) (slot_in o a) ≡ Some n →
    (slot_in o a ≡ Some (record { region = r; number = n })) × (n < slots r)
unfolding slot_in
in_region None a r n e number = cc
in_region (Some q) a r n e number =
    let same : q ≡ r = cc in
    let m : ℕ = a / size_of q - first_multiple q in
    rw (← same) (numbered (nat_le (first_multiple q) (a / size_of q)) (nat_lt m (slots q)) q m n (ltb-true m (slots q)) number)

pub slot_is : (a r n : ℕ) → region_of a ≡ Some r → slot_number a ≡ Some n →
    (slot_of a ≡ Some (record { region = r; number = n })) × (n < slots r)
unfolding slot_of
slot_is a r n e number = in_region (region_of a) a r n e number
