-- Widths and the aligned pieces that they have.
use Rattle.std.proofs.Common.{◌≡◌, ◌≢◌, ℕ, ◌+◌, ◌%◌, ◌<◌, ◌≤◌, arith}
use Rattle.std.proofs.lemmas.Bool.Decides.{nat_tests}
use Rattle.slot_store.specs.Cells.{IsWidth}

pub width_some : (w : ℕ) → IsWidth w → 1 ≤ w
width_some w is = grind (arith, nat_tests)

-- an aligned piece does not lie across words
pub width_inside : (at w : ℕ) → IsWidth w → at % w ≡ 0 → at % 8 + w ≤ 8
width_inside at w is aligned = grind (arith, nat_tests)

-- what is below four and not one is two
pub width_two : (w : ℕ) → IsWidth w → w < 4 → w ≢ 1 → w ≡ 2
width_two w is low one = grind (arith, nat_tests)

-- what is no other width is eight
pub width_eight : (w : ℕ) → IsWidth w → w ≢ 1 → w ≢ 2 → w ≢ 4 → w ≡ 8
width_eight w is one two four = grind (arith, nat_tests)
