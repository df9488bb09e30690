-- The table of the regions, and division by its reciprocals.
use Rattle.std.proofs.Common.{◌≡◌, ◌⊎◌, inl, inr, Some, None, option_map, cond, ℕ, ◌+◌, ◌-◌, ◌*◌, ◌/◌, ◌%◌, ◌^◌, ◌<◌, ◌≤◌, Bool, true, List, [], ◌∷◌, get_or, refl, sym, ap, ◌∙◌, subst, arith, add-mul, mul-le-mul_right}
use Rattle.std.specs.Prelude.{◌&&◌, ◌==◌, nat_le, nat_lt}
use Rattle.std.proofs.lemmas.Nat.{mul-le, div-add-mod'}
use Rattle.std.proofs.Math.Nat.{mul_assoc, mul_comm, mul_right_comm, lt_of_mul-lt-mul_right, le-div_iff_mul-le, div-lt_iff_lt-mul, div-mul-le_self, lt-div-mul-add, mul-add-div_right, mul-add-mod_self_right}
use Rattle.std.proofs.lemmas.Bool.{agree_below_at, and_parts, leb-true, le-leb, lt-leb, lt-ltb, le-ltb, cases_lt, eqb-true}
use Rattle.lowfat_regions.specs.Regions.{IsRegion, last_region, Slot, size_of, sizes, slots, first_multiple, region_of, slot_in, slot_of, slot_number}
use Rattle.lowfat_regions.proofs.Addresses.{size_ok, slots_within, slot_within}
use Rattle.lowfat_regions.specs.Shapes.{reciprocal, shape_of}
use Rattle.lowfat_regions.specs.declared.shapes.Shape.{Shape}

-- ---- the table

abbrev shape_by : ℕ → ℕ → ℕ → Shape
shape_by region size count = record {
  size = size;
  slots = count;
  first = (region * 2 ^ 32 + (size - 1)) / size * size;
  reciprocal = (2 ^ 40 + (size - 1)) / size;
}

-- the code's table
abbrev pub table : List Shape
table =
    shape_by 1 32 65536 ∷ shape_by 2 48 65536 ∷ shape_by 3 64 65536 ∷ shape_by 4 80 65536 ∷ shape_by 5 96 65536 ∷ shape_by 6 112 65536 ∷ shape_by 7 128 65536
    ∷ shape_by 8 160 65536 ∷ shape_by 9 192 65536 ∷ shape_by 10 224 65536 ∷ shape_by 11 256 65536 ∷ shape_by 12 320 52428 ∷ shape_by 13 384 43690
    ∷ shape_by 14 448 37449 ∷ shape_by 15 512 32768 ∷ shape_by 16 640 26214 ∷ shape_by 17 768 21845 ∷ shape_by 18 1024 16384 ∷ shape_by 19 1536 10922
    ∷ shape_by 20 2048 8192 ∷ shape_by 21 4096 4096 ∷ shape_by 22 8192 2048 ∷ shape_by 23 16384 1024 ∷ shape_by 24 65536 256 ∷ shape_by 25 131072 128
    ∷ shape_by 26 262144 64 ∷ shape_by 27 1048576 16 ∷ []

abbrev same_numbers : Shape → Shape → Bool
same_numbers a b = (a.size == b.size) && ((a.slots == b.slots) && ((a.first == b.first) && (a.reciprocal == b.reciprocal)))

same_shape : (a b : Shape) → same_numbers a b ≡ true → a ≡ b
same_shape a b e =
    let first = and_parts _ _ e in
    let second = and_parts _ _ first.1 in
    let third = and_parts _ _ second.1 in
    λ i. record {
      size = eqb-true a.size b.size first.0 i;
      slots = eqb-true a.slots b.slots second.0 i;
      first = eqb-true a.first b.first third.0 i;
      reciprocal = eqb-true a.reciprocal b.reciprocal third.1 i;
    }

-- each entry is the shape of its region
pub table_is : (d : Shape) (region : ℕ) → IsRegion region → get_or table (region - 1) d ≡ shape_of region
unfolding size_of sizes slots first_multiple
table_is d region is =
    let next : region - 1 + 1 ≡ region = omega (arith, is) in
    same_shape _ _
    (agree_below_at (λ k. same_numbers (get_or table k d) (shape_of (k + 1))) (λ k. true) 27 (region - 1) refl (omega (arith, is)))
    ∙ ap shape_of next

-- ---- division

-- how near a reciprocal of a region's size is
near_enough : (r : ℕ) → r ≤ last_region → (2 ^ 40 ≤ reciprocal (size_of r) * size_of r) × (reciprocal (size_of r) * size_of r ≤ 2 ^ 40 + 2 ^ 15)
unfolding size_of sizes
near_enough r h =
    let both = and_parts _ _ (agree_below_at (λ r. nat_le (2 ^ 40) (reciprocal (size_of r) * size_of r) && nat_le (reciprocal (size_of r) * size_of r) (2 ^ 40 + 2 ^ 15)) (λ _. true) 28 r refl (omega arith)) in
    (leb-true _ _ both.0, leb-true _ _ both.1)

-- what a near reciprocal gives of few bytes is their quotient
pub quotient : (d size m : ℕ) → 0 < size → d < 2 ^ 25 → 2 ^ 40 ≤ m * size → m * size ≤ 2 ^ 40 + 2 ^ 15 → d * m / 2 ^ 40 ≡ d / size
quotient d size m positive few low high = go (d / size) (div-mul-le_self d size) (lt-div-mul-add positive)
  where
    go : (q : ℕ) → q * size ≤ d → d < q * size + size → d * m / 2 ^ 40 ≡ q
    go q above below =
        let up : q * 2 ^ 40 ≤ q * (m * size) = mul-le q (2 ^ 40) q (m * size) (omega arith) low in
        let turned : q * (m * size) ≡ q * size * m = ap (λ x. q * x) (mul_comm m size) ∙ sym (mul_assoc q size m) in
        let most : q * size * m ≤ d * m = mul-le-mul_right m above in
        let least : q ≤ d * m / 2 ^ 40 = (le-div_iff_mul-le {k = 2 ^ 40} {x = q} {y = d * m} (omega arith)).1 (omega (arith, up, turned, most)) in
        let near : d * (m * size) ≤ d * (2 ^ 40 + 2 ^ 15) = mul-le d (m * size) d (2 ^ 40 + 2 ^ 15) (omega arith) high in
        let next : (q + 1) * 2 ^ 40 * size ≡ (q + 1) * size * 2 ^ 40 = mul_right_comm (q + 1) (2 ^ 40) size in
        let scaled : d * m * size < (q + 1) * 2 ^ 40 * size = omega (arith, mul_assoc d m size, near, few, below, next, add-mul q 1 size) in
        let less : d * m / 2 ^ 40 < q + 1 = (div-lt_iff_lt-mul {k = 2 ^ 40} {x = d * m} {y = q + 1} (omega arith)).1 (lt_of_mul-lt-mul_right size scaled) in
        omega (arith, least, less)

-- the bytes by the reciprocal of a region's shape
pub quotient_in : (bytes region : ℕ) (shape : Shape) → IsRegion region → shape ≡ shape_of region → bytes < 2 ^ 25
    → bytes * shape.reciprocal / 2 ^ 40 ≡ bytes / size_of region
quotient_in bytes region shape is same few =
    let near = near_enough region is.1 in
    let size = size_ok region is.1 in
    ap (λ (s : Shape). bytes * s.reciprocal / 2 ^ 40) same
    ∙ quotient bytes (size_of region) (reciprocal (size_of region)) (omega (arith, size.0)) few near.0 near.1

-- the product with a reciprocal is well below 2 ^ 64
pub product_fits : (bytes region : ℕ) (shape : Shape) → IsRegion region → shape ≡ shape_of region → bytes < 2 ^ 25 → bytes * shape.reciprocal < 2 ^ 64
product_fits bytes region shape is same few =
    subst (λ (s : Shape). bytes * s.reciprocal < 2 ^ 64) (sym same) (
    let m : ℕ = reciprocal (size_of region) in
    let least : m * 32 ≤ m * size_of region = mul-le m 32 m (size_of region) (omega arith) (size_ok region is.1).0 in
    let product : bytes * m ≤ 2 ^ 25 * 2 ^ 36 = mul-le bytes m (2 ^ 25) (2 ^ 36) (omega arith) (omega (arith, least, (near_enough region is.1).1)) in
    omega (arith, product))

-- the beginning of the slots and the slots before an address make its base
base_from_first : (f size a : ℕ) → f * size ≤ a → f * size + (a - f * size) / size * size ≡ a - a % size
base_from_first f size a late =
    let past : ℕ = a - f * size in
    let split : a ≡ f * size + past = omega (arith, late) in
    let rest : a % size ≡ past % size = ap (λ b. b % size) split ∙ mul-add-mod_self_right f size past in
    omega (arith, late, rest, div-add-mod' past size)

pub base_from : (a region number : ℕ) (shape : Shape) → shape ≡ shape_of region → shape.first ≤ a
    → number ≡ (a - shape.first) / size_of region → shape.first + number * shape.size ≡ a - a % size_of region
base_from a region number shape same late e =
    let first : shape.first ≡ first_multiple region * size_of region = ap (λ (s : Shape). s.first) same in
    let size : shape.size ≡ size_of region = ap (λ (s : Shape). s.size) same in
    let from : first_multiple region * size_of region ≤ a = subst (λ f. f ≤ a) first late in
    let at : number ≡ (a - first_multiple region * size_of region) / size_of region = subst (λ f. number ≡ (a - f) / size_of region) first e in
    (λ i. first i + at i * size i) ∙ base_from_first (first_multiple region) (size_of region) a from

-- ---- slots

module _ (a region : ℕ) (in_region : region_of a ≡ Some region) (is : IsRegion region) where
  abbrev first : ℕ
  first = first_multiple region * size_of region

  positive : 0 < size_of region
  positive = omega (arith, (size_ok region is.1).0)

  -- an address before the first slot is in none
  pub before_first : a < first → slot_number a ≡ None
  unfolding slot_of slot_in
  before_first early =
      let less : a / size_of region < first_multiple region = (div-lt_iff_lt-mul positive).1 early in
      rw in_region (rw (lt-leb (first_multiple region) (a / size_of region) less) refl)

  multiple : first ≤ a → a / size_of region ≡ first_multiple region + (a - first) / size_of region
  multiple late =
      let split : a ≡ first_multiple region * size_of region + (a - first) = omega (arith, late) in
      ap (λ b. b / size_of region) split ∙ mul-add-div_right positive (first_multiple region) (a - first)

  number_of : (n : ℕ) → first ≤ a → (a - first) / size_of region ≡ n
      → slot_number a ≡ option_map (λ (s : Slot). s.number) (cond (nat_lt n (slots region)) (Some (record { region = region; number = n })) None)
  unfolding slot_of slot_in
  number_of n late e =
      let at : a / size_of region ≡ first_multiple region + n = multiple late ∙ ap (λ k. first_multiple region + k) e in
      let low : nat_le (first_multiple region) (first_multiple region + n) ≡ true = le-leb _ _ (omega arith) in
      let less : first_multiple region + n - first_multiple region ≡ n = omega arith in
      rw in_region (rw at (rw (low, less) refl))

  pub is_number : (n : ℕ) → first ≤ a → (a - first) / size_of region ≡ n → n < slots region → slot_number a ≡ Some n
  is_number n late e inside = number_of n late e ∙ ap (λ b. option_map (λ (s : Slot). s.number) (cond b (Some (record { region = region; number = n })) None)) (lt-ltb _ _ inside)

  pub past_last : (n : ℕ) → first ≤ a → (a - first) / size_of region ≡ n → slots region ≤ n → slot_number a ≡ None
  past_last n late e outside = number_of n late e ∙ ap (λ b. option_map (λ (s : Slot). s.number) (cond b (Some (record { region = region; number = n })) None)) (le-ltb _ _ outside)

  -- so many bytes past the first slot's beginning there is no slot
  pub far_past : first ≤ a → 2 ^ 25 ≤ a - first → slot_number a ≡ None
  far_past late far = past_last ((a - first) / size_of region) late refl (no_more (cases_lt ((a - first) / size_of region) (slots region)))
    where
      no_more : ((a - first) / size_of region < slots region) ⊎ (slots region ≤ (a - first) / size_of region) → slots region ≤ (a - first) / size_of region
      no_more (inr past) = past
      no_more (inl less) =
          absurd (omega (arith, far, slots_within region ((a - first) / size_of region) less, lt-div-mul-add {a = a - first} {b = size_of region} positive))

-- a slot ends before its region does, and well before 2 ^ 64
pub slot_fits : (shape : Shape) (region n : ℕ) → IsRegion region → shape ≡ shape_of region → n < slots region
    → (n * shape.size + shape.size ≤ 2 ^ 24) × (region * 2 ^ 32 ≤ shape.first + n * shape.size) × (shape.first + n * shape.size + size_of region ≤ region * 2 ^ 32 + 2 ^ 25)
slot_fits shape region n is same inside =
    subst (λ (s : Shape). (n * s.size + s.size ≤ 2 ^ 24) × (region * 2 ^ 32 ≤ s.first + n * s.size) × (s.first + n * s.size + size_of region ≤ region * 2 ^ 32 + 2 ^ 25)) (sym same) (
      slots_within region n inside,
      omega (arith, add-mul (first_multiple region) n (size_of region), (slot_within region n is.1 inside).0),
      omega (arith, add-mul (first_multiple region) n (size_of region), (slot_within region n is.1 inside).1),
    )

-- the same by the shape of the region
module _ (a region : ℕ) (shape : Shape) (in_region : region_of a ≡ Some region) (is : IsRegion region) (same : shape ≡ shape_of region) where
  at_first : shape.first ≡ first_multiple region * size_of region
  at_first = ap (λ (s : Shape). s.first) same

  count : shape.slots ≡ slots region
  count = ap (λ (s : Shape). s.slots) same

  pub none_before : a < shape.first → None ≡ slot_number a
  none_before early = sym (before_first a region in_region is (subst (λ f. a < f) at_first early))

  pub none_far : shape.first ≤ a → 2 ^ 25 ≤ a - shape.first → None ≡ slot_number a
  none_far late far = sym (far_past a region in_region is (subst (λ f. f ≤ a) at_first late) (subst (λ f. 2 ^ 25 ≤ a - f) at_first far))

  pub some_slot : (n : ℕ) → shape.first ≤ a → n ≡ (a - shape.first) / size_of region → n < shape.slots → Some n ≡ slot_number a
  some_slot n late e inside =
      sym (is_number a region in_region is n (subst (λ f. f ≤ a) at_first late) (sym (subst (λ f. n ≡ (a - f) / size_of region) at_first e)) (subst (λ k. n < k) count inside))

  pub none_past : (n : ℕ) → shape.first ≤ a → n ≡ (a - shape.first) / size_of region → shape.slots ≤ n → None ≡ slot_number a
  none_past n late e outside =
      sym (past_last a region in_region is n (subst (λ f. f ≤ a) at_first late) (sym (subst (λ f. n ≡ (a - f) / size_of region) at_first e)) (subst (λ k. k ≤ n) count outside))
