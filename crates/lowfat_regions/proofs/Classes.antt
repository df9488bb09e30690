-- The classes of sizes.
use Rattle.std.proofs.Common.{◌≡◌, ◌⊎◌, inl, inr, ℕ, zero, suc, ◌||◌, not, subst, ◌+◌, ◌-◌, ◌^◌, ◌<◌, ◌≤◌, Bool, true, false, cond, length, get_or, Some, None, option_map, refl, sym, ap, ◌∙◌, arith}
use Rattle.std.specs.Prelude.{nat_le, nat_lt, position, IsSome, ◌↔◌}
use Rattle.std.specs.List.{position_or_len}
use Rattle.std.proofs.lemmas.List.Sums.{fails_before_first, passes_at_first, position_or_len_is}
use Rattle.std.proofs.lemmas.Bool.{leb-true, le-leb, lt-ltb, ltb-true, ltb-false, leb-false, lt-leb, agree_below, agree_below_at, cases_lt}
use Rattle.lowfat_regions.specs.Regions.{IsRegion, last_region, header_bytes, max_object_bytes, sizes, size_of, class_of}
use Rattle.lowfat_regions.specs.Shapes.{HasNoRoomBefore}
use Rattle.lowfat_regions.proofs.Addresses.{size_ok}

size_below : (index : ℕ) → index < last_region → get_or sizes index 0 ≤ 2 ^ 20
unfolding size_of
size_below index h = let k : (index + 1 - 1) ≡ index = omega arith in rw k at (size_ok (index + 1) (omega arith)).1

count_of_sizes : length sizes ≡ last_region
unfolding sizes
count_of_sizes = refl

-- a size has room in a slot
abbrev has_room : ℕ → ℕ → Bool
has_room n s = nat_le (n + header_bytes + 1) s

-- the class is one more than the place of the first slot with room
pub class_of_position : (n : ℕ) → class_of n ≡ option_map (λ index. index + 1) (position (has_room n) sizes)
unfolding class_of
class_of_position n = go (nat_lt index (length sizes))
  where
    index : ℕ
    index = position_or_len (has_room n) sizes

    go : (b : Bool) → cond b (Some (index + 1)) None ≡ option_map (λ index. index + 1) (cond b (Some index) None)
    go true = refl
    go false = refl

-- the largest object has room in the last class, and no larger one has any
pub class_of_some : (n : ℕ) → n ≤ max_object_bytes → IsSome (class_of n)
unfolding class_of sizes
class_of_some n small = go (nat_lt index (length sizes)) refl
  where
    index : ℕ
    index = position_or_len (has_room n) sizes

    go : (b : Bool) → nat_lt index (length sizes) ≡ b → IsSome (cond b (Some (index + 1)) None)
    go true e = refl
    go false e =
        let past : 26 < index = omega (arith, ltb-false _ _ e) in
        let fails : has_room n 1048576 ≡ false = fails_before_first (has_room n) sizes 26 0 past in
        let room : n + header_bytes + 1 ≤ 1048576 = omega arith in
        absurd (let apart : true ≡ false = sym (le-leb _ _ room) ∙ fails in cc)

pub class_of_none : (n : ℕ) → max_object_bytes < n → class_of n ≡ None
unfolding class_of
class_of_none n large = go (nat_lt index (length sizes)) refl
  where
    index : ℕ
    index = position_or_len (has_room n) sizes

    go : (b : Bool) → nat_lt index (length sizes) ≡ b → cond b (Some (index + 1)) None ≡ None
    go false e = refl
    go true e =
        let here : index < length sizes = ltb-true _ _ e in
        let room : n + header_bytes + 1 ≤ get_or sizes index 0 = leb-true _ _ (passes_at_first (has_room n) sizes 0 here) in
        let small : get_or sizes index 0 ≤ 2 ^ 20 = size_below index (omega (arith, here, count_of_sizes)) in
        absurd (omega (arith, room, small, large))

pub class_of_room : (n : ℕ) → IsSome (class_of n) ↔ (n ≤ max_object_bytes)
class_of_room n = (go (nat_le n max_object_bytes) refl, class_of_some n)
  where
    go : (b : Bool) → nat_le n max_object_bytes ≡ b → IsSome (class_of n) → n ≤ max_object_bytes
    go true e some = leb-true _ _ e
    go false e some = absurd (let none = class_of_none n (leb-false _ _ e) in let apart : false ≡ true = rw none at some in cc)

-- the sizes rise from region to region
sizes_rise : (k r : ℕ) → k < r → r < last_region → get_or sizes k 0 < get_or sizes r 0
unfolding sizes
sizes_rise k r lower below =
    let rises_to : agree_below (λ k. not (nat_lt k r) || nat_lt (get_or sizes k 0) (get_or sizes r 0)) (λ k. true) 27 ≡ true =
    agree_below_at (λ r. agree_below (λ k. not (nat_lt k r) || nat_lt (get_or sizes k 0) (get_or sizes r 0)) (λ k. true) 27) (λ r. true) 27 r refl below in
    let both = agree_below_at (λ k. not (nat_lt k r) || nat_lt (get_or sizes k 0) (get_or sizes r 0)) (λ k. true) 27 k rises_to (omega arith) in
    ltb-true _ _ (subst (λ b. not b || nat_lt (get_or sizes k 0) (get_or sizes r 0) ≡ true) (lt-ltb k r lower) both)

-- so each size before one that has no room has none
no_room_below : (bytes r k : ℕ) → r < last_region → get_or sizes r 0 < bytes → k ≤ r → get_or sizes k 0 < bytes
no_room_below bytes r k below small lower = go (cases_lt k r)
  where
    go : (k < r) ⊎ (r ≤ k) → get_or sizes k 0 < bytes
    go (inl less) = omega (arith, sizes_rise k r less below, small)
    go (inr more) = subst (λ i. get_or sizes i 0 < bytes) (let same : r ≡ k = omega arith in same) small

-- the region with room before which there is none
pub class_is : (n bytes r : ℕ) → bytes ≡ n + header_bytes + 1 → IsRegion r → bytes ≤ size_of r → HasNoRoomBefore bytes r → class_of n ≡ Some r
unfolding class_of size_of
class_is n bytes zero e is room before = absurd (omega (arith, is))
class_is n bytes (suc r) e is room before =
    let same : suc r - 1 ≡ r = omega arith in
    let room_here : bytes ≤ get_or sizes r 0 = subst (λ i. bytes ≤ get_or sizes i 0) same room in
    let at : position_or_len (has_room n) sizes ≡ r =
    position_or_len_is (has_room n) sizes r 0 (omega (arith, is, count_of_sizes)) fails (λ below. le-leb _ _ (omega (arith, e, room_here))) in
    let inside : nat_lt r (length sizes) ≡ true = lt-ltb _ _ (omega (arith, is, count_of_sizes)) in
    let next : r + 1 ≡ suc r = omega arith in
    ap (λ i. cond (nat_lt i (length sizes)) (Some (i + 1)) None) at ∙ ap (λ b. cond b (Some (r + 1)) None) inside ∙ ap Some next
  where
    fails : (k : ℕ) → k < r → has_room n (get_or sizes k 0) ≡ false
    fails k lower =
        let before_one : suc r - 1 - 1 ≡ r - 1 = omega arith in
        let small : get_or sizes (r - 1) 0 < bytes = subst (λ i. get_or sizes i 0 < bytes) before_one (before (omega arith)) in
        lt-leb _ _ (omega (arith, e, no_room_below bytes (r - 1) k (omega (arith, is)) small (omega arith)))
