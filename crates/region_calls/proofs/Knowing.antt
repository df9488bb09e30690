-- What a region knows of types and sizes.
use Rattle.std.proofs.Common.{◌≡◌, ℕ, ◌+◌, ◌-◌, ◌≤◌, Bool, true, false, cond, length, get_or, Some, None, refl, subst, arith}
use Rattle.std.specs.Prelude.{nat_le, nat_lt}
use Rattle.std.specs.List.{position_or_len}
use Rattle.std.proofs.lemmas.Bool.{and_parts, leb-true, ltb-true}
use Rattle.std.proofs.lemmas.List.Sums.{passes_at_first}
use Rattle.std.proofs.lemmas.Option.{same_Some, none-some}
use Rattle.c_types.specs.Table.{Types, HasSize}
use Rattle.lowfat_regions.specs.Regions.{header_bytes, sizes, size_of, class_of}
use Rattle.heap_model.specs.Layouts.{layouts_of}
use Rattle.object_slots.specs.Objects.{FitsIn}

-- a type that there is has a size
pub has-size : (types : Types) (t : ℕ) → (layouts_of types).has t ≡ true → HasSize types t
has-size types t has =
    let both = and_parts _ _ has in
    let bounds = and_parts _ _ both.0 in
    ((leb-true _ _ bounds.0, leb-true _ _ bounds.1), both.1)

-- an object fits into the slots of the region for its size
pub class-fits : (size r : ℕ) → class_of size ≡ Some r → FitsIn r size
unfolding class_of size_of
class-fits size r e = go (nat_lt index (length sizes)) refl e
  where
    index : ℕ
    index = position_or_len (λ s. nat_le (size + header_bytes + 1) s) sizes

    go : (b : Bool) → nat_lt index (length sizes) ≡ b → cond b (Some (index + 1)) None ≡ Some r
        → size + header_bytes + 1 ≤ get_or sizes (r - 1) 0
    go true below same =
        let here : index + 1 ≡ r = same_Some _ _ same in
        let there : index ≡ r - 1 = omega (arith, here) in
        subst (λ (i : ℕ). size + header_bytes + 1 ≤ get_or sizes i 0) there
        (leb-true _ _ (passes_at_first (λ s. nat_le (size + header_bytes + 1) s) sizes 0 (ltb-true _ _ below)))
    go false below same = absurd (none-some r same)
