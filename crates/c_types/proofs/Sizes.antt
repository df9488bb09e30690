-- Bounds of sizes and alignments.
use Rattle.std.proofs.Common.{◌≡◌, ◌≢◌, ◌⊎◌, ℕ, zero, suc, ◌+◌, ◌-◌, ◌*◌, ◌%◌, ◌==◌, ◌≤◌, ◌<◌, max, cond, List, [], ◌∷◌, Some, None, sym, ap, ◌∙◌, refl, arith, subst, ⊎_elim, inl, inr, IsTrue, IsFalse, true, false, Bool, Option, true≢false, mul-le-mul, le_trans}
use Rattle.std.proofs.Math.Nat.{le-max_left}
use Rattle.c_types.specs.declared.kinds.CType.{CType}
use Rattle.c_types.specs.declared.kinds.CType.TheVariants as k
use Rattle.c_types.specs.declared.kinds.Field.{Field}
use Rattle.c_types.specs.Shapes.{Shape, Members, Void, Whole, Pointer, Array, Open, Struct, Union, Incomplete, None_left, Member, Flexible, round_up, alignment, greatest_alignment, next_offset, size, end_of_struct, end_of_union, is_complete, is_flexible}
use Rattle.c_types.specs.Table.{Types, Tag, kind_of, fields_by, fields_of, members_of_fields, tagged, shape_of_kind, shape_of}
use Rattle.c_types.specs.Adding.{members_fault, whole_of, largest}
use Rattle.c_types.specs.Holds.{IsWidth, IsMade, IsTag, IsWhole, AreWhole, HasMember}
use Rattle.c_types.proofs.Faults.{OfArray, array_fits, OfMembers, members_fit}
use Rattle.c_types.proofs.Whole.{IsGood}

-- ---- rounding up

up_by : (b : Bool) (n more : ℕ) → n ≤ cond b n (n + more)
up_by true n more = omega arith
up_by false n more = omega arith

pub not_below : (step n : ℕ) → n ≤ round_up step n
not_below step n = up_by (n % step == 0) n (step - n % step)

-- ---- members reach no less

pub reaches : (members : Members) (end : ℕ) → end ≤ end_of_struct members end
reaches None_left end = omega arith
reaches (Member first rest) end =
    omega (arith, reaches rest (next_offset first end + size first), not_below (alignment first) end)
reaches (Flexible n of) end = not_below (alignment of) end

-- ---- at least a byte

some_width : (width : ℕ) → IsWidth width → (1 ≤ width) × (width ≤ 8)
some_width width is = ⊎_elim (λ e. (omega (arith, e), omega (arith, e)))
    (⊎_elim (λ e. (omega (arith, e), omega (arith, e))) (⊎_elim (λ e. (omega (arith, e), omega (arith, e))) (λ e. (omega (arith, e), omega (arith, e))))) is

left_max : (a b : ℕ) → 1 ≤ a → 1 ≤ max a b
left_max a b some = le_trans some (le-max_left a b)

pub some_bytes : (a : Types) (shape : Shape) → IsWhole a shape → 1 ≤ size shape
some_bytes a (Void n) whole = absurd whole
some_bytes a (Whole n width signed) whole = (some_width width whole.1).0
some_bytes a (Pointer n to) whole = omega arith
some_bytes a (Array n of count) whole = mul-le-mul whole.3 (some_bytes a of whole.1)
some_bytes a (Open n of) whole = absurd whole
some_bytes a (Struct n None_left) whole = absurd whole.2
some_bytes a (Struct n (Member first rest)) whole =
    omega (
      arith,
      some_bytes a first whole.1.0,
      reaches rest (next_offset first 0 + size first),
      not_below (greatest_alignment (Member first rest)) (end_of_struct (Member first rest) 0),
    )
some_bytes a (Struct n (Flexible m of)) whole = absurd whole.2
some_bytes a (Union n None_left) whole = absurd whole.2
some_bytes a (Union n (Member first rest)) whole =
    le_trans (left_max (size first) (end_of_union rest) (some_bytes a first whole.1.0))
    (not_below (greatest_alignment (Member first rest)) (end_of_union (Member first rest)))
some_bytes a (Union n (Flexible m of)) whole = absurd whole.2
some_bytes a (Incomplete n) whole = absurd whole

-- ---- alignments

abbrev IsSmallStep : ℕ → Type 0
IsSmallStep step = (1 ≤ step) × (step ≤ 8)

both_max : (a b : ℕ) → IsSmallStep a → IsSmallStep b → IsSmallStep (max a b)
both_max a b x y = (omega (arith, x.0, y.0), omega (arith, x.1, y.1))

mutual
  pub whole_step : (a : Types) (shape : Shape) → IsWhole a shape → IsSmallStep (alignment shape)
  whole_step a (Void n) whole = absurd whole
  whole_step a (Whole n width signed) whole = some_width width whole.1
  whole_step a (Pointer n to) whole = (omega arith, omega arith)
  whole_step a (Array n of count) whole = whole_step a of whole.1
  whole_step a (Open n of) whole = absurd whole
  whole_step a (Struct n members) whole = members_step a members whole.1
  whole_step a (Union n members) whole = members_step a members whole.1
  whole_step a (Incomplete n) whole = absurd whole

  members_step : (a : Types) (members : Members) → AreWhole a members → IsSmallStep (greatest_alignment members)
  members_step a None_left whole = (omega arith, omega arith)
  members_step a (Member first rest) whole =
      both_max (alignment first) (greatest_alignment rest) (whole_step a first whole.0) (members_step a rest whole.2)
  members_step a (Flexible n of) whole = whole_step a of whole.1

pub good_step : (a : Types) (shape : Shape) → IsGood a shape → (1 ≤ alignment shape) × (alignment shape ≤ 8)
good_step a (Void n) good = (omega arith, omega arith)
good_step a (Whole n width signed) good = whole_step a (Whole n width signed) good
good_step a (Pointer n to) good = (omega arith, omega arith)
good_step a (Array n of count) good = whole_step a (Array n of count) good
good_step a (Open n of) good = whole_step a of good.1
good_step a (Struct n members) good = whole_step a (Struct n members) good
good_step a (Union n members) good = whole_step a (Union n members) good
good_step a (Incomplete n) good = (omega arith, omega arith)

-- ---- at most the largest object's

module _ (a : Types) where
  tag_small : (union_tag : Bool) (n tag : ℕ) → IsTag a union_tag n tag →
      size (tagged (whole_of union_tag n) (shape_of a) n (fields_of a.tags tag)) ≤ largest
  tag_small union_tag n tag is_tag =
      subst (λ fields. size (tagged (whole_of union_tag n) (shape_of a) n fields) ≤ largest) (sym (ap fields_by is_tag.here))
      (by_fields is_tag.found.fields is_tag.complete)
    where
      by_fields : (fields : List Field) → (fields ≢ [] → members_fault (shape_of a) union_tag n fields ≡ None) →
          size (tagged (whole_of union_tag n) (shape_of a) n fields) ≤ largest
      by_fields [] complete = omega arith
      by_fields (f ∷ fields) complete = (members_fit (shape_of a) union_tag n (f ∷ fields) (complete (λ e. cc))).small

  pub kind_small : (n : ℕ) (kind : CType) → IsMade a n kind → size (shape_of_kind a.tags (shape_of a) n (Some kind)) ≤ largest
  kind_small n k.Void m = omega arith
  kind_small n (k.Num width signed) m = omega (arith, (some_width width m).1)
  kind_small n (k.Pointer to) m = omega arith
  kind_small n (k.Array of count) m = (array_fits (shape_of a of) count m.1).small
  kind_small n (k.Flexible of) m = omega arith
  kind_small n (k.Struct tag) m = tag_small false n tag m
  kind_small n (k.Union tag) m = tag_small true n tag m
