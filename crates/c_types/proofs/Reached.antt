-- How far members reach.
use Rattle.std.proofs.Common.{◌≡◌, ◌⊎◌, ◌≢◌, ℕ, zero, suc, ◌+◌, ◌≤◌, ◌<◌, max, List, [], ◌∷◌, ◌++◌, length, drop, get_or, Some, None, Option, Bool, true, false, ◌||◌, not, nat_lt, sym, ap, ap₂, subst, refl, ◌∙◌, arith, append_assoc, append-nil, true≢false, IsFalse, Contains}
use Rattle.std.proofs.lemmas.Bool.{ltb-true, lt-ltb}
use Rattle.c_types.specs.declared.kinds.Field.{Field}
use Rattle.c_types.specs.declared.kinds.Member.{Member}
use Rattle.c_types.specs.declared.kinds.TypeError.TheVariants as e
use Rattle.c_types.specs.declared.fields.Extent.{Extent}
use Rattle.c_types.specs.Shapes.{Shape, Members, Void, Whole, Pointer, Array, Open, Struct, Union, Incomplete, None_left, Member as Member_of, Flexible, round_up, alignment, greatest_alignment, next_offset, size, end_of_struct, end_of_union, is_open}
use Rattle.c_types.specs.Table.{members_from, members_of_fields, struct_members, union_members}
use Rattle.c_types.specs.Adding.{any, shapes, misplaced, first_of, largest}
use Rattle.c_types.specs.Rows.{members_as}
use Rattle.c_types.specs.Extents.{offset_after, reach, extent_of, too_large}
use Rattle.c_types.proofs.Faults.{or_left, or_right}
use Rattle.c_types.proofs.Sizes.{not_below, reaches}

-- fields behind an end
abbrev pub members_behind : Bool → (ℕ → Shape) → ℕ → List Field → List Member
members_behind true shape end fields = union_members fields
members_behind false shape end fields = struct_members shape end fields

-- What is kept while members are placed: those before a place stand, and those from it on reach as far as all do.
pub record Reaches (union_tag : Bool) (shape : ℕ → Shape) (fields : List Field) (i : ℕ) (members : List Member) (extent : Extent) : Type 0 where
  pub placed_so_far : members ++ members_behind union_tag shape extent.end (drop i fields) ≡ members_as union_tag shape fields
  pub end : reach union_tag (members_of_fields shape (drop i fields)) extent.end ≡ reach union_tag (members_of_fields shape fields) 0
  pub alignment : max extent.alignment (greatest_alignment (members_of_fields shape (drop i fields))) ≡ greatest_alignment (members_of_fields shape fields)
  pub small : extent.end ≤ largest
  pub first : 1 ≤ extent.alignment
  pub few : extent.alignment ≤ 8
  pub placed : misplaced union_tag (shapes shape (drop i fields)) ≡ false

-- ---- one member more

max_zero : (n : ℕ) → max n 0 ≡ n
max_zero n = omega arith

member_reach : (union_tag : Bool) (next : Shape) (rest : Members) (end : ℕ) →
    reach union_tag (Member_of next rest) end ≡ reach union_tag rest (max end (offset_after union_tag (alignment next) end + size next))
member_reach true next rest end = omega arith
member_reach false next rest end =
    ap (end_of_struct rest) (larger end (next_offset next end) (size next) (not_below (alignment next) end))
  where
    larger : (a b c : ℕ) → a ≤ b → b + c ≡ max a (b + c)
    larger a b c h = omega (arith, h)

closed_reach : (union_tag : Bool) (next : Shape) (rest : Members) (end : ℕ) → IsFalse (is_open next) →
    reach union_tag (members_from next rest) end ≡ reach union_tag rest (max end (offset_after union_tag (alignment next) end + size next))
closed_reach union_tag (Open n of) rest end closed = absurd (true≢false closed)
closed_reach union_tag (Void n) rest end closed = member_reach union_tag (Void n) rest end
closed_reach union_tag (Whole n width signed) rest end closed = member_reach union_tag (Whole n width signed) rest end
closed_reach union_tag (Pointer n to) rest end closed = member_reach union_tag (Pointer n to) rest end
closed_reach union_tag (Array n of count) rest end closed = member_reach union_tag (Array n of count) rest end
closed_reach union_tag (Struct n members) rest end closed = member_reach union_tag (Struct n members) rest end
closed_reach union_tag (Union n members) rest end closed = member_reach union_tag (Union n members) rest end
closed_reach union_tag (Incomplete n) rest end closed = member_reach union_tag (Incomplete n) rest end

open_reach : (n : ℕ) (of : Shape) (end : ℕ) →
    reach false (Flexible n of) end ≡ reach false None_left (max end (offset_after false (alignment of) end + 0))
open_reach n of end = larger end (round_up (alignment of) end) (not_below (alignment of) end)
  where
    larger : (a b : ℕ) → a ≤ b → b ≡ max a (b + 0)
    larger a b h = omega (arith, h)

-- the first of some members is open only where it is the last of a struct's
record FirstOpen (union_tag : Bool) (shape : ℕ → Shape) (f : Field) (rest : List Field) : Type 0 where
  sort : union_tag ≡ false
  last : rest ≡ []

first_open : (union_tag : Bool) (shape : ℕ → Shape) (f : Field) (rest : List Field) → misplaced union_tag (shapes shape (f ∷ rest)) ≡ false →
    is_open (shape f.kind) ≡ true → FirstOpen union_tag shape f rest
first_open true shape f rest placed it = absurd (true≢false (sym it ∙ or_left _ _ placed))
first_open false shape f [] placed it = record { sort = refl; last = refl }
first_open false shape f (g ∷ rest) placed it = absurd (true≢false (sym it ∙ or_left _ _ placed))

rest_placed : (union_tag : Bool) (shape : ℕ → Shape) (f : Field) (rest : List Field) → misplaced union_tag (shapes shape (f ∷ rest)) ≡ false →
    misplaced union_tag (shapes shape rest) ≡ false
rest_placed true shape f rest placed = or_right _ _ placed
rest_placed false shape f [] placed = refl
rest_placed false shape f (g ∷ rest) placed = or_right _ _ placed

closed_alignment : (next : Shape) (rest : Members) → IsFalse (is_open next) →
    greatest_alignment (members_from next rest) ≡ max (alignment next) (greatest_alignment rest)
closed_alignment (Open n of) rest closed = absurd (true≢false closed)
closed_alignment (Void n) rest closed = refl
closed_alignment (Whole n width signed) rest closed = refl
closed_alignment (Pointer n to) rest closed = refl
closed_alignment (Array n of count) rest closed = refl
closed_alignment (Struct n members) rest closed = refl
closed_alignment (Union n members) rest closed = refl
closed_alignment (Incomplete n) rest closed = refl

is_open_tree : (next : Shape) → is_open next ≡ true → (n : ℕ) × (of : Shape) × (next ≡ Open n of)
is_open_tree (Open n of) it = (n, of, refl)
is_open_tree (Void n) it = absurd (true≢false (sym it))
is_open_tree (Whole n width signed) it = absurd (true≢false (sym it))
is_open_tree (Pointer n to) it = absurd (true≢false (sym it))
is_open_tree (Array n of count) it = absurd (true≢false (sym it))
is_open_tree (Struct n members) it = absurd (true≢false (sym it))
is_open_tree (Union n members) it = absurd (true≢false (sym it))
is_open_tree (Incomplete n) it = absurd (true≢false (sym it))

by_bool : (A : Type 0) (b : Bool) → (b ≡ true → A) → (b ≡ false → A) → A
by_bool A true if_so if_not = if_so refl
by_bool A false if_so if_not = if_not refl

next_reach : (union_tag : Bool) (shape : ℕ → Shape) (f : Field) (rest : List Field) (end : ℕ) → misplaced union_tag (shapes shape (f ∷ rest)) ≡ false →
    reach union_tag (members_of_fields shape (f ∷ rest)) end ≡
    reach union_tag (members_of_fields shape rest) (max end (offset_after union_tag (alignment (shape f.kind)) end + size (shape f.kind)))
next_reach union_tag shape f rest end placed = by_bool _ (is_open (shape f.kind))
    (λ it.
    let o : FirstOpen union_tag shape f rest = first_open union_tag shape f rest placed it in
    let t : (n : ℕ) × (of : Shape) × (shape f.kind ≡ Open n of) = is_open_tree (shape f.kind) it in
    subst (λ b. reach b (members_of_fields shape (f ∷ rest)) end ≡
    reach b (members_of_fields shape rest) (max end (offset_after b (alignment (shape f.kind)) end + size (shape f.kind)))) (sym o.sort)
    (subst (λ fs. reach false (members_from (shape f.kind) (members_of_fields shape fs)) end ≡
    reach false (members_of_fields shape fs) (max end (offset_after false (alignment (shape f.kind)) end + size (shape f.kind)))) (sym o.last)
    (subst (λ s. reach false (members_from s None_left) end ≡ reach false None_left (max end (offset_after false (alignment s) end + size s))) (sym t.2)
    (open_reach t.0 t.1 end))))
    (λ closed. closed_reach union_tag (shape f.kind) (members_of_fields shape rest) end closed)

next_alignment : (union_tag : Bool) (shape : ℕ → Shape) (f : Field) (rest : List Field) (step : ℕ) → 1 ≤ step →
    misplaced union_tag (shapes shape (f ∷ rest)) ≡ false →
    max step (greatest_alignment (members_of_fields shape (f ∷ rest))) ≡
    max (max step (alignment (shape f.kind))) (greatest_alignment (members_of_fields shape rest))
next_alignment union_tag shape f rest step first placed = by_bool _ (is_open (shape f.kind))
    (λ it.
    let o : FirstOpen union_tag shape f rest = first_open union_tag shape f rest placed it in
    let t : (n : ℕ) × (of : Shape) × (shape f.kind ≡ Open n of) = is_open_tree (shape f.kind) it in
    subst (λ fs. max step (greatest_alignment (members_from (shape f.kind) (members_of_fields shape fs))) ≡
    max (max step (alignment (shape f.kind))) (greatest_alignment (members_of_fields shape fs))) (sym o.last)
    (subst (λ s. max step (greatest_alignment (members_from s None_left)) ≡ max (max step (alignment s)) 1) (sym t.2)
    (one_more step (alignment t.1) first)))
    (λ closed. ap (max step) (closed_alignment (shape f.kind) (members_of_fields shape rest) closed) ∙
    assoc step (alignment (shape f.kind)) (greatest_alignment (members_of_fields shape rest)))
  where
    one_more : (a b : ℕ) → 1 ≤ a → max a b ≡ max (max a b) 1
    one_more a b h = omega (arith, h)

    assoc : (a b c : ℕ) → max a (max b c) ≡ max (max a b) c
    assoc a b c = omega arith

next_members : (union_tag : Bool) (shape : ℕ → Shape) (f : Field) (rest : List Field) (end : ℕ) →
    members_behind union_tag shape end (f ∷ rest) ≡
    record { name = f.name; kind = f.kind; offset = offset_after union_tag (alignment (shape f.kind)) end } ∷
    members_behind union_tag shape (max end (offset_after union_tag (alignment (shape f.kind)) end + size (shape f.kind))) rest
next_members true shape f rest end = refl
next_members false shape f rest end =
    ap (λ m. record { name = f.name; kind = f.kind; offset = next_offset (shape f.kind) end } ∷ struct_members shape m rest)
    (larger end (next_offset (shape f.kind) end) (size (shape f.kind)) (not_below (alignment (shape f.kind)) end))
  where
    larger : (a b c : ℕ) → a ≤ b → b + c ≡ max a (b + c)
    larger a b c h = omega (arith, h)

-- ---- the loop

greatest_from : (next : Shape) (rest : Members) → alignment next ≤ greatest_alignment (members_from next rest)
greatest_from (Open n of) rest = omega arith
greatest_from (Void n) rest = omega arith
greatest_from (Whole n width signed) rest = omega arith
greatest_from (Pointer n to) rest = omega arith
greatest_from (Array n of count) rest = omega arith
greatest_from (Struct n members) rest = omega arith
greatest_from (Union n members) rest = omega arith
greatest_from (Incomplete n) rest = omega arith

some_alignment : (shape : ℕ → Shape) (steps : (n : ℕ) → (1 ≤ alignment (shape n)) × (alignment (shape n) ≤ 8)) (fields : List Field) →
    1 ≤ greatest_alignment (members_of_fields shape fields)
some_alignment shape steps [] = omega arith
some_alignment shape steps (f ∷ fields) =
    omega (arith, (steps f.kind).0, greatest_from (shape f.kind) (members_of_fields shape fields))

pub begins : (union_tag : Bool) (shape : ℕ → Shape) (steps : (n : ℕ) → (1 ≤ alignment (shape n)) × (alignment (shape n) ≤ 8)) (fields : List Field) →
    misplaced union_tag (shapes shape fields) ≡ false → Reaches union_tag shape fields 0 [] (record { end = 0; alignment = 1 })
begins union_tag shape steps fields placed = record {
  placed_so_far = behind union_tag;
  end = refl;
  alignment = at_least (greatest_alignment (members_of_fields shape fields)) (some_alignment shape steps fields);
  small = omega arith;
  first = omega arith;
  few = omega arith;
  placed = placed;
}
  where
    behind : (b : Bool) → members_behind b shape 0 fields ≡ members_as b shape fields
    behind true = refl
    behind false = refl

    at_least : (n : ℕ) → 1 ≤ n → max 1 n ≡ n
    at_least n h = omega (arith, h)

drop_at : (xs : List Field) (i : ℕ) (x : Field) → i < length xs → x ≡ get_or xs i x → drop i xs ≡ x ∷ drop (suc i) xs
drop_at [] i x within is = absurd (omega (arith, within))
drop_at (y ∷ xs) zero x within is = ap (λ z. z ∷ xs) (sym is)
drop_at (y ∷ xs) (suc i) x within is = drop_at xs i x (omega (arith, within)) is

module _ (union_tag : Bool) (shape : ℕ → Shape) (steps : (n : ℕ) → (1 ≤ alignment (shape n)) × (alignment (shape n) ≤ 8)) (fields : List Field)
    (i : ℕ) (f : Field) (within : i < length fields) (is : f ≡ get_or fields i f) (members : List Member) (extent : Extent)
    (so_far : Reaches union_tag shape fields i members extent) where
  rest : List Field
  rest = drop (i + 1) fields

  split : drop i fields ≡ f ∷ drop (i + 1) fields
  split = subst (λ k. drop i fields ≡ f ∷ drop k fields) after (drop_at fields i f within is)
    where
      after : suc i ≡ i + 1
      after = omega arith

  abbrev pub end_now : ℕ
  end_now = max extent.end (offset_after union_tag (alignment (shape f.kind)) extent.end + size (shape f.kind))

  placed_now : misplaced union_tag (shapes shape (f ∷ drop (i + 1) fields)) ≡ false
  placed_now = subst (λ fs. misplaced union_tag (shapes shape fs) ≡ false) split so_far.placed

  end_same : reach union_tag (members_of_fields shape (drop (i + 1) fields)) end_now ≡ reach union_tag (members_of_fields shape fields) 0
  end_same =
      sym (next_reach union_tag shape f (drop (i + 1) fields) extent.end placed_now) ∙
      (ap (λ fs. reach union_tag (members_of_fields shape fs) extent.end) (sym split) ∙ so_far.end)

  pub goes_on : end_now ≤ largest →
      Reaches union_tag shape fields (i + 1)
      (members ++ record { name = f.name; kind = f.kind; offset = offset_after union_tag (alignment (shape f.kind)) extent.end } ∷ [])
      (record { end = end_now; alignment = max extent.alignment (alignment (shape f.kind)) })
  goes_on fits = record {
    placed_so_far =
        append_assoc members (record { name = f.name; kind = f.kind; offset = offset_after union_tag (alignment (shape f.kind)) extent.end } ∷ [])
        (members_behind union_tag shape end_now (drop (i + 1) fields)) ∙
        (ap (λ ms. members ++ ms) (sym (next_members union_tag shape f (drop (i + 1) fields) extent.end) ∙
        ap (members_behind union_tag shape extent.end) (sym split)) ∙ so_far.placed_so_far);
    end = end_same;
    alignment =
        sym (next_alignment union_tag shape f (drop (i + 1) fields) extent.alignment so_far.first placed_now) ∙
        (ap (λ fs. max extent.alignment (greatest_alignment (members_of_fields shape fs))) (sym split) ∙ so_far.alignment);
    small = fits;
    first = omega (arith, so_far.first);
    few = omega (arith, so_far.few, (steps f.kind).1);
    placed = rest_placed union_tag shape f (drop (i + 1) fields) placed_now;
  }

  -- it reaches too far
  no_less : (b : Bool) (ms : Members) (end : ℕ) → end ≤ reach b ms end
  no_less true ms end = omega arith
  no_less false ms end = reaches ms end

  pub too_far : largest < end_now → too_large (extent_of union_tag (members_of_fields shape fields)).end ≡ Some e.TooLarge
  too_far over =
      ap (λ b. first_of ((b, e.TooLarge) ∷ []))
      (lt-ltb largest (reach union_tag (members_of_fields shape fields) 0)
      (omega (arith, over, end_same, no_less union_tag (members_of_fields shape (drop (i + 1) fields)) end_now)))
