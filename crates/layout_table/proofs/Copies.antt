-- The types of a table, copied.
use Rattle.std.proofs.Common.{◌≡◌, ◌⊎◌, ℕ, zero, suc, ◌+◌, ◌<◌, ◌≤◌, List, [], ◌∷◌, ◌++◌, length, take, map, get_or, set, Bool, true, false, Some, None, sym, ap, ◌∙◌, refl, arith, subst, inl, inr, ⊎_elim, ◌^◌}
use Rattle.std.specs.Prelude.{Option, slice_get, IfSome}
use Rattle.std.proofs.lemmas.List.{take_more}
use Rattle.c_types.specs.declared.kinds.CType.{CType}
use Rattle.c_types.specs.declared.kinds.CType.TheVariants as k
use Rattle.c_types.specs.declared.kinds.Field.{Field}
use Rattle.c_types.specs.Shapes.{Shape, next_offset, size}
use Rattle.c_types.specs.Table.{Types, Tag, IsNumber, kind_of, fields_by, fields_of, shape_of, members, members_by, struct_members, union_members}
use Rattle.c_types.specs.Adding.{tag_kind}
use Rattle.c_types.specs.Holds.{IsTable, IsTag}
use Rattle.layout_table.specs.Known.{count_by, field_of, is_union, put_by, tag_of_kind, AreNumbersOfTags, IsNumberOfTag}
use Rattle.layout_table.proofs.Chains.{read}
use Rattle.layout_table.proofs.Counted.{set_else, set_length, set_same}
use Rattle.layout_table.proofs.Growth.{slice_get_within}
use Rattle.layout_table.proofs.Lookups.{has_place}
use Rattle.layout_table.proofs.Orders.{number_known}

place_is : {X : Type 0} (xs : List X) (p : ℕ) (d x : X) → slice_get xs p ≡ Some x → get_or xs p d ≡ x
place_is [] p d x e = cc
place_is (y ∷ xs) zero d x e = let f : y ≡ x = cc in f
place_is (y ∷ xs) (suc p) d x e = place_is xs p d x e

-- ---- types in order

-- one more
pub take_kind : {X : Type 0} (xs now later : List X) (i : ℕ) (x : X) → slice_get xs i ≡ Some x → now ≡ take i xs →
    later ≡ now ++ x ∷ [] → later ≡ take (i + 1) xs
take_kind xs now later i x at e f =
    f ∙ ap (λ ys. ys ++ x ∷ []) e ∙ ap (λ y. take i xs ++ y ∷ []) (sym (place_is xs i x x at)) ∙
    sym (take_more xs i x (slice_get_within xs i x at))

pub map_push : {X Y : Type 0} (f : X → Y) (xs : List X) (x : X) → map f (xs ++ x ∷ []) ≡ map f xs ++ f x ∷ []
map_push f [] x = refl
map_push f (y ∷ xs) x = ap (λ ys. f y ∷ ys) (map_push f xs x)

pub kind_at : (types : Types) (i : ℕ) (kind : CType) → kind_of types (i + 1) ≡ Some kind →
    slice_get types.kinds i ≡ Some kind
kind_at types i kind e = subst (λ (n : ℕ). kind_of types n ≡ Some kind) (next i) e
  where
    next : (i : ℕ) → i + 1 ≡ suc i
    next i = omega arith

-- ---- tags

tag_number : (union_tag : Bool) (tag : ℕ) → tag_of_kind (tag_kind union_tag tag) ≡ Some tag
tag_number true tag = refl
tag_number false tag = refl

-- the kind of a tag's type
kind_by_tag : (kind : CType) (tag : ℕ) → tag_of_kind kind ≡ Some tag → (kind ≡ k.Struct tag) ⊎ (kind ≡ k.Union tag)
kind_by_tag k.Void tag e = cc
kind_by_tag (k.Num width signed) tag e = cc
kind_by_tag (k.Pointer to) tag e = cc
kind_by_tag (k.Array of count) tag e = cc
kind_by_tag (k.Flexible of) tag e = cc
kind_by_tag (k.Struct n) tag e = inl (let f : n ≡ tag = cc in ap k.Struct f)
kind_by_tag (k.Union n) tag e = inr (let f : n ≡ tag = cc in ap k.Union f)

module _ (types : Types) (table : IsTable types) where
  -- a type of a tag is that of a tag of the table
  tag_within : (n tag : ℕ) (kind : CType) → kind_of types n ≡ Some kind → tag_of_kind kind ≡ Some tag →
      (found : Tag) × (slice_get types.tags tag ≡ Some found) × (kind ≡ tag_kind found.union_tag tag)
  tag_within n tag kind e t =
      ⊎_elim
      (λ s. let is : IsTag types false n tag = table.made n (k.Struct tag) (e ∙ ap Some s) in
      (is.found, is.here, s ∙ ap (λ b. tag_kind b tag) (sym is.sort)))
      (λ u. let is : IsTag types true n tag = table.made n (k.Union tag) (e ∙ ap Some u) in
      (is.found, is.here, u ∙ ap (λ b. tag_kind b tag) (sym is.sort)))
      (kind_by_tag kind tag t)

-- how many tags there are, by the types up to a number
pub record IsTagCount (types : Types) (i count : ℕ) : Type 0 where
  pub above : (n tag : ℕ) (kind : CType) → n ≤ i → kind_of types n ≡ Some kind → tag_of_kind kind ≡ Some tag →
      tag < count
  pub few : count ≤ length types.tags
  pub small : count ≤ 2 ^ 32

no_type : (types : Types) (n : ℕ) (kind : CType) → n ≤ 0 → kind_of types n ≡ Some kind → ⊥
no_type types zero kind h e = cc
no_type types (suc n) kind h e = omega (arith, h)

pub count_begun : (types : Types) → IsTagCount types 0 0
count_begun types = record {
  above = λ n tag kind h e t. absurd (no_type types n kind h e);
  few = omega arith;
  small = omega arith;
}

at_most_or_next : (n i : ℕ) → n ≤ i + 1 → (n ≤ i) ⊎ (n ≡ i + 1)
at_most_or_next n i h = grind arith

same_some : {X : Type 0} (x y : X) → Some x ≡ Some y → x ≡ y
same_some x y e = cc

count_step : (types : Types) (table : IsTable types) (i count : ℕ) (kind : CType) (o : Option ℕ) →
    IsTagCount types i count → kind_of types (i + 1) ≡ Some kind → tag_of_kind kind ≡ o →
    count_by count o ≤ 2 ^ 32 → IsTagCount types (i + 1) (count_by count o)
count_step types table i count kind None so_far e t s = record {
  above = λ n tag kd h f g.
      ⊎_elim (λ l. so_far.above n tag kd l f g)
      (λ m. absurd (lies tag (sym g ∙ ap tag_of_kind (same_some kd kind (sym f ∙ ap (kind_of types) m ∙ e)) ∙
      t))) (at_most_or_next n i h);
  few = so_far.few;
  small = s;
}
  where
    lies : (tag : ℕ) → Some tag ≡ None → ⊥
    lies tag e = cc
count_step types table i count kind (Some seen) so_far e t s = record {
  above = λ n tag kd h f g.
      ⊎_elim (λ l. let a = so_far.above n tag kd l f g in omega (arith, a))
      (λ m. let same : tag ≡ seen = same_some tag seen (sym g ∙ ap tag_of_kind (same_some kd kind (sym f ∙
      ap (kind_of types) m ∙ e)) ∙ t) in omega (arith, same)) (at_most_or_next n i h);
  few =
      let found = tag_within types table (i + 1) seen kind e t in
      let within = slice_get_within types.tags seen found.0 found.1 in
      omega (arith, so_far.few, within);
  small = s;
}

kind_there : (types : Types) (kinds : List CType) (i : ℕ) (d : CType) → kinds ≡ types.kinds → i < length kinds →
    kind_of types (i + 1) ≡ Some (get_or kinds i d)
kind_there types kinds i d e h =
    subst (λ (n : ℕ). kind_of types n ≡ Some (get_or kinds i d)) (sym (after i)) (subst (λ ks. slice_get ks i ≡ Some
    (get_or kinds i d)) e (read kinds i d h))
  where
    after : (i : ℕ) → i + 1 ≡ suc i
    after i = omega arith

pub tags_more : (types : Types) (table : IsTable types) (kinds : List CType) (i count later : ℕ) (d : CType) →
    kinds ≡ types.kinds → i < length kinds → IsTagCount types i count →
    later ≡ count_by count (tag_of_kind (get_or kinds i d)) → later ≤ 2 ^ 32 → IsTagCount types (i + 1) later
tags_more types table kinds i count later d k h so_far e s =
    subst (IsTagCount types (i + 1)) (sym e)
    (count_step types table i count (get_or kinds i d) (tag_of_kind (get_or kinds i d)) so_far (kind_there types
    kinds i d k h) refl (subst (λ (n : ℕ). n ≤ 2 ^ 32) e s))

pub tags_all : (types : Types) (table : IsTable types) (i count : ℕ) → length types.kinds ≤ i →
    IsTagCount types i count → count ≡ length types.tags
tags_all types table i count h so_far = omega (arith, so_far.few, least)
  where
    least : length types.tags ≤ count
    least = ⊎_elim (λ l. l) (λ l. absurd (too_few l)) (le_or_lt (length types.tags) count)
      where
        le_or_lt : (a b : ℕ) → (a ≤ b) ⊎ (b < a)
        le_or_lt a b = grind arith

        too_few : count < length types.tags → ⊥
        too_few l =
            let found = has_place types.tags count l in
            let typed = table.tags count found.0 found.1 in
            let known = number_known types typed.0 (tag_kind found.0.union_tag count) typed.1 in
            let a = so_far.above typed.0 count (tag_kind found.0.union_tag count) (omega (arith, known.1, h)) typed.1
            (tag_number found.0.union_tag count) in
            omega (arith, a)

-- ---- the numbers of the tags' types

pub record AreNumbersTo (types : Types) (i : ℕ) (numbers : List ℕ) : Type 0 where
  pub count : length numbers ≡ length types.tags
  pub each : (n tag : ℕ) (kind : CType) → n ≤ i → kind_of types n ≡ Some kind → tag_of_kind kind ≡ Some tag →
      get_or numbers tag 0 ≡ n

pub numbers_begun : (types : Types) (numbers : List ℕ) → length numbers ≡ length types.tags →
    AreNumbersTo types 0 numbers
numbers_begun types numbers c = record { count = c; each = λ n tag kind h e t. absurd (no_type types n kind h e) }

same_or_else : (t u : ℕ) → (t ≡ u) ⊎ (t ≡ u → ⊥)
same_or_else t u = grind arith

put_step : (types : Types) (table : IsTable types) (i : ℕ) (numbers : List ℕ) (kind : CType) (o : Option ℕ) →
    AreNumbersTo types i numbers → kind_of types (i + 1) ≡ Some kind → tag_of_kind kind ≡ o →
    AreNumbersTo types (i + 1) (put_by numbers o (i + 1))
put_step types table i numbers kind None so_far e t = record {
  count = so_far.count;
  each = λ n tag kd h f g.
      ⊎_elim (λ l. so_far.each n tag kd l f g)
      (λ m. absurd (lies tag (sym g ∙ ap tag_of_kind (same_some kd kind (sym f ∙ ap (kind_of types) m ∙ e)) ∙
      t))) (at_most_or_next n i h);
}
  where
    lies : (tag : ℕ) → Some tag ≡ None → ⊥
    lies tag e = cc
put_step types table i numbers kind (Some seen) so_far e t = record {
  count = set_length numbers seen (i + 1) ∙ so_far.count;
  each = λ n tag kd h f g. ⊎_elim
      (λ s.
      let a = tag_within types table n tag kd f g in
      let b = tag_within types table (i + 1) seen kind e t in
      let one : n ≡ i + 1 = table.one_number n (i + 1) kd f (e ∙ ap Some (sym (same_kind a.0 b.0 kd kind tag seen a.1
      b.1 s a.2 b.2))) in
      ap (λ (p : ℕ). get_or (set numbers seen (i + 1)) p 0) s ∙ set_same numbers seen (i + 1) 0 (omega (
        arith,
        slice_get_within types.tags seen b.0 b.1,
        so_far.count,
      )) ∙ sym one)
      (λ d. set_else numbers seen tag (i + 1) 0 d ∙ ⊎_elim (λ l. so_far.each n tag kd l f g)
      (λ m. absurd (d (same_some tag seen (sym g ∙ ap tag_of_kind (same_some kd kind (sym f ∙
      ap (kind_of types) m ∙ e)) ∙ t)))) (at_most_or_next n i h))
      (same_or_else tag seen);
}
  where
    same_kind : (a b : Tag) (kd kind : CType) (tag seen : ℕ) → slice_get types.tags tag ≡ Some a →
        slice_get types.tags seen ≡ Some b → tag ≡ seen → kd ≡ tag_kind a.union_tag tag →
        kind ≡ tag_kind b.union_tag seen → kd ≡ kind
    same_kind a b kd kind tag seen x y s p q =
        let one : a ≡ b = same_some a b (sym x ∙ ap (slice_get types.tags) s ∙ y) in
        p ∙ ap (λ (c : Tag). tag_kind c.union_tag tag) one ∙ ap (tag_kind b.union_tag) s ∙ sym q

pub numbers_more : (types : Types) (table : IsTable types) (kinds : List CType) (i t : ℕ) (numbers later : List ℕ) (d
    : CType) → kinds ≡ types.kinds → i < length kinds →
    AreNumbersTo types i numbers → t ≡ i + 1 → later ≡ put_by numbers (tag_of_kind (get_or kinds i d)) t →
    AreNumbersTo types (i + 1) later
numbers_more types table kinds i t numbers later d k h so_far n e =
    subst (AreNumbersTo types (i + 1)) (sym (e ∙ ap (put_by numbers (tag_of_kind (get_or kinds i d))) n))
    (put_step types table i numbers (get_or kinds i d) (tag_of_kind (get_or kinds i d)) so_far (kind_there types
    kinds i d k h) refl)

-- the tag of a type is one of the table
pub tag_fits : (types : Types) (table : IsTable types) (kinds : List CType) (i : ℕ) (numbers : List ℕ) (d : CType) →
    kinds ≡ types.kinds → i < length kinds → AreNumbersTo types i numbers →
    (tag : ℕ) → tag_of_kind (get_or kinds i d) ≡ Some tag → tag < length numbers
tag_fits types table kinds i numbers d k h so_far tag e =
    let found = tag_within types table (i + 1) tag (get_or kinds i d) (kind_there types kinds i d k h) e in
    omega (arith, slice_get_within types.tags tag found.0 found.1, so_far.count)

pub numbers_all : (types : Types) (table : IsTable types) (i : ℕ) (numbers : List ℕ) → length types.kinds ≤ i →
    length types.tags ≤ 2 ^ 32 → AreNumbersTo types i numbers → AreNumbersOfTags types numbers
numbers_all types table i numbers h few so_far = record {
  count = so_far.count;
  few = few;
  each = λ tag l.
      let found = has_place types.tags tag l in
      let typed = table.tags tag found.0 found.1 in
      let known = number_known types typed.0 (tag_kind found.0.union_tag tag) typed.1 in
      let is : get_or numbers tag 0 ≡ typed.0 =
      so_far.each typed.0 tag (tag_kind found.0.union_tag tag) (omega (arith, known.1, h)) typed.1 (tag_number
      found.0.union_tag tag) in
      record {
        found = found.0;
        here = found.1;
        kind = subst (λ (n : ℕ). kind_of types n ≡ Some (tag_kind found.0.union_tag tag)) (sym is) typed.1;
        known = subst (IsNumber types) (sym is) known;
        within = l;
      };
}

-- ---- a tag

struct_fields_back : (shape : ℕ → Shape) (fields : List Field) (end : ℕ) →
    map field_of (struct_members shape end fields) ≡ fields
struct_fields_back shape [] end = refl
struct_fields_back shape (f ∷ fields) end = ap (λ fs. f ∷ fs) (struct_fields_back shape fields (next_offset (shape
    f.kind) end + size (shape f.kind)))

union_fields_back : (fields : List Field) → map field_of (union_members fields) ≡ fields
union_fields_back [] = refl
union_fields_back (f ∷ fields) = ap (λ fs. f ∷ fs) (union_fields_back fields)

by_sort : (types : Types) (union_tag : Bool) (tag : ℕ) → map field_of (members_by types.tags (shape_of types) (Some
    (tag_kind union_tag tag))) ≡ fields_of types.tags tag
by_sort types true tag = union_fields_back (fields_of types.tags tag)
by_sort types false tag = struct_fields_back (shape_of types) (fields_of types.tags tag) 0

pub fields_back : (types : Types) (tag t : ℕ) (is : IsNumberOfTag types tag t) →
    map field_of (members types t) ≡ is.found.fields
unfolding members
fields_back types tag t is =
    ap (λ o. map field_of (members_by types.tags (shape_of types) o)) is.kind ∙
    by_sort types is.found.union_tag tag ∙ ap fields_by is.here

union_is : (union_tag : Bool) (tag : ℕ) → is_union (tag_kind union_tag tag) ≡ union_tag
union_is true tag = refl
union_is false tag = refl

pub sort_back : (types : Types) (tag t : ℕ) (is : IsNumberOfTag types tag t) (kind : CType) →
    kind_of types t ≡ Some kind → is_union kind ≡ is.found.union_tag
sort_back types tag t is kind e =
    ap is_union (same_some kind (tag_kind is.found.union_tag tag) (sym e ∙ is.kind)) ∙ union_is is.found.union_tag tag

pub name_back : (types : Types) (tag t : ℕ) (is : IsNumberOfTag types tag t) (name : List ℕ) →
    IfSome (slice_get types.tags tag) (λ found. name ≡ found.name) → name ≡ is.found.name
name_back types tag t is name h = subst (λ o. IfSome o (λ found. name ≡ found.name)) is.here h

pub tag_back : (types : Types) (tag t : ℕ) (is : IsNumberOfTag types tag t) (union_tag : Bool) (name : List ℕ)
    (fields : List Field) → union_tag ≡ is.found.union_tag → name ≡ is.found.name →
    fields ≡ is.found.fields → slice_get types.tags tag ≡ Some (record {
      union_tag = union_tag;
      name = name;
      fields = fields;
    })
tag_back types tag t is union_tag name fields u n f =
    is.here ∙
    ap (λ b. Some (record { union_tag = b; name = is.found.name; fields = is.found.fields })) (sym u) ∙
    ap (λ x. Some (record { union_tag = union_tag; name = x; fields = is.found.fields })) (sym n) ∙
    ap (λ x. Some (record { union_tag = union_tag; name = name; fields = x })) (sym f)
