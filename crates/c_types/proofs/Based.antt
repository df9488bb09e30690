-- What holds of each table follows from what is kept.
use Rattle.std.proofs.Common.{◌≡◌, ◌≢◌, ◌⊎◌, ℕ, zero, suc, ◌+◌, ◌≤◌, List, [], ◌∷◌, ◌++◌, length, Some, None, sym, ap, ◌∙◌, refl, arith, subst, Contains, IsTrue, IsFalse, true, false, slice_get, Bool, Option, true≢false, inl, inr, ⊎_elim}
use Rattle.c_types.specs.declared.kinds.CType.{CType}
use Rattle.c_types.specs.declared.kinds.CType.TheVariants.{Void, Num, Pointer, Array, Flexible, Struct, Union}
use Rattle.c_types.specs.declared.kinds.Field.{Field}
use Rattle.c_types.specs.Shapes.{Shape, Members, is_complete, is_unknown, alignment, size}
use Rattle.c_types.specs.Shapes as s
use Rattle.c_types.specs.Table.{Types, Tag, kind_of, fields_of, tagged, shape_of_kind, shape_of, IsNumber, HasTrees}
use Rattle.c_types.specs.Adding.{largest}
use Rattle.c_types.specs.Holds.{IsTable, IsMade}
use Rattle.c_types.specs.Rows.{IsBase, has_fields, is_known}
use Rattle.c_types.proofs.Ordered.{trees, by_known}
use Rattle.c_types.proofs.Whole.{IsGood, good, good_whole}
use Rattle.c_types.proofs.Sizes.{some_bytes, good_step, kind_small}

-- ---- what is unknown

no_fields : (whole : Members → Shape) (f : ℕ → Shape) (n : ℕ) (fields : List Field) → IsFalse (has_fields fields) →
    tagged whole f n fields ≡ s.Incomplete n
no_fields whole f n [] nothing = refl
no_fields whole f n (x ∷ fields) nothing = absurd (true≢false nothing)

pub unknown_tree : (tags : List Tag) (f : ℕ → Shape) (n : ℕ) (kind : CType) → IsFalse (is_known tags kind) →
    shape_of_kind tags f n (Some kind) ≡ s.Incomplete n
unknown_tree tags f n Void nothing = absurd (true≢false nothing)
unknown_tree tags f n (Num width signed) nothing = absurd (true≢false nothing)
unknown_tree tags f n (Pointer to) nothing = absurd (true≢false nothing)
unknown_tree tags f n (Array of count) nothing = absurd (true≢false nothing)
unknown_tree tags f n (Flexible of) nothing = absurd (true≢false nothing)
unknown_tree tags f n (Struct tag) nothing = no_fields (s.Struct n) f n (fields_of tags tag) nothing
unknown_tree tags f n (Union tag) nothing = no_fields (s.Union n) f n (fields_of tags tag) nothing

read_at : {X : Type 0} (xs : List X) (p : ℕ) → suc p ≤ length xs → (x : X) × (slice_get xs p ≡ Some x)
read_at [] p within = absurd (omega (arith, within))
read_at (x ∷ xs) zero within = (x, refl)
read_at (x ∷ xs) (suc p) within = read_at xs p (omega (arith, within))

pub kind_of_number : (a : Types) (n : ℕ) → IsNumber a n → (kind : CType) × (kind_of a n ≡ Some kind)
kind_of_number a zero num = absurd (omega (arith, num.0))
kind_of_number a (suc p) num = read_at a.kinds p num.1

module _ (a : Types) (order : List ℕ) (base : IsBase a order) where
  pub few : length order ≤ length a.kinds
  few = omega (arith, base.count)

  pub has_trees : HasTrees a
  has_trees = trees a order base.ordered few base.known

  pub tree_is : (n : ℕ) (kind : CType) → kind_of a n ≡ Some kind → shape_of a n ≡ shape_of_kind a.tags (shape_of a) n (Some kind)
  tree_is n kind is = has_trees n ∙ ap (shape_of_kind a.tags (shape_of a) n) is

  -- a type is known or its tree is unknown
  known_or : (n : ℕ) (kind : CType) → kind_of a n ≡ Some kind → Contains order n ⊎ (shape_of a n ≡ s.Incomplete n)
  known_or n kind is = by_known _ (is_known a.tags kind)
      (λ it. inl (base.known n kind is it)) (λ it. inr (tree_is n kind is ∙ unknown_tree a.tags (shape_of a) n kind it))

  good_number : (n : ℕ) (kind : CType) → kind_of a n ≡ Some kind → IsGood a (shape_of a n)
  good_number n kind is = ⊎_elim (λ (c : Contains order n). good a has_trees base.made order base.ordered n c)
      (λ (e : shape_of a n ≡ s.Incomplete n). subst (IsGood a) (sym e) tt) (known_or n kind is)

  by_kind : (n : ℕ) (P : Shape → Type 0) → P (s.Incomplete n) → ((kind : CType) → kind_of a n ≡ Some kind → P (shape_of a n)) → P (shape_of a n)
  by_kind n P nothing some = by_option (kind_of a n) refl
    where
      by_option : (kind : Option CType) → kind_of a n ≡ kind → P (shape_of a n)
      by_option None is = subst P (sym (has_trees n ∙ ap (shape_of_kind a.tags (shape_of a) n) is)) nothing
      by_option (Some kind) is = some kind is

  pub good_any : (n : ℕ) → IsGood a (shape_of a n)
  good_any n = by_kind n (IsGood a) tt (good_number n)

  pub step_any : (n : ℕ) → (1 ≤ alignment (shape_of a n)) × (alignment (shape_of a n) ≤ 8)
  step_any n = good_step a (shape_of a n) (good_any n)

  pub small_any : (n : ℕ) → size (shape_of a n) ≤ largest
  small_any n = by_kind n (λ shape. size shape ≤ largest) (omega arith)
      (λ kind is. subst (λ shape. size shape ≤ largest) (sym (tree_is n kind is)) (kind_small a n kind (base.made n kind is)))

  pub known_number : (n : ℕ) → IsNumber a n → IsFalse (is_unknown (shape_of a n)) → Contains order n
  known_number n num it =
      let k : (kind : CType) × (kind_of a n ≡ Some kind) = kind_of_number a n num in
      ⊎_elim (λ (c : Contains order n). c)
      (λ (e : shape_of a n ≡ s.Incomplete n). absurd (true≢false (sym (ap is_unknown e) ∙ it))) (known_or n k.0 k.1)

  pub table : IsTable a
  table = record {
    rest = base.rest;
    begins = base.begins;
    one_number = base.one_number;
    tags = base.tags;
    made = base.made;
    trees = has_trees;
    order = order;
    ordered = base.ordered;
    few = few;
    known = known_number;
    whole = λ n complete. good_whole a (shape_of a n) (good_any n) complete;
    steps = step_any;
    sized = λ n complete. (some_bytes a (shape_of a n) (good_whole a (shape_of a n) (good_any n) complete), small_any n);
  }
