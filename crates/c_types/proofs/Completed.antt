-- A table in which a tag is completed.
use Rattle.std.proofs.Common.{◌≡◌, ◌≢◌, ◌⊎◌, ℕ, zero, suc, ◌+◌, ◌≤◌, List, [], ◌∷◌, ◌++◌, length, Some, None, sym, ap, ◌∙◌, refl, arith, subst, inl, inr, ⊎_elim, length-append, append-nil, Contains, IsTrue, IsFalse, true, false, slice_get, slice_set, nat_eq, Bool, Option, true≢false}
use Rattle.std.proofs.lemmas.List.{length-set}
use Rattle.std.proofs.lemmas.List.Elements.{Contains-append_left, Contains-push}
use Rattle.c_types.specs.declared.kinds.CType.{CType}
use Rattle.c_types.specs.declared.kinds.CType.TheVariants.{Void, Num, Pointer, Array, Flexible, Struct, Union}
use Rattle.c_types.specs.declared.kinds.Field.{Field}
use Rattle.c_types.specs.Shapes.{Shape}
use Rattle.c_types.specs.Shapes as s
use Rattle.c_types.specs.Table.{Types, Tag, kind_of, fields_by, fields_of, shape_of, IsNumber}
use Rattle.c_types.specs.Adding.{members_fault, tag_kind, shapes, is_empty}
use Rattle.c_types.specs.Holds.{IsMade, IsTag, IsLater, IsLaterTag, IsOrdered, IsAfter, AreAfter}
use Rattle.c_types.specs.Holds.IsOrdered.{none, next}
use Rattle.c_types.specs.Rows.{IsBase, has_fields, is_known, unknown_tags}
use Rattle.c_types.proofs.Lists.{get_set, set_here, set_other, get_within, unknown_set}
use Rattle.c_types.proofs.Ordered.{by_known, after_all}
use Rattle.c_types.proofs.Later.{kind_kept}
use Rattle.c_types.proofs.Faults.{members_fit}
use Rattle.c_types.proofs.Based.{tree_is, unknown_tree}
use Rattle.c_types.proofs.Changes.{Settles, tree_kept, made_later, ordered_later, fields_known, fault_alike}

-- one number or another
pub same_or : (m n : ℕ) → (m ≡ n) ⊎ (m ≢ n)
same_or zero zero = inl refl
same_or zero (suc n) = inr (λ e. omega (arith, e))
same_or (suc m) zero = inr (λ e. omega (arith, e))
same_or (suc m) (suc n) = ⊎_elim (λ e. inl (ap suc e)) (λ e. inr (λ f. e (omega (arith, f)))) (same_or m n)

filled : (fields : List Field) → fields ≢ [] → has_fields fields ≡ true
filled [] some = absurd (some refl)
filled (f ∷ fields) some = refl

module _ (a : Types) (order : List ℕ) (base : IsBase a order) (union_tag : Bool) (n tag : ℕ) (tag_found : Tag) (fields : List Field)
    (is : kind_of a n ≡ Some (tag_kind union_tag tag)) (tag_at : slice_get a.tags tag ≡ Some tag_found)
    (unfilled : fields_of a.tags tag ≡ [])
    (parts : (f : Field) → Contains fields f → IsNumber a f.kind) (fits : members_fault (shape_of a) union_tag n fields ≡ None) where
  tag_made : (sort : Bool) → IsMade a n (tag_kind sort tag) → IsTag a sort n tag
  tag_made true made = made
  tag_made false made = made

  pub is_tag : IsTag a union_tag n tag
  is_tag = tag_made union_tag (base.made n (tag_kind union_tag tag) is)

  sort_is : tag_found.union_tag ≡ union_tag
  sort_is =
      let here : slice_get a.tags tag ≡ Some is_tag.found = is_tag.here in
      let here' : slice_get a.tags tag ≡ Some tag_found = tag_at in
      let one : tag_found ≡ is_tag.found = cc in
      ap (λ x. x.union_tag) one ∙ is_tag.sort

  abbrev pub new_tag : Tag
  new_tag = record { union_tag = tag_found.union_tag; name = tag_found.name; fields = fields }

  abbrev pub filled_in : Types
  filled_in = record { kinds = a.kinds; tags = slice_set a.tags tag new_tag }

  empty : tag_found.fields ≡ []
  empty = ap fields_by (sym tag_at) ∙ unfilled

  pub some : fields ≢ []
  some e = absurd (true≢false (sym (ap (λ fs. is_empty (shapes (shape_of a) fs)) e) ∙ (members_fit (shape_of a) union_tag n fields fits).some))

  pub new_here : slice_get (slice_set a.tags tag new_tag) tag ≡ Some new_tag
  new_here = set_here a.tags tag new_tag tag_found tag_at

  tag_later : (t : ℕ) (found : Tag) → slice_get a.tags t ≡ Some found → (t ≡ tag) ⊎ (t ≢ tag) →
      (later : Tag) × (slice_get (slice_set a.tags tag new_tag) t ≡ Some later) × IsLaterTag found later
  tag_later t found at (inl same) =
      let at' : slice_get a.tags tag ≡ Some found = subst (λ m. slice_get a.tags m ≡ Some found) same at in
      let here : slice_get a.tags tag ≡ Some tag_found = tag_at in
      let one : tag_found ≡ found = cc in (
        new_tag,
        subst (λ m. slice_get (slice_set a.tags tag new_tag) m ≡ Some new_tag) (sym same) new_here,
        record {
          sort = ap (λ x. x.union_tag) one;
          name = ap (λ x. x.name) one;
          fields = λ full. absurd (full (ap (λ x. x.fields) (sym one) ∙ empty));
        },
      )
  tag_later t found at (inr other) =
      (found, set_other a.tags tag t new_tag other ∙ at, record { sort = refl; name = refl; fields = λ full. refl })

  pub later : IsLater a filled_in
  later = record
      { more = []; kinds = sym (append-nil a.kinds); tags = λ t found at. tag_later t found at (same_or t tag) }

  -- the tag's one number
  pub one_sort : (sort : Bool) (m : ℕ) → kind_of a m ≡ Some (tag_kind sort tag) → sort ≡ union_tag
  one_sort sort m is_m = by_sort sort m (base.made m (tag_kind sort tag) is_m)
    where
      by_sort : (sort : Bool) (m : ℕ) → IsMade a m (tag_kind sort tag) → sort ≡ union_tag
      by_sort sort m made =
          let t : IsTag a sort m tag = tag_of_made sort m made in
          let here : slice_get a.tags tag ≡ Some t.found = t.here in
          let here' : slice_get a.tags tag ≡ Some is_tag.found = is_tag.here in
          let one : t.found ≡ is_tag.found = cc in
          sym t.sort ∙ (ap (λ x. x.union_tag) one ∙ is_tag.sort)
        where
          tag_of_made : (sort : Bool) (m : ℕ) → IsMade a m (tag_kind sort tag) → IsTag a sort m tag
          tag_of_made true m made = made
          tag_of_made false m made = made

  pub one_number : (sort : Bool) (m : ℕ) → kind_of a m ≡ Some (tag_kind sort tag) → m ≡ n
  one_number sort m is_m =
      base.one_number m n (tag_kind union_tag tag) (subst (λ b. kind_of a m ≡ Some (tag_kind b tag)) (one_sort sort m is_m) is_m) is

  fields_fit : members_fault (shape_of filled_in) union_tag n fields ≡ None
  fields_fit =
      fault_alike (shape_of filled_in) (shape_of a) union_tag n fields
      (λ f c. tree_kept a filled_in order base later f.kind (fields_known a order base union_tag n fields fits parts f c)) ∙ fits

  settles : Settles a filled_in order base later
  settles sort m t before found at at' is_m nothing = ⊎_elim
      (λ (same : t ≡ tag).
      let is_m' : kind_of a m ≡ Some (tag_kind sort tag) = subst (λ x. kind_of a m ≡ Some (tag_kind sort x)) same is_m in
      let at_tag : slice_get (slice_set a.tags tag new_tag) tag ≡ Some found =
      subst (λ x. slice_get (slice_set a.tags tag new_tag) x ≡ Some found) same at' in
      let here : slice_get (slice_set a.tags tag new_tag) tag ≡ Some new_tag = new_here in
      let one : new_tag ≡ found = cc in
      let full : fields ≡ found.fields = ap (λ x. x.fields) one in (
        (λ f. subst (λ b. members_fault (shape_of filled_in) b m found.fields ≡ None) (sym (one_sort sort m is_m'))
            (subst (λ x. members_fault (shape_of filled_in) union_tag x found.fields ≡ None) (sym (one_number sort m is_m'))
            (subst (λ fs. members_fault (shape_of filled_in) union_tag n fs ≡ None) full fields_fit))),
        λ f c. parts f (subst (λ fs. Contains fs f) (sym full) c),
      ))
      (λ (other : t ≢ tag).
      let kept : slice_get (slice_set a.tags tag new_tag) t ≡ Some before = set_other a.tags tag t new_tag other ∙ at in
      let one : before ≡ found = cc in
      let none : found.fields ≡ [] = ap (λ x. x.fields) (sym one) ∙ nothing in
      ((λ f. absurd (f none)), λ f c. absurd (omega (arith, (subst (λ fs. Contains fs f) none c).1))))
      (same_or t tag)

  -- what is known now
  pub known_or_here : (m : ℕ) (x : CType) → kind_of a m ≡ Some x → (m ≡ n) ⊎ (is_known (slice_set a.tags tag new_tag) x ≡ is_known a.tags x)
  known_or_here m Void is_m = inr refl
  known_or_here m (Num width signed) is_m = inr refl
  known_or_here m (Pointer to) is_m = inr refl
  known_or_here m (Array of count) is_m = inr refl
  known_or_here m (Flexible of) is_m = inr refl
  known_or_here m (Struct t) is_m = ⊎_elim
      (λ (same : t ≡ tag). inl (one_number false m (subst (λ x. kind_of a m ≡ Some (Struct x)) same is_m)))
      (λ (other : t ≢ tag). inr (ap (λ x. has_fields (fields_by x)) (set_other a.tags tag t new_tag other))) (same_or t tag)
  known_or_here m (Union t) is_m = ⊎_elim
      (λ (same : t ≡ tag). inl (one_number true m (subst (λ x. kind_of a m ≡ Some (Union x)) same is_m)))
      (λ (other : t ≢ tag). inr (ap (λ x. has_fields (fields_by x)) (set_other a.tags tag t new_tag other))) (same_or t tag)

  pub now_fields : fields_of (slice_set a.tags tag new_tag) tag ≡ fields
  now_fields = ap fields_by new_here

  after : (sort : Bool) → IsAfter filled_in order (tag_kind sort tag)
  after true = subst (AreAfter order) (sym now_fields) (some, fields_known a order base union_tag n fields fits parts)
  after false = subst (AreAfter order) (sym now_fields) (some, fields_known a order base union_tag n fields fits parts)

  fresh : Contains order n → ⊥
  fresh c = by_sort union_tag (after_all a order base.ordered n (tag_kind union_tag tag) c is)
    where
      by_sort : (sort : Bool) → IsAfter a order (tag_kind sort tag) → ⊥
      by_sort true x = x.0 unfilled
      by_sort false x = x.0 unfilled

  tags_have_numbers : (t : ℕ) (found : Tag) → slice_get (slice_set a.tags tag new_tag) t ≡ Some found →
      (m : ℕ) × (kind_of a m ≡ Some (tag_kind found.union_tag t))
  tags_have_numbers t found at = ⊎_elim
      (λ (here : (t ≡ tag) × (found ≡ new_tag)). (
        n,
        subst (λ x. kind_of a n ≡ Some (tag_kind found.union_tag x)) (sym here.0)
            (subst (λ (x : Bool). kind_of a n ≡ Some (tag_kind x tag)) (sym (ap (λ x. x.union_tag) here.1 ∙ sort_is)) is),
      ))
      (λ (other : (t ≢ tag) × (slice_get a.tags t ≡ Some found)). base.tags t found other.1)
      (get_set a.tags tag t new_tag found at)

  pub filled_base : IsBase filled_in (order ++ n ∷ [])
  filled_base = record {
    rest = base.rest;
    begins = base.begins;
    one_number = base.one_number;
    tags = tags_have_numbers;
    made = λ m x is_m. made_later a filled_in order base later settles m x is_m (base.made m x is_m);
    ordered = next order n (tag_kind union_tag tag) (ordered_later a filled_in order base later) fresh is (after union_tag);
    known = λ m x is_m it. ⊎_elim
        (λ (same : m ≡ n). subst (Contains (order ++ n ∷ [])) (sym same) (Contains-push order n))
        (λ (same : is_known (slice_set a.tags tag new_tag) x ≡ is_known a.tags x).
        Contains-append_left order (n ∷ []) m (base.known m x is_m (sym same ∙ it)))
        (known_or_here m x is_m);
    count =
        let less : suc (unknown_tags (slice_set a.tags tag new_tag)) ≡ unknown_tags a.tags =
        unknown_set a.tags tag tag_found new_tag tag_at empty (filled fields some) in
        rw (length-append) (omega (arith, base.count, less));
    few_tags = rw (length-set a.tags tag new_tag) base.few_tags;
  }

  -- trees of all other numbers
  pub filled_tree : (m : ℕ) (x : CType) → kind_of a m ≡ Some x → m ≢ n → shape_of filled_in m ≡ shape_of a m
  filled_tree m x is_m other = by_known _ (is_known a.tags x)
      (λ it. tree_kept a filled_in order base later m (base.known m x is_m it))
      (λ it. ⊎_elim (λ (same : m ≡ n). absurd (other same))
      (λ (same : is_known (slice_set a.tags tag new_tag) x ≡ is_known a.tags x).
      (tree_is filled_in (order ++ n ∷ []) filled_base m x is_m ∙
      unknown_tree (slice_set a.tags tag new_tag) (shape_of filled_in) m x (same ∙ it)) ∙
      sym (tree_is a order base m x is_m ∙ unknown_tree a.tags (shape_of a) m x it))
      (known_or_here m x is_m))
