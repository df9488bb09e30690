-- A table with one type more.
use Rattle.std.proofs.Common.{◌≡◌, ◌≢◌, ◌⊎◌, ℕ, zero, suc, ◌+◌, ◌≤◌, List, [], ◌∷◌, ◌++◌, length, Some, None, sym, ap, ◌∙◌, refl, arith, subst, inl, inr, ⊎_elim, length-append, append_assoc, Contains, IsTrue, IsFalse, true, false, slice_get, Bool, Option, true≢false, ap₂}
use Rattle.std.proofs.lemmas.List.Elements.{Contains-append_left, Contains-push}
use Rattle.c_types.specs.declared.kinds.CType.{CType}
use Rattle.c_types.specs.declared.kinds.CType.TheVariants.{Void, Num, Pointer, Array, Flexible, Struct, Union}
use Rattle.c_types.specs.declared.kinds.Field.{Field}
use Rattle.c_types.specs.Shapes.{Shape}
use Rattle.c_types.specs.Shapes as s
use Rattle.c_types.specs.Table.{Types, Tag, basic_kinds, kind_in, kind_of, fields_by, fields_of, shape_of, shape_of_kind, IsNumber}
use Rattle.c_types.specs.Adding.{members_fault, tag_kind}
use Rattle.c_types.specs.Holds.{IsMade, IsTag, IsLater, IsLaterTag, IsOrdered, IsAfter}
use Rattle.c_types.specs.Holds.IsOrdered.{none, next}
use Rattle.c_types.specs.Rows.{IsBase, IsPlain, has_fields, is_known, unknown_tags}
use Rattle.c_types.proofs.Lists.{get_push, get_kept, get_last, get_within, kind_push, kind_last, unknown_push}
use Rattle.c_types.proofs.Ordered.{by_known}
use Rattle.c_types.proofs.Later.{kind_kept, kind_in_order, number_of_kind}
use Rattle.c_types.proofs.Based.{tree_is, unknown_tree}
use Rattle.c_types.proofs.Changes.{Settles, tree_kept, plain_later, made_later, ordered_later, element_known, open_element_known}

within : (kinds : List CType) (n : ℕ) (kind : CType) → kind_in kinds n ≡ Some kind → n ≤ length kinds
within kinds zero kind e = omega arith
within kinds (suc p) kind e = get_within kinds kind p e

module _ (a : Types) (order : List ℕ) (base : IsBase a order) (kind : CType) (absent : (n : ℕ) → kind_of a n ≢ Some kind)
    (tags' : List Tag) (keeps : (tag : ℕ) (found : Tag) → slice_get a.tags tag ≡ Some found → slice_get tags' tag ≡ Some found) where
  abbrev pub pushed : Types
  pushed = record { kinds = a.kinds ++ kind ∷ []; tags = tags' }

  pub later : IsLater a pushed
  later = record {
    more = kind ∷ [];
    kinds = refl;
    tags = λ tag found at. (found, keeps tag found at, record { sort = refl; name = refl; fields = λ some. refl });
  }

  settles : Settles a pushed order base later
  settles union_tag n tag before found at at' is empty =
      let kept : slice_get tags' tag ≡ Some before = keeps tag before at in
      let same : before ≡ found = cc in
      let none : found.fields ≡ [] = ap (λ t. t.fields) (sym same) ∙ empty in
      ((λ some. absurd (some none)), λ f c. absurd (omega (arith, (subst (λ fs. Contains fs f) none c).1)))

  pub one_number : (m n : ℕ) (x : CType) → kind_of pushed m ≡ Some x → kind_of pushed n ≡ Some x → m ≡ n
  one_number m n x is_m is_n =
      ⊎_elim
      (λ (old : kind_of a m ≡ Some x). ⊎_elim (λ (old' : kind_of a n ≡ Some x). base.one_number m n x old old')
      (λ (new' : (n ≡ suc (length a.kinds)) × (x ≡ kind)). absurd (absent m (old ∙ ap (λ k. Some k) new'.1)))
      (kind_push a.kinds kind x n is_n))
      (λ (new : (m ≡ suc (length a.kinds)) × (x ≡ kind)).
      ⊎_elim (λ (old' : kind_of a n ≡ Some x). absurd (absent n (old' ∙ ap (λ k. Some k) new.1)))
      (λ (new' : (n ≡ suc (length a.kinds)) × (x ≡ kind)). new.0 ∙ sym new'.0)
      (kind_push a.kinds kind x n is_n))
      (kind_push a.kinds kind x m is_m)

  fields_same : (union_tag : Bool) (n tag : ℕ) → IsTag a union_tag n tag → fields_of tags' tag ≡ fields_of a.tags tag
  fields_same union_tag n tag t = ap fields_by (keeps tag t.found t.here ∙ sym t.here)

  known_same : (n : ℕ) (x : CType) → IsMade a n x → is_known tags' x ≡ is_known a.tags x
  known_same n Void made = refl
  known_same n (Num width signed) made = refl
  known_same n (Pointer to) made = refl
  known_same n (Array of count) made = refl
  known_same n (Flexible of) made = refl
  known_same n (Struct tag) made = ap has_fields (fields_same false n tag made)
  known_same n (Union tag) made = ap has_fields (fields_same true n tag made)

  -- trees of old numbers
  pub tree_same : (order' : List ℕ) → IsBase pushed order' → (n : ℕ) (x : CType) → kind_of a n ≡ Some x → shape_of pushed n ≡ shape_of a n
  tree_same order' base' n x is = by_known _ (is_known a.tags x)
      (λ it. tree_kept a pushed order base later n (base.known n x is it))
      (λ it. (tree_is pushed order' base' n x (kind_kept a.kinds (kind ∷ []) n x is) ∙
      unknown_tree tags' (shape_of pushed) n x (known_same n x (base.made n x is) ∙ it)) ∙
      sym (tree_is a order base n x is ∙ unknown_tree a.tags (shape_of a) n x it))

  begins : (rest : List CType) → a.kinds ≡ basic_kinds ++ rest → pushed.kinds ≡ basic_kinds ++ (rest ++ kind ∷ [])
  begins rest e = ap (λ ks. ks ++ kind ∷ []) e ∙ append_assoc basic_kinds rest (kind ∷ [])

  made_by : IsMade pushed (suc (length a.kinds)) kind → (n : ℕ) (x : CType) → kind_of pushed n ≡ Some x → IsMade pushed n x
  made_by made n x is = ⊎_elim
      (λ (old : kind_of a n ≡ Some x). made_later a pushed order base later settles n x old (base.made n x old))
      (λ (new : (n ≡ suc (length a.kinds)) × (x ≡ kind)).
      subst (λ k. IsMade pushed n k) (sym new.1) (subst (λ m. IsMade pushed m kind) (sym new.0) made))
      (kind_push a.kinds kind x n is)

-- ---- a type that is no tag's

module _ (a : Types) (order : List ℕ) (base : IsBase a order) (kind : CType) (absent : (n : ℕ) → kind_of a n ≢ Some kind)
    (plain : IsPlain kind) (made : IsMade a (suc (length a.kinds)) kind) where
  same_tags : (tag : ℕ) (found : Tag) → slice_get a.tags tag ≡ Some found → slice_get a.tags tag ≡ Some found
  same_tags tag found at = at

  abbrev pub with_kind : Types
  with_kind = record { kinds = a.kinds ++ kind ∷ []; tags = a.tags }

  pub kind_is_later : IsLater a with_kind
  kind_is_later = later a order base kind absent a.tags same_tags

  after_made : (x : CType) → IsPlain x → IsMade a (suc (length a.kinds)) x → IsAfter with_kind order x
  after_made Void p m = tt
  after_made (Num width signed) p m = tt
  after_made (Pointer to) p m = tt
  after_made (Array of count) p m = element_known a order base of count m.0 m.1
  after_made (Flexible of) p m = open_element_known a order base of m.0 m.1
  after_made (Struct tag) p m = absurd p
  after_made (Union tag) p m = absurd p

  no_struct : (x : CType) → IsPlain x → (tag : ℕ) → x ≢ Struct tag
  no_struct x p tag e = subst IsPlain e p

  no_union : (x : CType) → IsPlain x → (tag : ℕ) → x ≢ Union tag
  no_union x p tag e = subst IsPlain e p

  fresh : Contains order (suc (length a.kinds)) → ⊥
  fresh c =
      let k : (x : CType) × (kind_of a (suc (length a.kinds)) ≡ Some x) = kind_in_order a order base.ordered (suc (length a.kinds)) c in
      omega (arith, within a.kinds (suc (length a.kinds)) k.0 k.1)

  pub kind_base : IsBase with_kind (order ++ suc (length a.kinds) ∷ [])
  kind_base = record {
    rest = base.rest ++ kind ∷ [];
    begins = begins a order base kind absent a.tags same_tags base.rest base.begins;
    one_number = one_number a order base kind absent a.tags same_tags;
    tags = λ tag found at. let n : (n : ℕ) × (kind_of a n ≡ Some (tag_kind found.union_tag tag)) = base.tags tag found at in
        (n.0, kind_kept a.kinds (kind ∷ []) n.0 (tag_kind found.union_tag tag) n.1);
    made = made_by a order base kind absent a.tags same_tags
        (plain_later a with_kind order base kind_is_later (suc (length a.kinds)) kind (no_struct kind plain) (no_union kind plain) made);
    ordered = next order (suc (length a.kinds)) kind (ordered_later a with_kind order base kind_is_later) fresh (kind_last a.kinds kind)
        (after_made kind plain made);
    known = λ n x is it. ⊎_elim
        (λ (old : kind_of a n ≡ Some x). Contains-append_left order (suc (length a.kinds) ∷ []) n (base.known n x old it))
        (λ (new : (n ≡ suc (length a.kinds)) × (x ≡ kind)).
        subst (Contains (order ++ suc (length a.kinds) ∷ [])) (sym new.0) (Contains-push order (suc (length a.kinds))))
        (kind_push a.kinds kind x n is);
    count = rw (length-append, length-append) (omega (arith, base.count));
    few_tags = rw (length-append) (omega (arith, base.few_tags));
  }

  pub kind_tree : (n : ℕ) (x : CType) → kind_of a n ≡ Some x → shape_of with_kind n ≡ shape_of a n
  kind_tree = tree_same a order base kind absent a.tags same_tags (order ++ suc (length a.kinds) ∷ []) kind_base

-- ---- a tag

module _ (a : Types) (order : List ℕ) (base : IsBase a order) (union_tag : Bool) (name : List ℕ) where
  abbrev pub new_tag : Tag
  new_tag = record { union_tag = union_tag; name = name; fields = [] }

  abbrev pub with_tag : Types
  with_tag = record { kinds = a.kinds ++ tag_kind union_tag (length a.tags) ∷ []; tags = a.tags ++ new_tag ∷ [] }

  no_tag : (sort : Bool) (n : ℕ) → IsTag a sort n (length a.tags) → ⊥
  no_tag sort n t = omega (arith, get_within a.tags t.found (length a.tags) t.here)

  no_kind : (sort : Bool) (n : ℕ) → IsMade a n (tag_kind sort (length a.tags)) → ⊥
  no_kind true n made = no_tag true n made
  no_kind false n made = no_tag false n made

  pub tag_absent : (n : ℕ) → kind_of a n ≢ Some (tag_kind union_tag (length a.tags))
  tag_absent n is = no_kind union_tag n (base.made n (tag_kind union_tag (length a.tags)) is)

  pub tags_kept : (tag : ℕ) (found : Tag) → slice_get a.tags tag ≡ Some found → slice_get (a.tags ++ new_tag ∷ []) tag ≡ Some found
  tags_kept tag found at = get_kept a.tags (new_tag ∷ []) found tag at

  pub tag_is_later : IsLater a with_tag
  tag_is_later = later a order base (tag_kind union_tag (length a.tags)) tag_absent (a.tags ++ new_tag ∷ []) tags_kept

  is_tag : IsTag with_tag union_tag (suc (length a.kinds)) (length a.tags)
  is_tag = record { found = new_tag; here = get_last a.tags new_tag; sort = refl; complete = λ some. absurd (some refl); parts = λ f c. absurd (omega (arith, c.1)) }

  is_made : (sort : Bool) (n tag : ℕ) → IsTag with_tag sort n tag → IsMade with_tag n (tag_kind sort tag)
  is_made true n tag t = t
  is_made false n tag t = t

  unknown : (sort : Bool) (tag : ℕ) → fields_of (a.tags ++ new_tag ∷ []) tag ≡ [] → is_known (a.tags ++ new_tag ∷ []) (tag_kind sort tag) ≡ false
  unknown true tag empty = ap has_fields empty
  unknown false tag empty = ap has_fields empty

  pub tag_base : IsBase with_tag order
  tag_base = record {
    rest = base.rest ++ tag_kind union_tag (length a.tags) ∷ [];
    begins = begins a order base (tag_kind union_tag (length a.tags)) tag_absent (a.tags ++ new_tag ∷ []) tags_kept base.rest base.begins;
    one_number = one_number a order base (tag_kind union_tag (length a.tags)) tag_absent (a.tags ++ new_tag ∷ []) tags_kept;
    tags = λ tag found at. ⊎_elim
        (λ (old : slice_get a.tags tag ≡ Some found).
        let n : (n : ℕ) × (kind_of a n ≡ Some (tag_kind found.union_tag tag)) = base.tags tag found old in
        (n.0, kind_kept a.kinds (tag_kind union_tag (length a.tags) ∷ []) n.0 (tag_kind found.union_tag tag) n.1))
        (λ (new : (tag ≡ length a.tags) × (found ≡ new_tag)). (
          suc (length a.kinds),
          kind_last a.kinds (tag_kind union_tag (length a.tags)) ∙
              ap₂ (λ (t : Tag) (m : ℕ). Some (tag_kind t.union_tag m)) (sym new.1) (sym new.0),
        ))
        (get_push a.tags new_tag found tag at);
    made = made_by a order base (tag_kind union_tag (length a.tags)) tag_absent (a.tags ++ new_tag ∷ []) tags_kept
        (is_made union_tag (suc (length a.kinds)) (length a.tags) is_tag);
    ordered = ordered_later a with_tag order base tag_is_later;
    known = λ n x is it. ⊎_elim
        (λ (old : kind_of a n ≡ Some x). base.known n x old
        (sym (known_same a order base (tag_kind union_tag (length a.tags)) tag_absent (a.tags ++ new_tag ∷ []) tags_kept n x (base.made n x old)) ∙ it))
        (λ (new : (n ≡ suc (length a.kinds)) × (x ≡ tag_kind union_tag (length a.tags))).
        absurd (true≢false (sym it ∙ (ap (is_known (a.tags ++ new_tag ∷ [])) new.1 ∙
        unknown union_tag (length a.tags) (ap fields_by (get_last a.tags new_tag))))))
        (kind_push a.kinds (tag_kind union_tag (length a.tags)) x n is);
    count =
        let more : unknown_tags (a.tags ++ new_tag ∷ []) ≡ suc (unknown_tags a.tags) = unknown_push a.tags new_tag refl in
        rw (length-append) (omega (arith, base.count, more));
    few_tags = rw (length-append, length-append) (omega (arith, base.few_tags));
  }

  pub tag_tree : (n : ℕ) (x : CType) → kind_of a n ≡ Some x → shape_of with_tag n ≡ shape_of a n
  tag_tree = tree_same a order base (tag_kind union_tag (length a.tags)) tag_absent (a.tags ++ new_tag ∷ []) tags_kept order tag_base
