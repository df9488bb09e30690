-- What is kept beside the types: rows and members.
use Rattle.std.proofs.Common.{◌≡◌, ◌≢◌, ◌⊎◌, ℕ, zero, suc, ◌+◌, ◌-◌, ◌≤◌, List, [], ◌∷◌, ◌++◌, length, map, Some, None, sym, ap, ap₂, ◌∙◌, refl, arith, subst, inl, inr, ⊎_elim, length-append, Contains, IsTrue, IsFalse, true, false, slice_get, slice_set, Bool, Option, true≢false, sub-one}
use Rattle.std.proofs.lemmas.List.{length-set}
use Rattle.c_types.specs.declared.kinds.CType.{CType}
use Rattle.c_types.specs.declared.kinds.CType.TheVariants.{Void, Num, Pointer, Array, Flexible, Struct, Union}
use Rattle.c_types.specs.declared.kinds.Field.{Field}
use Rattle.c_types.specs.declared.kinds.Member.{Member}
use Rattle.c_types.specs.declared.rows.TypeRow.{TypeRow}
use Rattle.c_types.specs.declared.table.TagRow.{TagRow}
use Rattle.c_types.specs.Shapes.{Shape}
use Rattle.c_types.specs.Shapes as s
use Rattle.c_types.specs.Table.{Types, Tag, kind_in, kind_of, fields_by, fields_of, members_of_fields, shape_of, shape_of_kind, struct_members, union_members, members, members_by, tagged, IsNumber}
use Rattle.c_types.specs.Adding.{added_tag, members_fault, tag_kind, whole_of}
use Rattle.c_types.specs.Holds.{IsMade, IsTag, IsLater}
use Rattle.c_types.specs.Rows.{IsBase, IsKept, IsLaid, IsPlain, IsSmall, row_of, field_of, tag_of_row, types_of, members_as}
use Rattle.c_types.proofs.Lists.{get_push, get_kept, get_last, get_within, get_set, set_here, set_other, kind_push, kind_last}
use Rattle.c_types.proofs.Later.{kind_kept, number_of_kind}
use Rattle.c_types.proofs.Faults.{OfMembers, members_fit}
use Rattle.c_types.proofs.Based.{kind_of_number, tree_is, step_any, small_any}
use Rattle.c_types.proofs.Changes.{fields_known, tree_kept, offsets_alike}
use Rattle.c_types.proofs.Pushes.{kind_base, kind_tree, kind_is_later, tag_base, tag_tree, tag_is_later, tag_absent}
use Rattle.c_types.proofs.Ordered.{members_alike as fields_alike}
use Rattle.c_types.proofs.Completed.{filled_base, filled_tree, some, now_fields}
use Rattle.c_types.proofs.Completed as done

-- ---- tags as rows

tags_map : (tags : List TagRow) (more : TagRow) → map tag_of_row (tags ++ more ∷ []) ≡ map tag_of_row tags ++ tag_of_row more ∷ []
tags_map [] more = refl
tags_map (t ∷ tags) more = ap (λ ts. tag_of_row t ∷ ts) (tags_map tags more)

pub tags_set : (tags : List TagRow) (p : ℕ) (row : TagRow) → map tag_of_row (slice_set tags p row) ≡ slice_set (map tag_of_row tags) p (tag_of_row row)
tags_set [] p row = refl
tags_set (t ∷ tags) zero row = refl
tags_set (t ∷ tags) (suc p) row = ap (λ ts. tag_of_row t ∷ ts) (tags_set tags p row)

pub tag_row : (tags : List TagRow) (p : ℕ) (row : TagRow) → slice_get tags p ≡ Some row → slice_get (map tag_of_row tags) p ≡ Some (tag_of_row row)
tag_row [] p row e = cc
tag_row (t ∷ tags) zero row e = ap (λ x. Some (tag_of_row x)) cc
tag_row (t ∷ tags) (suc p) row e = tag_row tags p row e

pub length_tags : (tags : List TagRow) → length (map tag_of_row tags) ≡ length tags
length_tags [] = refl
length_tags (t ∷ tags) = ap suc (length_tags tags)

-- ---- members of the same fields

members_of_kind : (a : Types) (n : ℕ) (kind : CType) → kind_of a n ≡ Some kind → members a n ≡ members_by a.tags (shape_of a) (Some kind)
unfolding members
members_of_kind a n kind is = ap (members_by a.tags (shape_of a)) is

-- Fields of a tag have the same members in two tables that give their types the same trees.
by_sort : (sort : Bool) (tags : List Tag) (f : ℕ → Shape) (tag : ℕ) → members_by tags f (Some (tag_kind sort tag)) ≡ members_as sort f (fields_of tags tag)
by_sort true tags f tag = refl
by_sort false tags f tag = refl

pub members_alike : (sort : Bool) (f g : ℕ → Shape) (fields : List Field) → ((x : Field) → Contains fields x → f x.kind ≡ g x.kind) →
    members_as sort f fields ≡ members_as sort g fields
members_alike true f g fields same = refl
members_alike false f g fields same = offsets_alike f g 0 fields same

tag_of_made : (a : Types) (sort : Bool) (n tag : ℕ) → IsMade a n (tag_kind sort tag) → IsTag a sort n tag
tag_of_made a true n tag made = made
tag_of_made a false n tag made = made

module _ (a : Types) (order : List ℕ) (base : IsBase a order) where
  -- the fields of each tag are known
  known_by : (sort : Bool) (n : ℕ) (fields : List Field) → (fields ≢ [] → members_fault (shape_of a) sort n fields ≡ None) →
      ((f : Field) → Contains fields f → IsNumber a f.kind) → (f : Field) → Contains fields f → Contains order f.kind
  known_by sort n [] fits parts f c = absurd (omega (arith, c.1))
  known_by sort n (x ∷ fields) fits parts f c = fields_known a order base sort n (x ∷ fields) (fits (λ e. cc)) parts f c

  pub tag_fields_known : (sort : Bool) (n tag : ℕ) → kind_of a n ≡ Some (tag_kind sort tag) → (f : Field) → Contains (fields_of a.tags tag) f →
      Contains order f.kind
  tag_fields_known sort n tag is f c =
      let t : IsTag a sort n tag = tag_of_made a sort n tag (base.made n (tag_kind sort tag) is) in
      let same : fields_of a.tags tag ≡ t.found.fields = ap fields_by t.here in
      known_by sort n t.found.fields t.complete t.parts f (subst (λ fs. Contains fs f) same c)

  pub members_are : (sort : Bool) (n tag : ℕ) → kind_of a n ≡ Some (tag_kind sort tag) → members a n ≡ members_as sort (shape_of a) (fields_of a.tags tag)
  members_are sort n tag is = members_of_kind a n (tag_kind sort tag) is ∙ by_sort sort a.tags (shape_of a) tag

  -- a tag that keeps its fields keeps its members
  pub members_same : (b : Types) → IsLater a b → (sort : Bool) (n tag : ℕ) → kind_of a n ≡ Some (tag_kind sort tag) →
      kind_of b n ≡ Some (tag_kind sort tag) → fields_of b.tags tag ≡ fields_of a.tags tag → members b n ≡ members a n
  members_same b later sort n tag is_a is_b same =
      ((members_of_kind b n (tag_kind sort tag) is_b ∙ by_sort sort b.tags (shape_of b) tag) ∙
      (ap (members_as sort (shape_of b)) same ∙
      members_alike sort (shape_of b) (shape_of a) (fields_of a.tags tag)
      (λ f c. tree_kept a b order base later f.kind (tag_fields_known sort n tag is_a f c)))) ∙
      sym (members_are sort n tag is_a)

-- ---- a type more

module _ (kinds : List CType) (rows : List TypeRow) (tags : List TagRow) (order : List ℕ) (kept : IsKept kinds rows tags order)
    (kind : CType) (row : TypeRow) (absent : (n : ℕ) → kind_in kinds n ≢ Some kind) (plain : IsPlain kind)
    (made : IsMade (types_of kinds tags) (suc (length kinds)) kind)
    (is : row ≡ row_of (shape_of_kind (map tag_of_row tags) (shape_of (types_of kinds tags)) (suc (length kinds)) (Some kind))) where
  abbrev old : Types
  old = types_of kinds tags

  abbrev new : Types
  new = types_of (kinds ++ kind ∷ []) tags

  base' : IsBase new (order ++ suc (length kinds) ∷ [])
  base' = kind_base old order kept.base kind absent plain made

  pub plain_later : IsLater old new
  plain_later = kind_is_later old order kept.base kind absent plain made

  tree : (n : ℕ) (x : CType) → kind_in kinds n ≡ Some x → shape_of new n ≡ shape_of old n
  tree = kind_tree old order kept.base kind absent plain made

  kind_here : (p : ℕ) → suc p ≤ length kinds → (x : CType) × (kind_in kinds (suc p) ≡ Some x)
  kind_here p in_it = kind_of_number old (suc p) (omega arith, in_it)

  -- what the new type is made of has the same tree as before
  parts_same : (x : CType) → IsPlain x → IsMade old (suc (length kinds)) x →
      shape_of_kind (map tag_of_row tags) (shape_of new) (suc (length kinds)) (Some x) ≡
      shape_of_kind (map tag_of_row tags) (shape_of old) (suc (length kinds)) (Some x)
  parts_same Void p m = refl
  parts_same (Num width signed) p m = refl
  parts_same (Pointer to) p m = refl
  parts_same (Array of count) p m =
      let k : (x : CType) × (kind_in kinds of ≡ Some x) = kind_of_number old of m.0 in
      ap (λ shape. s.Array (suc (length kinds)) shape count) (tree of k.0 k.1)
  parts_same (Flexible of) p m =
      let k : (x : CType) × (kind_in kinds of ≡ Some x) = kind_of_number old of m.0 in
      ap (λ shape. s.Open (suc (length kinds)) shape) (tree of k.0 k.1)
  parts_same (Struct tag) p m = absurd p
  parts_same (Union tag) p m = absurd p

  row_last : row ≡ row_of (shape_of new (suc (length kinds)))
  row_last = is ∙ ap row_of (sym (parts_same kind plain made) ∙
      sym (tree_is new (order ++ suc (length kinds) ∷ []) base' (suc (length kinds)) kind (kind_last kinds kind)))

  pub keeps_plain : IsKept (kinds ++ kind ∷ []) (rows ++ row ∷ []) tags (order ++ suc (length kinds) ∷ [])
  keeps_plain = record {
    base = base';
    rows_length = rw (length-append, length-append) (ap (λ n. n + 1) kept.rows_length);
    rows_right = λ place r at. ⊎_elim
        (λ (before : slice_get rows place ≡ Some r).
        let k : (x : CType) × (kind_in kinds (suc place) ≡ Some x) =
        kind_here place (omega (arith, get_within rows r place before, kept.rows_length)) in
        kept.rows_right place r before ∙ ap row_of (sym (tree (suc place) k.0 k.1)))
        (λ (last : (place ≡ length rows) × (r ≡ row)).
        last.1 ∙ (row_last ∙ ap (λ n. row_of (shape_of new (suc n))) (sym (last.0 ∙ kept.rows_length))))
        (get_push rows row r place at);
    members_right = λ n tag r at is_n. ⊎_elim
        (λ (before : kind_in kinds n ≡ Some (tag_kind r.union_tag tag)).
        kept.members_right n tag r at before ∙
        sym (members_same old order kept.base new plain_later r.union_tag n tag before is_n refl))
        (λ (last : (n ≡ suc (length kinds)) × (tag_kind r.union_tag tag ≡ kind)).
        absurd (no_tag r.union_tag tag (subst IsPlain (sym last.1) plain)))
        (kind_push kinds kind (tag_kind r.union_tag tag) n is_n);
  }
    where
      no_tag : (sort : Bool) (tag : ℕ) → IsPlain (tag_kind sort tag) → ⊥
      no_tag true tag p = p
      no_tag false tag p = p

-- ---- a tag more

module _ (kinds : List CType) (rows : List TypeRow) (tags : List TagRow) (order : List ℕ) (kept : IsKept kinds rows tags order)
    (row : TagRow) (empty : row.members ≡ []) (unknown : TypeRow) (is : unknown ≡ row_of (s.Incomplete (suc (length kinds)))) where
  abbrev before_tag : Types
  before_tag = types_of kinds tags

  abbrev pub after_tag : Types
  after_tag = record {
    kinds = kinds ++ tag_kind row.union_tag (length (map tag_of_row tags)) ∷ [];
    tags = map tag_of_row tags ++ record { union_tag = row.union_tag; name = row.name; fields = [] } ∷ [];
  }

  pub added_is : (suc (length kinds), after_tag) ≡ added_tag row.union_tag row.name before_tag
  unfolding added_tag
  added_is = refl

  tag_same : tag_of_row row ≡ record { union_tag = row.union_tag; name = row.name; fields = [] }
  tag_same = ap (λ ms. record { union_tag = row.union_tag; name = row.name; fields = map field_of ms }) empty

  pub tags_are : map tag_of_row (tags ++ row ∷ []) ≡ after_tag.tags
  tags_are = tags_map tags row ∙ ap (λ t. map tag_of_row tags ++ t ∷ []) tag_same

  pub kinds_are : kinds ++ tag_kind row.union_tag (length tags) ∷ [] ≡ after_tag.kinds
  kinds_are = ap (λ n. kinds ++ tag_kind row.union_tag n ∷ []) (sym (length_tags tags))

  pub types_are : types_of (kinds ++ tag_kind row.union_tag (length tags) ∷ []) (tags ++ row ∷ []) ≡ after_tag
  types_are = ap₂ (λ (ks : List CType) (ts : List Tag). record { kinds = ks; tags = ts }) kinds_are tags_are

  pub tag_later : IsLater before_tag after_tag
  tag_later = tag_is_later before_tag order kept.base row.union_tag row.name

  base_tag : IsBase after_tag order
  base_tag = tag_base before_tag order kept.base row.union_tag row.name

  tree_tag : (n : ℕ) (x : CType) → kind_in kinds n ≡ Some x → shape_of after_tag n ≡ shape_of before_tag n
  tree_tag = tag_tree before_tag order kept.base row.union_tag row.name

  new_kind : kind_of after_tag (suc (length kinds)) ≡ Some (tag_kind row.union_tag (length (map tag_of_row tags)))
  new_kind = kind_last kinds (tag_kind row.union_tag (length (map tag_of_row tags)))

  no_tree : (sort : Bool) (n tag : ℕ) (f : ℕ → Shape) (ts : List Tag) → fields_of ts tag ≡ [] →
      shape_of_kind ts f n (Some (tag_kind sort tag)) ≡ s.Incomplete n
  no_tree true n tag f ts none = ap (tagged (s.Union n) f n) none
  no_tree false n tag f ts none = ap (tagged (s.Struct n) f n) none

  no_fields : fields_of after_tag.tags (length (map tag_of_row tags)) ≡ []
  no_fields = ap fields_by (get_last (map tag_of_row tags) (record { union_tag = row.union_tag; name = row.name; fields = [] }))

  tree_new : shape_of after_tag (suc (length kinds)) ≡ s.Incomplete (suc (length kinds))
  tree_new =
      tree_is after_tag order base_tag (suc (length kinds)) (tag_kind row.union_tag (length (map tag_of_row tags))) new_kind ∙
      no_tree row.union_tag (suc (length kinds)) (length (map tag_of_row tags)) (shape_of after_tag) after_tag.tags no_fields

  members_new : (n tag : ℕ) → kind_of after_tag n ≡ Some (tag_kind row.union_tag tag) → fields_of after_tag.tags tag ≡ [] →
      row.members ≡ members after_tag n
  members_new n tag is_n none =
      empty ∙ (sym (members_none row.union_tag (shape_of after_tag)) ∙
      (ap (members_as row.union_tag (shape_of after_tag)) (sym none) ∙ sym (members_are after_tag order base_tag row.union_tag n tag is_n)))
    where
      members_none : (sort : Bool) (f : ℕ → Shape) → members_as sort f [] ≡ []
      members_none true f = refl
      members_none false f = refl

  kept_tag : (tag : ℕ) (r : TagRow) → slice_get tags tag ≡ Some r → fields_of after_tag.tags tag ≡ fields_of before_tag.tags tag
  kept_tag tag r at =
      let old : slice_get (map tag_of_row tags) tag ≡ Some (tag_of_row r) = tag_row tags tag r at in
      ap fields_by (get_kept (map tag_of_row tags) (record { union_tag = row.union_tag; name = row.name; fields = [] } ∷ []) (tag_of_row r) tag old ∙ sym old)

  old_kind : (sort : Bool) (n tag : ℕ) → tag ≢ length (map tag_of_row tags) → kind_of after_tag n ≡ Some (tag_kind sort tag) →
      kind_in kinds n ≡ Some (tag_kind sort tag)
  old_kind sort n tag other is_n = ⊎_elim (λ e. e)
      (λ (last : (n ≡ suc (length kinds)) × (tag_kind sort tag ≡ tag_kind row.union_tag (length (map tag_of_row tags)))).
      absurd (other (same_tag sort row.union_tag tag (length (map tag_of_row tags)) last.1)))
      (kind_push kinds (tag_kind row.union_tag (length (map tag_of_row tags))) (tag_kind sort tag) n is_n)
    where
      same_tag : (a b : Bool) (m n : ℕ) → tag_kind a m ≡ tag_kind b n → m ≡ n
      same_tag true true m n e = cc
      same_tag true false m n e = cc
      same_tag false true m n e = cc
      same_tag false false m n e = cc

  kept_after : IsKept after_tag.kinds (rows ++ unknown ∷ []) (tags ++ row ∷ []) order → IsKept (kinds ++ tag_kind row.union_tag (length tags) ∷ []) (rows ++ unknown ∷ []) (tags ++ row ∷ []) order
  kept_after k = subst (λ ks. IsKept ks (rows ++ unknown ∷ []) (tags ++ row ∷ []) order) (sym kinds_are) k

  types_after : types_of after_tag.kinds (tags ++ row ∷ []) ≡ after_tag
  types_after = ap (λ (ts : List Tag). record { kinds = after_tag.kinds; tags = ts }) tags_are

  pub keeps_tag : IsKept (kinds ++ tag_kind row.union_tag (length tags) ∷ []) (rows ++ unknown ∷ []) (tags ++ row ∷ []) order
  keeps_tag = kept_after (record {
    base = subst (λ t. IsBase t order) (sym types_after) base_tag;
    rows_length = rw (length-append, length-append) (ap (λ n. n + 1) kept.rows_length);
    rows_right = λ place r at. subst (λ t. r ≡ row_of (shape_of t (suc place))) (sym types_after) (⊎_elim
        (λ (before : slice_get rows place ≡ Some r).
        let k : (x : CType) × (kind_in kinds (suc place) ≡ Some x) =
        kind_of_number before_tag (suc place) (omega arith, omega (arith, get_within rows r place before, kept.rows_length)) in
        kept.rows_right place r before ∙ ap row_of (sym (tree_tag (suc place) k.0 k.1)))
        (λ (last : (place ≡ length rows) × (r ≡ unknown)).
        last.1 ∙ (is ∙ (ap row_of (sym tree_new) ∙ ap (λ n. row_of (shape_of after_tag (suc n))) (sym (last.0 ∙ kept.rows_length)))))
        (get_push rows unknown r place at));
    members_right = λ n tag r at is_n.
        let is_n' : kind_of after_tag n ≡ Some (tag_kind r.union_tag tag) = is_n in
        subst (λ t. r.members ≡ members t n) (sym types_after) (⊎_elim
        (λ (before : slice_get tags tag ≡ Some r).
        let old : kind_in kinds n ≡ Some (tag_kind r.union_tag tag) =
        old_kind r.union_tag n tag (λ e. omega (arith, e, get_within tags r tag before, length_tags tags)) is_n' in
        kept.members_right n tag r before old ∙
        sym (members_same before_tag order kept.base after_tag tag_later r.union_tag n tag old is_n' (kept_tag tag r before)))
        (λ (last : (tag ≡ length tags) × (r ≡ row)).
        subst (λ x. x.members ≡ members after_tag n) (sym last.1)
        (members_new n tag (subst (λ x. kind_of after_tag n ≡ Some (tag_kind x.union_tag tag)) last.1 is_n')
        (ap (fields_of after_tag.tags) (last.0 ∙ sym (length_tags tags)) ∙ no_fields)))
        (get_push tags row r tag at));
  })

-- ---- a tag completed

module _ (kinds : List CType) (rows : List TypeRow) (tags : List TagRow) (order : List ℕ) (kept : IsKept kinds rows tags order)
    (n tag : ℕ) (sort : Bool) (row : TagRow) (members' : List Member) (row' : TypeRow)
    (is : kind_in kinds n ≡ Some (tag_kind sort tag)) (at : slice_get tags tag ≡ Some row)
    (unfilled : fields_of (map tag_of_row tags) tag ≡ [])
    (parts : (f : Field) → Contains (map field_of members') f → IsNumber (types_of kinds tags) f.kind)
    (fits : members_fault (shape_of (types_of kinds tags)) sort n (map field_of members') ≡ None)
    (laid : members' ≡ members_as sort (shape_of (types_of kinds tags)) (map field_of members'))
    (right : row' ≡ row_of (whole_of sort n (members_of_fields (shape_of (types_of kinds tags)) (map field_of members')))) where
  abbrev unfilled_types : Types
  unfilled_types = types_of kinds tags

  abbrev fields' : List Field
  fields' = map field_of members'

  abbrev new_row : TagRow
  new_row = record { union_tag = row.union_tag; name = row.name; members = members' }

  pub tag_at : slice_get (map tag_of_row tags) tag ≡ Some (tag_of_row row)
  tag_at = tag_row tags tag row at

  abbrev pub filled_types : Types
  filled_types = done.filled_in unfilled_types order kept.base sort n tag (tag_of_row row) fields' is tag_at unfilled parts fits

  base_filled : IsBase filled_types (order ++ n ∷ [])
  base_filled = filled_base unfilled_types order kept.base sort n tag (tag_of_row row) fields' is tag_at unfilled parts fits

  pub filled_later : IsLater unfilled_types filled_types
  filled_later = done.later unfilled_types order kept.base sort n tag (tag_of_row row) fields' is tag_at unfilled parts fits

  tree_filled : (m : ℕ) (x : CType) → kind_in kinds m ≡ Some x → m ≢ n → shape_of filled_types m ≡ shape_of unfilled_types m
  tree_filled = filled_tree unfilled_types order kept.base sort n tag (tag_of_row row) fields' is tag_at unfilled parts fits

  now : fields_of filled_types.tags tag ≡ fields'
  now = now_fields unfilled_types order kept.base sort n tag (tag_of_row row) fields' is tag_at unfilled parts fits

  some_fields : fields' ≢ []
  some_fields = some unfilled_types order kept.base sort n tag (tag_of_row row) fields' is tag_at unfilled parts fits

  pub filled_are : types_of kinds (slice_set tags tag new_row) ≡ filled_types
  filled_are = ap (λ (ts : List Tag). record { kinds = kinds; tags = ts }) (tags_set tags tag new_row)

  -- the fields of the tag have the same trees as before
  fields_same : (f : Field) → Contains fields' f → shape_of filled_types f.kind ≡ shape_of unfilled_types f.kind
  fields_same f c = tree_kept unfilled_types filled_types order kept.base filled_later f.kind
      (fields_known unfilled_types order kept.base sort n fields' fits parts f c)

  tree_by : (b : Bool) (f : ℕ → Shape) (ts : List Tag) (fields : List Field) → fields ≢ [] → fields_of ts tag ≡ fields →
      shape_of_kind ts f n (Some (tag_kind b tag)) ≡ whole_of b n (members_of_fields f fields)
  tree_by b f ts [] full e = absurd (full refl)
  tree_by true f ts (x ∷ fields) full e = ap (tagged (s.Union n) f n) e
  tree_by false f ts (x ∷ fields) full e = ap (tagged (s.Struct n) f n) e

  tree_now : shape_of filled_types n ≡ whole_of sort n (members_of_fields (shape_of unfilled_types) fields')
  tree_now =
      tree_is filled_types (order ++ n ∷ []) base_filled n (tag_kind sort tag) is ∙
      (tree_by sort (shape_of filled_types) filled_types.tags fields' some_fields now ∙
      ap (whole_of sort n) (fields_alike (shape_of filled_types) (shape_of unfilled_types) fields' fields_same))

  members_now : members' ≡ members filled_types n
  members_now =
      laid ∙ (sym (members_alike sort (shape_of filled_types) (shape_of unfilled_types) fields' fields_same) ∙
      (ap (members_as sort (shape_of filled_types)) (sym now) ∙
      sym (members_are filled_types (order ++ n ∷ []) base_filled sort n tag is)))

  kind_rows : (place : ℕ) (r : TypeRow) → slice_get rows place ≡ Some r → (x : CType) × (kind_in kinds (suc place) ≡ Some x)
  kind_rows place r e = kind_of_number unfilled_types (suc place) (omega arith, omega (arith, get_within rows r place e, kept.rows_length))

  n_some : 1 ≤ n
  n_some = by_n n is
    where
      by_n : (m : ℕ) → kind_in kinds m ≡ Some (tag_kind sort tag) → 1 ≤ m
      by_n zero e = cc
      by_n (suc m) e = omega arith

  one_tag : (b : Bool) (m t : ℕ) → kind_in kinds m ≡ Some (tag_kind b t) → t ≡ tag → (b ≡ sort) × (m ≡ n)
  one_tag b m t is_m same =
      let is_m' : kind_in kinds m ≡ Some (tag_kind b tag) = subst (λ x. kind_in kinds m ≡ Some (tag_kind b x)) same is_m in (
        done.one_sort unfilled_types order kept.base sort n tag (tag_of_row row) fields' is tag_at unfilled parts fits b m is_m',
        done.one_number unfilled_types order kept.base sort n tag (tag_of_row row) fields' is tag_at unfilled parts fits b m is_m',
      )

  pub keeps_filled : IsKept kinds (slice_set rows (n - 1) row') (slice_set tags tag new_row) (order ++ n ∷ [])
  keeps_filled = record {
    base = subst (λ t. IsBase t (order ++ n ∷ [])) (sym filled_are) base_filled;
    rows_length = length-set rows (n - 1) row' ∙ kept.rows_length;
    rows_right = λ place r e. subst (λ t. r ≡ row_of (shape_of t (suc place))) (sym filled_are) (⊎_elim
        (λ (here : (place ≡ n - 1) × (r ≡ row')).
        here.1 ∙ (right ∙ (ap row_of (sym tree_now) ∙
        ap (λ m. row_of (shape_of filled_types m)) (omega (arith, here.0, n_some)))))
        (λ (other : (place ≢ n - 1) × (slice_get rows place ≡ Some r)).
        let k : (x : CType) × (kind_in kinds (suc place) ≡ Some x) = kind_rows place r other.1 in
        kept.rows_right place r other.1 ∙
        ap row_of (sym (tree_filled (suc place) k.0 k.1 (λ e. other.0 (omega (arith, e))))))
        (get_set rows (n - 1) place row' r e));
    members_right = λ m t r e is_m. subst (λ x. r.members ≡ members x m) (sym filled_are) (⊎_elim
        (λ (here : (t ≡ tag) × (r ≡ new_row)).
        subst (λ (x : TagRow). x.members ≡ members filled_types m) (sym here.1)
        (subst (λ x. members' ≡ members filled_types x) (sym (one_tag r.union_tag m t is_m here.0).1) members_now))
        (λ (other : (t ≢ tag) × (slice_get tags t ≡ Some r)).
        kept.members_right m t r other.1 is_m ∙
        sym (members_same unfilled_types order kept.base filled_types filled_later r.union_tag m t is_m is_m
        (ap fields_by (set_other (map tag_of_row tags) tag t (tag_of_row new_row) other.0))))
        (get_set tags tag t new_row r e));
  }

-- ---- rows that are read

module _ (kinds : List CType) (rows : List TypeRow) (tags : List TagRow) (order : List ℕ) (kept : IsKept kinds rows tags order) where
  pub row_small : (place : ℕ) (row : TypeRow) → slice_get rows place ≡ Some row → IsSmall row
  row_small place row at =
      let is : row ≡ row_of (shape_of (types_of kinds tags) (suc place)) = kept.rows_right place row at in
      subst IsSmall (sym is) (
        (step_any (types_of kinds tags) order kept.base (suc place)).0,
        (step_any (types_of kinds tags) order kept.base (suc place)).1,
        small_any (types_of kinds tags) order kept.base (suc place),
      )

  pub tag_within : (sort : Bool) (n tag : ℕ) → kind_in kinds n ≡ Some (tag_kind sort tag) → suc tag ≤ length tags
  tag_within sort n tag is =
      let t : IsTag (types_of kinds tags) sort n tag = tag_of_made (types_of kinds tags) sort n tag (kept.base.made n (tag_kind sort tag) is) in
      omega (arith, get_within (map tag_of_row tags) t.found tag t.here, length_tags tags)

  pub members_read : (sort : Bool) (n tag : ℕ) (row : TagRow) → kind_in kinds n ≡ Some (tag_kind sort tag) → slice_get tags tag ≡ Some row →
      row.members ≡ members (types_of kinds tags) n
  members_read sort n tag row is at =
      let t : IsTag (types_of kinds tags) sort n tag = tag_of_made (types_of kinds tags) sort n tag (kept.base.made n (tag_kind sort tag) is) in
      let here : slice_get (map tag_of_row tags) tag ≡ Some t.found = t.here in
      let here' : slice_get (map tag_of_row tags) tag ≡ Some (tag_of_row row) = tag_row tags tag row at in
      let one : tag_of_row row ≡ t.found = cc in
      kept.members_right n tag row at
      (subst (λ b. kind_in kinds n ≡ Some (tag_kind b tag)) (sym (ap (λ (x : Tag). x.union_tag) one ∙ t.sort)) is)
