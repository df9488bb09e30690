-- What a table keeps when it becomes a later one.
use Rattle.std.proofs.Common.{◌≡◌, ◌≢◌, ◌⊎◌, ℕ, zero, suc, ◌+◌, ◌≤◌, List, [], ◌∷◌, ◌++◌, length, Some, None, sym, ap, ap₂, ◌∙◌, refl, arith, subst, inl, inr, ⊎_elim, length-append, Contains, IsTrue, IsFalse, true, false, slice_get, Bool, Option, true≢false, not, ◌||◌, nat_lt}
use Rattle.std.proofs.lemmas.List.Elements.{Contains-append_left, Contains-push}
use Rattle.c_types.specs.declared.kinds.CType.{CType}
use Rattle.c_types.specs.declared.kinds.CType.TheVariants.{Void, Num, Pointer, Array, Flexible, Struct, Union}
use Rattle.c_types.specs.declared.kinds.Field.{Field}
use Rattle.c_types.specs.declared.kinds.Member.{Member}
use Rattle.c_types.specs.declared.kinds.TypeError.{TypeError}
use Rattle.c_types.specs.declared.kinds.TypeError.TheVariants as e
use Rattle.c_types.specs.Shapes.{Shape, Members, is_complete, is_flexible, is_open, is_unknown, size, next_offset}
use Rattle.c_types.specs.Shapes as s
use Rattle.c_types.specs.Table.{Types, Tag, kind_in, kind_of, fields_by, fields_of, members_of_fields, shape_of_kind, shape_of, struct_members, IsNumber}
use Rattle.c_types.specs.Adding.{array_fault, open_fault, members_fault, first_of, has_two_of_a_name, is_empty, misplaced, shapes, any, is_unsized, whole_of, tag_kind, largest}
use Rattle.c_types.specs.Holds.{IsMade, IsTag, IsLater, IsLaterTag, IsOrdered, IsAfter, AreAfter}
use Rattle.c_types.specs.Holds.IsOrdered.{none, next}
use Rattle.c_types.specs.Rows.{IsBase, has_fields, is_known}
use Rattle.c_types.proofs.Ordered.{here, there, AgreesOn, members_alike}
use Rattle.c_types.proofs.Later.{later_agrees, longer, trees_kept, number_of_kind}
use Rattle.c_types.proofs.Faults.{or_left, or_right, not_false, OfArray, array_fits, open_fits, OfMembers, members_fit}
use Rattle.c_types.proofs.Based.{few, has_trees, tree_is, known_number, unknown_tree}

-- ---- parts are known

complete_known : (shape : Shape) → IsTrue (is_complete shape) → IsFalse (is_unknown shape)
complete_known (s.Void n) it = refl
complete_known (s.Whole n width signed) it = refl
complete_known (s.Pointer n to) it = refl
complete_known (s.Array n of count) it = refl
complete_known (s.Open n of) it = refl
complete_known (s.Struct n members) it = refl
complete_known (s.Union n members) it = refl
complete_known (s.Incomplete n) it = absurd (true≢false (sym it))

sized_known : (shape : Shape) → IsFalse (is_unsized shape) → IsFalse (is_unknown shape)
sized_known (s.Void n) it = refl
sized_known (s.Whole n width signed) it = refl
sized_known (s.Pointer n to) it = refl
sized_known (s.Array n of count) it = refl
sized_known (s.Open n of) it = refl
sized_known (s.Struct n members) it = refl
sized_known (s.Union n members) it = refl
sized_known (s.Incomplete n) it = absurd (true≢false it)

each_sized : (shape : ℕ → Shape) (fields : List Field) → any is_unsized (shapes shape fields) ≡ false → (f : Field) → Contains fields f →
    IsFalse (is_unsized (shape f.kind))
each_sized shape [] sized f c = absurd (omega (arith, c.1))
each_sized shape (x ∷ fields) sized f (zero, within, same) = subst (λ y. IsFalse (is_unsized (shape y.kind))) same (or_left _ _ sized)
each_sized shape (x ∷ fields) sized f (suc k, within, same) =
    each_sized shape fields (or_right _ _ sized) f (k, omega (arith, within), same)

module _ (a : Types) (order : List ℕ) (base : IsBase a order) where
  pub element_known : (of count : ℕ) → IsNumber a of → array_fault (shape_of a of) count ≡ None → Contains order of
  element_known of count num fits =
      known_number a order base of num (complete_known (shape_of a of) (array_fits (shape_of a of) count fits).complete)

  pub open_element_known : (of : ℕ) → IsNumber a of → open_fault (shape_of a of) ≡ None → Contains order of
  open_element_known of num fits =
      known_number a order base of num (complete_known (shape_of a of) (open_fits (shape_of a of) fits).1)

  pub fields_known : (union_tag : Bool) (n : ℕ) (fields : List Field) → members_fault (shape_of a) union_tag n fields ≡ None →
      ((f : Field) → Contains fields f → IsNumber a f.kind) → (f : Field) → Contains fields f → Contains order f.kind
  fields_known union_tag n fields fits parts f c =
      known_number a order base f.kind (parts f c)
      (sized_known (shape_of a f.kind) (each_sized (shape_of a) fields (members_fit (shape_of a) union_tag n fields fits).sized f c))

-- ---- fields over trees that are alike

shapes_alike : (f g : ℕ → Shape) (fields : List Field) → ((x : Field) → Contains fields x → f x.kind ≡ g x.kind) →
    shapes f fields ≡ shapes g fields
shapes_alike f g [] same = refl
shapes_alike f g (x ∷ fields) same =
    ap₂ (λ y ys. y ∷ ys) (same x (here x fields)) (shapes_alike f g fields (λ y c. same y (there x y fields c)))

pub fault_alike : (f g : ℕ → Shape) (union_tag : Bool) (n : ℕ) (fields : List Field) →
    ((x : Field) → Contains fields x → f x.kind ≡ g x.kind) → members_fault f union_tag n fields ≡ members_fault g union_tag n fields
fault_alike f g union_tag n fields same =
    ap₂ (λ ss ms. first_of ((has_two_of_a_name fields, e.Duplicate) ∷ (is_empty ss, e.Empty) ∷
    (misplaced union_tag ss || any is_flexible ss, e.BadFlexible) ∷ (any is_unsized ss, e.Incomplete) ∷
    (nat_lt largest (size (whole_of union_tag n ms)), e.TooLarge) ∷ []))
    (shapes_alike f g fields same) (members_alike f g fields same)

pub offsets_alike : (f g : ℕ → Shape) (end : ℕ) (fields : List Field) → ((x : Field) → Contains fields x → f x.kind ≡ g x.kind) →
    struct_members f end fields ≡ struct_members g end fields
offsets_alike f g end [] same = refl
offsets_alike f g end (x ∷ fields) same =
    let first : f x.kind ≡ g x.kind = same x (here x fields) in
    let member : Shape → Member = λ shape. record { name = x.name; kind = x.kind; offset = next_offset shape end } in
    ap₂ (λ shape rest. member shape ∷ rest) first
    (ap (λ shape. struct_members f (next_offset shape end + size shape) fields) first ∙
    offsets_alike f g (next_offset (g x.kind) end + size (g x.kind)) fields (λ y c. same y (there x y fields c)))

-- ---- what types are made of, later

module _ (a b : Types) (order : List ℕ) (base : IsBase a order) (later : IsLater a b) where
  number_later : (n : ℕ) → IsNumber a n → IsNumber b n
  number_later n num = (num.0, omega (arith, num.1, longer a b later))

  pub tree_kept : (n : ℕ) → Contains order n → shape_of b n ≡ shape_of a n
  tree_kept n c = trees_kept a b order base.ordered (few a order base) later n c

  tag_later_by : (union_tag : Bool) (n tag : ℕ) (is_tag : IsTag a union_tag n tag) (found : Tag) → slice_get b.tags tag ≡ Some found →
      IsLaterTag is_tag.found found →
      (is_tag.found.fields ≡ [] → found.fields ≢ [] → members_fault (shape_of b) union_tag n found.fields ≡ None) →
      (is_tag.found.fields ≡ [] → (f : Field) → Contains found.fields f → IsNumber b f.kind) →
      (fields : List Field) → is_tag.found.fields ≡ fields → IsTag b union_tag n tag
  tag_later_by union_tag n tag is_tag found at is_later settled parts [] empty = record
      { found = found; here = at; sort = is_later.sort ∙ is_tag.sort; complete = settled empty; parts = parts empty }
  tag_later_by union_tag n tag is_tag found at is_later settled parts (x ∷ fields) filled =
      let some : is_tag.found.fields ≢ [] = λ e. cc in
      let same : found.fields ≡ is_tag.found.fields = is_later.fields some in
      let fits : members_fault (shape_of a) union_tag n is_tag.found.fields ≡ None = is_tag.complete some in
      record {
        found = found;
        here = at;
        sort = is_later.sort ∙ is_tag.sort;
        complete = λ t. subst (λ fs. members_fault (shape_of b) union_tag n fs ≡ None) (sym same)
            (fault_alike (shape_of b) (shape_of a) union_tag n is_tag.found.fields
            (λ f c. tree_kept f.kind (fields_known a order base union_tag n is_tag.found.fields fits is_tag.parts f c)) ∙ fits);
        parts = λ f c. number_later f.kind (is_tag.parts f (subst (λ fs. Contains fs f) same c));
      }

  -- what a tag that gets its members owes
  abbrev pub Settles : Type 0
  Settles = (union_tag : Bool) (n tag : ℕ) (before found : Tag) → slice_get a.tags tag ≡ Some before → slice_get b.tags tag ≡ Some found →
      kind_of a n ≡ Some (tag_kind union_tag tag) → before.fields ≡ [] →
      (found.fields ≢ [] → members_fault (shape_of b) union_tag n found.fields ≡ None) ×
      ((f : Field) → Contains found.fields f → IsNumber b f.kind)

  tag_later : Settles → (union_tag : Bool) (n tag : ℕ) → kind_of a n ≡ Some (tag_kind union_tag tag) → IsTag a union_tag n tag → IsTag b union_tag n tag
  tag_later settles union_tag n tag is is_tag =
      let l : (found : Tag) × (slice_get b.tags tag ≡ Some found) × IsLaterTag is_tag.found found = later.tags tag is_tag.found is_tag.here in
      tag_later_by union_tag n tag is_tag l.0 l.1 l.2
      (λ empty. (settles union_tag n tag is_tag.found l.0 is_tag.here l.1 is empty).0)
      (λ empty. (settles union_tag n tag is_tag.found l.0 is_tag.here l.1 is empty).1)
      is_tag.found.fields refl

  pub plain_later : (n : ℕ) (kind : CType) → ((tag : ℕ) → kind ≢ Struct tag) → ((tag : ℕ) → kind ≢ Union tag) → IsMade a n kind → IsMade b n kind
  plain_later n Void struct union made = tt
  plain_later n (Num width signed) struct union made = made
  plain_later n (Pointer to) struct union made = number_later to made
  plain_later n (Array of count) struct union made =
      (number_later of made.0, ap (λ shape. array_fault shape count) (tree_kept of (element_known a order base of count made.0 made.1)) ∙ made.1)
  plain_later n (Flexible of) struct union made =
      (number_later of made.0, ap open_fault (tree_kept of (open_element_known a order base of made.0 made.1)) ∙ made.1)
  plain_later n (Struct tag) struct union made = absurd (struct tag refl)
  plain_later n (Union tag) struct union made = absurd (union tag refl)

  pub made_later : Settles → (n : ℕ) (kind : CType) → kind_of a n ≡ Some kind → IsMade a n kind → IsMade b n kind
  made_later settles n Void is made = tt
  made_later settles n (Num width signed) is made = made
  made_later settles n (Pointer to) is made = plain_later n (Pointer to) (λ t e. cc) (λ t e. cc) made
  made_later settles n (Array of count) is made = plain_later n (Array of count) (λ t e. cc) (λ t e. cc) made
  made_later settles n (Flexible of) is made = plain_later n (Flexible of) (λ t e. cc) (λ t e. cc) made
  made_later settles n (Struct tag) is made = tag_later settles false n tag is made
  made_later settles n (Union tag) is made = tag_later settles true n tag is made

  after_later : (before : List ℕ) (kind : CType) → AgreesOn a b before → IsAfter a before kind → IsAfter b before kind
  after_later before Void agrees after = tt
  after_later before (Num width signed) agrees after = tt
  after_later before (Pointer to) agrees after = tt
  after_later before (Array of count) agrees after = after
  after_later before (Flexible of) agrees after = after
  after_later before (Struct tag) agrees after = subst (AreAfter before) (sym (agrees.tags tag after.0)) after
  after_later before (Union tag) agrees after = subst (AreAfter before) (sym (agrees.tags tag after.0)) after

  ordered_by : (order : List ℕ) → IsOrdered a order → IsOrdered b order
  ordered_by _ none = none
  ordered_by _ (next before n kind ordered fresh is after) =
      let agrees : AgreesOn a b (before ++ n ∷ []) = later_agrees a b (before ++ n ∷ []) (next before n kind ordered fresh is after) later in
      let inner : AgreesOn a b before = later_agrees a b before ordered later in
      next before n kind (ordered_by before ordered) fresh (agrees.kinds n (Contains-push before n) ∙ is) (after_later before kind inner after)

  pub ordered_later : IsOrdered b order
  ordered_later = ordered_by order base.ordered
