-- The trees of types with a size are whole.
use Rattle.std.proofs.Common.{◌≡◌, ◌≢◌, ◌⊎◌, ℕ, zero, suc, ◌+◌, ◌*◌, ◌≤◌, max, List, [], ◌∷◌, ◌++◌, length, Some, None, sym, ap, ◌∙◌, refl, arith, subst, ⊎_elim, Contains, IsTrue, IsFalse, true, false, not, ◌||◌, slice_get, Bool, Option, true≢false}
use Rattle.std.proofs.lemmas.List.Elements.{Contains-push_cases}
use Rattle.c_types.specs.declared.kinds.CType.{CType}
use Rattle.c_types.specs.declared.kinds.CType.TheVariants as k
use Rattle.c_types.specs.declared.kinds.Field.{Field}
use Rattle.c_types.specs.Shapes.{Shape, Members, Void, Whole, Pointer, Array, Open, Struct, Union, Incomplete, None_left, Member, Flexible, is_complete, is_flexible, is_open, ends_open, number_of}
use Rattle.c_types.specs.Table.{Types, Tag, kind_of, fields_by, fields_of, members_from, members_of_fields, tagged, shape_of_kind, shape_of, IsNumber, HasTrees}
use Rattle.c_types.specs.Adding.{any, before_last, is_empty, misplaced, shapes, is_unsized, whole_of, members_fault, tag_kind}
use Rattle.c_types.specs.Holds.{IsMade, IsTag, IsTreeOf, IsWhole, AreWhole, HasMember, AreAfter, IsAfter, IsOrdered}
use Rattle.c_types.specs.Holds.IsOrdered.{none, next}
use Rattle.c_types.proofs.Ordered.{here, there}
use Rattle.c_types.proofs.Later.{number_of_kind}
use Rattle.c_types.proofs.Faults.{or_left, or_right, not_false, OfArray, array_fits, open_fits, OfMembers, members_fit}

-- What is shown of each tree: an open array's elements are whole, and so is what is complete.
abbrev pub IsGood : Types → Shape → Type 0
IsGood a (Void n) = Unit {0}
IsGood a (Whole n width signed) = IsWhole a (Whole n width signed)
IsGood a (Pointer n to) = IsWhole a (Pointer n to)
IsGood a (Array n of count) = IsWhole a (Array n of count)
IsGood a (Open n of) = IsTreeOf a (Open n of) × IsWhole a of × IsFalse (is_flexible of)
IsGood a (Struct n members) = IsWhole a (Struct n members)
IsGood a (Union n members) = IsWhole a (Union n members)
IsGood a (Incomplete n) = Unit {0}

pub good_whole : (a : Types) (shape : Shape) → IsGood a shape → IsTrue (is_complete shape) → IsWhole a shape
good_whole a (Void n) good complete = absurd (true≢false (sym complete))
good_whole a (Whole n width signed) good complete = good
good_whole a (Pointer n to) good complete = good
good_whole a (Array n of count) good complete = good
good_whole a (Open n of) good complete = absurd (true≢false (sym complete))
good_whole a (Struct n members) good complete = good
good_whole a (Union n members) good complete = good
good_whole a (Incomplete n) good complete = absurd (true≢false (sym complete))

-- ---- members

one_more : (a : Types) (first : Shape) (rest : Members) → IsGood a first → IsFalse (is_flexible first) → IsFalse (is_unsized first) →
    AreWhole a rest → AreWhole a (members_from first rest)
one_more a (Void n) rest good fixed sized whole = absurd (true≢false sized)
one_more a (Whole n width signed) rest good fixed sized whole = (good, fixed, whole)
one_more a (Pointer n to) rest good fixed sized whole = (good, fixed, whole)
one_more a (Array n of count) rest good fixed sized whole = (good, fixed, whole)
one_more a (Open n of) rest good fixed sized whole = good
one_more a (Struct n members) rest good fixed sized whole = (good, fixed, whole)
one_more a (Union n members) rest good fixed sized whole = (good, fixed, whole)
one_more a (Incomplete n) rest good fixed sized whole = absurd (true≢false sized)

are_whole : (a : Types) (shape : ℕ → Shape) (fields : List Field) → any is_flexible (shapes shape fields) ≡ false →
    any is_unsized (shapes shape fields) ≡ false → ((f : Field) → Contains fields f → IsGood a (shape f.kind)) →
    AreWhole a (members_of_fields shape fields)
are_whole a shape [] fixed sized good = tt
are_whole a shape (f ∷ fields) fixed sized good =
    one_more a (shape f.kind) (members_of_fields shape fields) (good f (here f fields)) (or_left _ _ fixed) (or_left _ _ sized)
    (are_whole a shape fields (or_right _ _ fixed) (or_right _ _ sized) (λ g c. good g (there f g fields c)))

first_member : (first : Shape) (rest : Members) → IsFalse (is_open first) → HasMember (members_from first rest)
first_member (Void n) rest closed = tt
first_member (Whole n width signed) rest closed = tt
first_member (Pointer n to) rest closed = tt
first_member (Array n of count) rest closed = tt
first_member (Open n of) rest closed = absurd (true≢false closed)
first_member (Struct n members) rest closed = tt
first_member (Union n members) rest closed = tt
first_member (Incomplete n) rest closed = tt

first_closed : (union_tag : Bool) (first : Shape) (rest : List Shape) → is_empty (first ∷ rest) ≡ false → misplaced union_tag (first ∷ rest) ≡ false →
    is_open first ≡ false
first_closed true first rest some placed = or_left _ _ placed
first_closed false first [] some placed = some
first_closed false first (second ∷ rest) some placed = or_left _ _ placed

has_member : (union_tag : Bool) (shape : ℕ → Shape) (fields : List Field) → is_empty (shapes shape fields) ≡ false →
    misplaced union_tag (shapes shape fields) ≡ false → HasMember (members_of_fields shape fields)
has_member union_tag shape [] some placed = absurd (true≢false some)
has_member union_tag shape (f ∷ fields) some placed =
    first_member (shape f.kind) (members_of_fields shape fields) (first_closed union_tag (shape f.kind) (shapes shape fields) some placed)

ends_from : (first : Shape) (rest : Members) → ends_open (members_from first rest) ≡ is_open first || ends_open rest
ends_from (Void n) rest = refl
ends_from (Whole n width signed) rest = refl
ends_from (Pointer n to) rest = refl
ends_from (Array n of count) rest = refl
ends_from (Open n of) rest = refl
ends_from (Struct n members) rest = refl
ends_from (Union n members) rest = refl
ends_from (Incomplete n) rest = refl

pub ends_any : (shape : ℕ → Shape) (fields : List Field) → ends_open (members_of_fields shape fields) ≡ any is_open (shapes shape fields)
ends_any shape [] = refl
ends_any shape (f ∷ fields) =
    ends_from (shape f.kind) (members_of_fields shape fields) ∙ ap (λ b. is_open (shape f.kind) || b) (ends_any shape fields)

-- ---- a tag's tree

module _ (a : Types) (trees : HasTrees a) (made : (n : ℕ) (kind : CType) → kind_of a n ≡ Some kind → IsMade a n kind) where
  number : (n : ℕ) (kind : CType) → kind_of a n ≡ Some kind → IsNumber a n
  number zero kind is = cc
  number (suc p) kind is = (omega arith, number_of_kind a.kinds kind p is)

  good_members : (union_tag : Bool) (n : ℕ) (fields : List Field) → fields ≢ [] → OfMembers (shape_of a) union_tag n fields →
      ((f : Field) → Contains fields f → IsGood a (shape_of a f.kind)) → IsNumber a n →
      shape_of a n ≡ whole_of union_tag n (members_of_fields (shape_of a) fields) →
      IsGood a (whole_of union_tag n (members_of_fields (shape_of a) fields))
  good_members true n fields some fits good num is = (
    (num, is),
    are_whole a (shape_of a) fields fits.fixed fits.sized good,
    has_member true (shape_of a) fields fits.some fits.placed,
    ends_any (shape_of a) fields ∙ fits.placed,
  )
  good_members false n fields some fits good num is =
      ((num, is), are_whole a (shape_of a) fields fits.fixed fits.sized good, has_member false (shape_of a) fields fits.some fits.placed)

  tagged_whole : (union_tag : Bool) (n : ℕ) (fields : List Field) → fields ≢ [] →
      tagged (whole_of union_tag n) (shape_of a) n fields ≡ whole_of union_tag n (members_of_fields (shape_of a) fields)
  tagged_whole union_tag n [] some = absurd (some refl)
  tagged_whole union_tag n (f ∷ fields) some = refl

  good_tag : (union_tag : Bool) (n tag : ℕ) (before : List ℕ) → IsTag a union_tag n tag → AreAfter before (fields_of a.tags tag) →
      ((p : ℕ) → Contains before p → IsGood a (shape_of a p)) → IsNumber a n →
      shape_of a n ≡ tagged (whole_of union_tag n) (shape_of a) n (fields_of a.tags tag) →
      IsGood a (tagged (whole_of union_tag n) (shape_of a) n (fields_of a.tags tag))
  good_tag union_tag n tag before is_tag after inner num is =
      let fields : fields_of a.tags tag ≡ is_tag.found.fields = ap fields_by is_tag.here in
      let shape : tagged (whole_of union_tag n) (shape_of a) n (fields_of a.tags tag) ≡
      whole_of union_tag n (members_of_fields (shape_of a) (fields_of a.tags tag)) =
      tagged_whole union_tag n (fields_of a.tags tag) after.0 in
      let none : members_fault (shape_of a) union_tag n (fields_of a.tags tag) ≡ None =
      subst (λ fs. members_fault (shape_of a) union_tag n fs ≡ None) (sym fields)
      (is_tag.complete (λ empty. after.0 (fields ∙ empty))) in
      subst (IsGood a) (sym shape)
      (good_members union_tag n (fields_of a.tags tag) after.0 (members_fit (shape_of a) union_tag n (fields_of a.tags tag) none)
      (λ f c. inner f.kind (after.1 f c)) num (is ∙ shape))

  -- ---- one type over good ones

  good_kind : (n : ℕ) (kind : CType) (before : List ℕ) → kind_of a n ≡ Some kind → IsMade a n kind → IsAfter a before kind →
      ((p : ℕ) → Contains before p → IsGood a (shape_of a p)) → IsNumber a n →
      shape_of a n ≡ shape_of_kind a.tags (shape_of a) n (Some kind) → IsGood a (shape_of_kind a.tags (shape_of a) n (Some kind))
  good_kind n k.Void before is m after inner num tree = tt
  good_kind n (k.Num width signed) before is m after inner num tree = ((num, tree), m)
  good_kind n (k.Pointer to) before is m after inner num tree = ((num, tree), m)
  good_kind n (k.Array of count) before is m after inner num tree =
      let fits : OfArray (shape_of a of) count = array_fits (shape_of a of) count m.1 in
      ((num, tree), good_whole a (shape_of a of) (inner of after) fits.complete, fits.fixed, fits.some)
  good_kind n (k.Flexible of) before is m after inner num tree =
      let fits : IsFalse (is_flexible (shape_of a of)) × IsTrue (is_complete (shape_of a of)) = open_fits (shape_of a of) m.1 in
      ((num, tree), good_whole a (shape_of a of) (inner of after) fits.1, fits.0)
  good_kind n (k.Struct tag) before is m after inner num tree = good_tag false n tag before m after inner num tree
  good_kind n (k.Union tag) before is m after inner num tree = good_tag true n tag before m after inner num tree

  good_at : (n : ℕ) (kind : CType) (before : List ℕ) → kind_of a n ≡ Some kind → IsAfter a before kind →
      ((p : ℕ) → Contains before p → IsGood a (shape_of a p)) → IsGood a (shape_of a n)
  good_at n kind before is after inner =
      let tree : shape_of a n ≡ shape_of_kind a.tags (shape_of a) n (Some kind) =
      trees n ∙ ap (shape_of_kind a.tags (shape_of a) n) is in
      subst (IsGood a) (sym tree) (good_kind n kind before is (made n kind is) after inner (number n kind is) tree)

  pub good : (order : List ℕ) → IsOrdered a order → (n : ℕ) → Contains order n → IsGood a (shape_of a n)
  good _ none n c = absurd (omega (arith, c.1))
  good _ (next before m kind ordered fresh is after) n c =
      let inner : (p : ℕ) → Contains before p → IsGood a (shape_of a p) = good before ordered in
      ⊎_elim (λ (old : Contains before n). inner n old)
      (λ (new : m ≡ n). subst (λ p. IsGood a (shape_of a p)) new (good_at m kind before is after inner))
      (Contains-push_cases before m n c)
