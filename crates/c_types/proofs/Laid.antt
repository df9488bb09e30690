-- Members that complete a tag.
use Rattle.std.proofs.Common.{◌≡◌, ◌≢◌, ℕ, zero, suc, ◌+◌, ◌≤◌, ◌<◌, max, List, [], ◌∷◌, ◌++◌, length, map, Some, None, Ok, Option, Result, Bool, true, false, ◌||◌, not, nat_lt, if◌then◌else◌, sym, ap, ap₂, subst, refl, ◌∙◌, arith, true≢false, IsFalse}
use Rattle.std.proofs.lemmas.Bool.{lt-ltb, ltb-true, ltb-false}
use Rattle.c_types.specs.declared.kinds.CType.{CType}
use Rattle.c_types.specs.declared.kinds.Field.{Field}
use Rattle.c_types.specs.declared.kinds.Member.{Member}
use Rattle.c_types.specs.declared.kinds.TypeError.{TypeError}
use Rattle.c_types.specs.declared.kinds.TypeError.TheVariants as e
use Rattle.c_types.specs.declared.rows.TypeRow.{TypeRow}
use Rattle.c_types.specs.declared.rows.Form.TheVariants as form
use Rattle.c_types.specs.declared.fields.Extent.{Extent}
use Rattle.c_types.specs.Shapes.{Shape, Members, round_up, greatest_alignment, end_of_struct, end_of_union, ends_open, is_open, is_flexible, size}
use Rattle.c_types.specs.Shapes as s
use Rattle.c_types.specs.Table.{Types, Tag, kind_of, fields_of, shape_of, members, members_by, members_of_fields, struct_members, union_members}
use Rattle.c_types.specs.Adding.{first_of, has_two_of_a_name, is_empty, misplaced, shapes, any, is_unsized, whole_of, members_fault, fault_beside, unless, completed, completed_tags, tag_kind, tag_by, tag_of, largest}
use Rattle.c_types.specs.Calls.{AreFields, IsTold}
use Rattle.c_types.specs.Rows.{IsLaid, field_of, form_of, has_fields, members_as, row_of}
use Rattle.c_types.specs.Extents.{reach, extent_of, too_large, row_within}
use Rattle.c_types.proofs.Faults.{or_left, or_right}
use Rattle.c_types.proofs.Sizes.{not_below}
use Rattle.c_types.proofs.Whole.{ends_any}

pub completed_is : (types : Types) (union_tag : Bool) (n : ℕ) (fields : List Field) →
    fault_beside (fields_of types.tags (tag_of types n)) (members_fault (shape_of types) union_tag n fields) ≡ None →
    completed types union_tag n fields ≡ Ok (record types { tags = completed_tags types.tags (tag_of types n) fields })
unfolding completed
completed_is types union_tag n fields none =
    ap (λ fault. unless fault (record types { tags = completed_tags types.tags (tag_of types n) fields })) none

-- ---- a fault is told

pub told : (fault : Option TypeError) (why : TypeError) → fault ≡ Some why → IsTold fault why
told fault (e.Memory m) is = tt
told fault e.Incomplete is = is
told fault e.Empty is = is
told fault e.BadFlexible is = is
told fault e.TooLarge is = is
told fault e.Duplicate is = is

first_true : (test : Bool) (why : TypeError) (rest : List (Bool × TypeError)) → test ≡ true → first_of ((test, why) ∷ rest) ≡ Some why
first_true test why rest it = ap (λ b. first_of ((b, why) ∷ rest)) it

first_false : (test : Bool) (why : TypeError) (rest : List (Bool × TypeError)) → test ≡ false → first_of ((test, why) ∷ rest) ≡ first_of rest
first_false test why rest it = ap (λ b. first_of ((b, why) ∷ rest)) it

found_early : (tests more : List (Bool × TypeError)) (why : TypeError) → first_of tests ≡ Some why → first_of (tests ++ more) ≡ Some why
found_early [] more why is = cc
found_early ((true, w) ∷ tests) more why is = is
found_early ((false, w) ∷ tests) more why is = found_early tests more why is

none_early : (tests more : List (Bool × TypeError)) → first_of tests ≡ None → first_of (tests ++ more) ≡ first_of more
none_early [] more is = refl
none_early ((true, w) ∷ tests) more is = cc
none_early ((false, w) ∷ tests) more is = none_early tests more is

second_test : (a b : Bool) (v w : TypeError) (rest : List (Bool × TypeError)) → first_of ((a, v) ∷ (b, w) ∷ rest) ≡ None → b ≡ false
second_test true b v w rest none = cc
second_test false true v w rest none = cc
second_test false false v w rest none = refl

module _ (shape : ℕ → Shape) (union_tag : Bool) (n : ℕ) (there fields : List Field) where
  abbrev pub misuses : List (Bool × TypeError)
  misuses =
      (is_empty (shapes shape fields), e.Empty) ∷
      (misplaced union_tag (shapes shape fields) || any is_flexible (shapes shape fields), e.BadFlexible) ∷
      (any is_unsized (shapes shape fields), e.Incomplete) ∷ []

  abbrev whole_size : ℕ
  whole_size = size (whole_of union_tag n (members_of_fields shape fields))

  beside : (there : List Field) → fault_beside there (members_fault shape union_tag n fields) ≡
      first_of ((has_fields there || has_two_of_a_name fields, e.Duplicate) ∷ (misuses ++ (nat_lt largest whole_size, e.TooLarge) ∷ []))
  beside [] = refl
  beside (f ∷ fs) = refl

  pub repeated : has_fields there || has_two_of_a_name fields ≡ true → fault_beside there (members_fault shape union_tag n fields) ≡ Some e.Duplicate
  repeated it = beside there ∙ first_true _ _ _ it

  pub misused : (why : TypeError) → has_fields there || has_two_of_a_name fields ≡ false → first_of misuses ≡ Some why →
      fault_beside there (members_fault shape union_tag n fields) ≡ Some why
  misused why once is = beside there ∙ (first_false _ _ _ once ∙ found_early misuses _ why is)

  pub last_fault : has_fields there || has_two_of_a_name fields ≡ false → first_of misuses ≡ None →
      fault_beside there (members_fault shape union_tag n fields) ≡ too_large whole_size
  last_fault once is = beside there ∙ (first_false _ _ _ once ∙ none_early misuses _ is)

  pub in_order : first_of misuses ≡ None → misplaced union_tag (shapes shape fields) ≡ false
  in_order is = or_left _ _ (second_test (is_empty (shapes shape fields)) (misplaced union_tag (shapes shape fields) || any is_flexible (shapes shape fields))
      e.Empty e.BadFlexible ((any is_unsized (shapes shape fields), e.Incomplete) ∷ []) is)

-- what is told of the size is told of all
pub told_last : (fault : Option TypeError) (bytes : ℕ) (why : TypeError) → fault ≡ too_large bytes → IsTold (too_large bytes) why → IsTold fault why
told_last fault bytes why is told = subst (λ f. IsTold f why) (sym is) told

-- ---- the row of what is completed

size_whole : (union_tag : Bool) (n : ℕ) (ms : Members) → size (whole_of union_tag n ms) ≡ round_up (greatest_alignment ms) (reach union_tag ms 0)
size_whole true n ms = ap (round_up (greatest_alignment ms)) (sym (zero_max (end_of_union ms)))
  where
    zero_max : (m : ℕ) → max 0 m ≡ m
    zero_max m = omega arith
size_whole false n ms = refl

pub size_any : (union_tag : Bool) (m n : ℕ) (ms : Members) → size (whole_of union_tag m ms) ≡ size (whole_of union_tag n ms)
size_any true m n ms = refl
size_any false m n ms = refl

no_open : (union_tag : Bool) (shape : ℕ → Shape) (fields : List Field) → union_tag ≡ true → misplaced union_tag (shapes shape fields) ≡ false →
    any is_open (shapes shape fields) ≡ false
no_open true shape fields is placed = placed
no_open false shape fields is placed = absurd (true≢false (sym is))

row_whole : (union_tag : Bool) (n : ℕ) (ms : Members) (ends : Bool) → ends ≡ ends_open ms → (union_tag ≡ true → ends ≡ false) →
    record { form = if ends then form.Extended else form.Sized; size = round_up (greatest_alignment ms) (reach union_tag ms 0); alignment = greatest_alignment ms } ≡
    row_of (whole_of union_tag n ms)
row_whole true n ms ends is closed =
    ap₂ (λ b bytes. record { form = if b then form.Extended else form.Sized; size = bytes; alignment = greatest_alignment ms })
    (closed refl) (sym (size_whole true n ms))
row_whole false n ms ends is closed =
    ap (λ b. record { form = if b then form.Extended else form.Sized; size = round_up (greatest_alignment ms) (end_of_struct ms 0); alignment = greatest_alignment ms }) is

within_by : (over : Bool) (x row : TypeRow) → (if over then None else Some x) ≡ Some row → (over ≡ false) × (x ≡ row)
within_by true x row is = cc
within_by false x row is = (refl, cc)

over_by : (over : Bool) (x : TypeRow) → (if over then None else Some x) ≡ None → over ≡ true
over_by true x is = refl
over_by false x is = cc

other : {A : Type 0} (b : Bool) (why : TypeError) → (e.TooLarge ≡ why → ⊥) → first_of ((b, e.TooLarge) ∷ []) ≡ Some why → A
other true why differs some = absurd (differs cc)
other false why differs some = cc

module _ (shape : ℕ → Shape) (union_tag : Bool) (fields : List Field) (placed : misplaced union_tag (shapes shape fields) ≡ false) where
  abbrev whole_members : Members
  whole_members = members_of_fields shape fields

  pub row_found : (row : TypeRow) → row_within (extent_of union_tag whole_members) (any is_open (shapes shape fields)) ≡ Some row →
      (n : ℕ) → row ≡ row_of (whole_of union_tag n whole_members)
  row_found row is n =
      sym (within_by _ _ row is).1 ∙
      row_whole union_tag n whole_members (any is_open (shapes shape fields)) (sym (ends_any shape fields)) (λ u. no_open union_tag shape fields u placed)

  pub fits : (row : TypeRow) → row_within (extent_of union_tag whole_members) (any is_open (shapes shape fields)) ≡ Some row →
      too_large (size (whole_of union_tag 0 whole_members)) ≡ None
  fits row is =
      ap (λ bytes. too_large bytes) (size_whole union_tag 0 whole_members) ∙
      first_false _ _ _ (within_by _ _ row is).0

  pub fits_not : row_within (extent_of union_tag whole_members) (any is_open (shapes shape fields)) ≡ None →
      too_large (size (whole_of union_tag 0 whole_members)) ≡ Some e.TooLarge
  fits_not is =
      ap (λ bytes. too_large bytes) (size_whole union_tag 0 whole_members) ∙
      first_true _ _ _ (over_by _ _ is)

  -- what reaches too far is too large
  over_whole : (end : ℕ) → end ≡ reach union_tag whole_members 0 → largest < end → too_large (size (whole_of union_tag 0 whole_members)) ≡ Some e.TooLarge
  over_whole end is over =
      ap (λ bytes. too_large bytes) (size_whole union_tag 0 whole_members) ∙
      first_true _ _ _ (lt-ltb largest (round_up (greatest_alignment whole_members) (reach union_tag whole_members 0))
      (omega (arith, is, over, not_below (greatest_alignment whole_members) (reach union_tag whole_members 0))))

  pub told_whole : (why : TypeError) → IsTold (too_large (extent_of union_tag whole_members).end) why →
      IsTold (too_large (size (whole_of union_tag 0 whole_members))) why
  told_whole (e.Memory m) is = tt
  told_whole e.TooLarge is = over_whole (reach union_tag whole_members 0) refl (by_test (nat_lt largest (reach union_tag whole_members 0)) refl is)
    where
      by_test : (b : Bool) → nat_lt largest (reach union_tag whole_members 0) ≡ b → first_of ((b, e.TooLarge) ∷ []) ≡ Some e.TooLarge →
          largest < reach union_tag whole_members 0
      by_test true t some = ltb-true largest (reach union_tag whole_members 0) t
      by_test false t some = cc
  told_whole e.Incomplete is = other (nat_lt largest (reach union_tag whole_members 0)) e.Incomplete (λ x. cc) is
  told_whole e.Empty is = other (nat_lt largest (reach union_tag whole_members 0)) e.Empty (λ x. cc) is
  told_whole e.BadFlexible is = other (nat_lt largest (reach union_tag whole_members 0)) e.BadFlexible (λ x. cc) is
  told_whole e.Duplicate is = other (nat_lt largest (reach union_tag whole_members 0)) e.Duplicate (λ x. cc) is

-- ---- members that are there

members_empty : (sort : Bool) (f : ℕ → Shape) (fields : List Field) → (members_as sort f fields ≡ []) → has_fields fields ≡ false
members_empty true f [] e = refl
members_empty true f (x ∷ fields) e = cc
members_empty false f [] e = refl
members_empty false f (x ∷ fields) e = cc

members_some : (sort : Bool) (f : ℕ → Shape) (fields : List Field) → (members_as sort f fields ≢ []) → has_fields fields ≡ true
members_some true f [] e = absurd (e refl)
members_some true f (x ∷ fields) e = refl
members_some false f [] e = absurd (e refl)
members_some false f (x ∷ fields) e = refl

members_of_kind : (types : Types) (sort : Bool) (n tag : ℕ) → kind_of types n ≡ Some (tag_kind sort tag) →
    members types n ≡ members_as sort (shape_of types) (fields_of types.tags (tag_of types n))
unfolding members
members_of_kind types true n tag is = by_kind (kind_of types n) is
  where
    by_kind : (kind : Option CType) → kind ≡ Some (tag_kind true tag) →
        members_by types.tags (shape_of types) kind ≡ members_as true (shape_of types) (fields_of types.tags (tag_by kind))
    by_kind kind e = subst (λ k. members_by types.tags (shape_of types) k ≡ members_as true (shape_of types) (fields_of types.tags (tag_by k))) (sym e) refl
members_of_kind types false n tag is = by_kind (kind_of types n) is
  where
    by_kind : (kind : Option CType) → kind ≡ Some (tag_kind false tag) →
        members_by types.tags (shape_of types) kind ≡ members_as false (shape_of types) (fields_of types.tags (tag_by kind))
    by_kind kind e = subst (λ k. members_by types.tags (shape_of types) k ≡ members_as false (shape_of types) (fields_of types.tags (tag_by k))) (sym e) refl

pub there_are : (types : Types) (sort : Bool) (n tag : ℕ) → kind_of types n ≡ Some (tag_kind sort tag) → members types n ≢ [] →
    has_fields (fields_of types.tags (tag_of types n)) ≡ true
there_are types sort n tag is some =
    members_some sort (shape_of types) (fields_of types.tags (tag_of types n)) (λ e. some (members_of_kind types sort n tag is ∙ e))

pub there_are_none : (types : Types) (sort : Bool) (n tag : ℕ) → kind_of types n ≡ Some (tag_kind sort tag) → members types n ≡ [] →
    has_fields (fields_of types.tags (tag_of types n)) ≡ false
there_are_none types sort n tag is none =
    members_empty sort (shape_of types) (fields_of types.tags (tag_of types n)) (sym (members_of_kind types sort n tag is) ∙ none)

-- ---- what is laid out

tag_is : (sort : Bool) (tag : ℕ) → tag_by (Some (tag_kind sort tag)) ≡ tag
tag_is true tag = refl
tag_is false tag = refl

none_there : (fields : List Field) → has_fields fields ≡ false → fields ≡ []
none_there [] none = refl
none_there (f ∷ fields) none = absurd (true≢false none)

struct_back : (f : ℕ → Shape) (end : ℕ) (fields : List Field) → map field_of (struct_members f end fields) ≡ fields
struct_back f end [] = refl
struct_back f end (x ∷ fields) = ap (λ fs. x ∷ fs) (struct_back f (s.next_offset (f x.kind) end + size (f x.kind)) fields)

union_back : (fields : List Field) → map field_of (union_members fields) ≡ fields
union_back [] = refl
union_back (x ∷ fields) = ap (λ fs. x ∷ fs) (union_back fields)

pub fields_back : (sort : Bool) (f : ℕ → Shape) (fields : List Field) → map field_of (members_as sort f fields) ≡ fields
fields_back true f fields = union_back fields
fields_back false f fields = struct_back f 0 fields

module _ (types : Types) (union_tag : Bool) (n tag : ℕ) (fields : List Field) (ms : List Member) (row : TypeRow)
    (is : kind_of types n ≡ Some (tag_kind union_tag tag))
    (once : has_fields (fields_of types.tags (tag_of types n)) || has_two_of_a_name fields ≡ false)
    (used : first_of (misuses (shape_of types) union_tag n [] fields) ≡ None)
    (small : too_large (size (whole_of union_tag 0 (members_of_fields (shape_of types) fields))) ≡ None)
    (parts : AreFields types fields) (are : ms ≡ members_as union_tag (shape_of types) fields)
    (row_is : (m : ℕ) → row ≡ row_of (whole_of union_tag m (members_of_fields (shape_of types) fields))) where
  tag_same : tag_of types n ≡ tag
  tag_same = ap tag_by is ∙ tag_is union_tag tag

  pub fields_are : map field_of ms ≡ fields
  fields_are = ap (map field_of) are ∙ fields_back union_tag (shape_of types) fields

  there_none : fields_of types.tags (tag_of types n) ≡ []
  there_none = none_there (fields_of types.tags (tag_of types n)) (or_left _ _ once)

  pub no_fault : fault_beside (fields_of types.tags (tag_of types n)) (members_fault (shape_of types) union_tag n fields) ≡ None
  no_fault =
      last_fault (shape_of types) union_tag n (fields_of types.tags (tag_of types n)) fields once used ∙
      (ap (λ bytes. too_large bytes) (size_any union_tag n 0 (members_of_fields (shape_of types) fields)) ∙ small)

  fits_all : members_fault (shape_of types) union_tag n fields ≡ None
  fits_all = subst (λ fs. fault_beside fs (members_fault (shape_of types) union_tag n fields) ≡ None) there_none no_fault

  pub laid_is : (at : ℕ) → at ≡ tag_of types n → IsLaid types n (record { tag = at; members = ms; row = row })
  laid_is at number =
      let here : at ≡ tag = number ∙ tag_same in
      record {
        union_tag = union_tag;
        kind = subst (λ t. kind_of types n ≡ Some (tag_kind union_tag t)) (sym here) is;
        unfilled = ap (fields_of types.tags) number ∙ there_none;
        parts = subst (AreFields types) (sym fields_are) parts;
        fits = subst (λ fs. members_fault (shape_of types) union_tag n fs ≡ None) (sym fields_are) fits_all;
        members = are ∙ ap (members_as union_tag (shape_of types)) (sym fields_are);
        row = row_is n ∙ ap (λ fs. row_of (whole_of union_tag n (members_of_fields (shape_of types) fs))) (sym fields_are);
      }
