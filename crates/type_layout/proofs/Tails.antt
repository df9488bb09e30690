-- The flexible member of a struct is its last member.
use Rattle.std.proofs.Common.{◌≡◌, ℕ, suc, ◌+◌, ◌-◌, List, [], ◌∷◌, length, Bool, true, false, Some, None, sym, ap, ◌∙◌, subst, refl, arith}
use Rattle.std.specs.Prelude.{Option, slice_get, nat_lt, ◌||◌}
use Rattle.c_types.specs.declared.kinds.CType.{CType}
use Rattle.c_types.specs.declared.kinds.CType.TheVariants as k
use Rattle.c_types.specs.declared.kinds.Field.{Field}
use Rattle.c_types.specs.declared.kinds.Member as row
use Rattle.c_types.specs.declared.kinds.TypeError.{TypeError}
use Rattle.c_types.specs.declared.kinds.TypeError.TheVariants as e
use Rattle.c_types.specs.Shapes.{Shape, Members, Void, Whole, Pointer, Array, Open, Struct, Union, Incomplete, None_left, size, next_offset, is_open, is_flexible, flexible_member}
use Rattle.c_types.specs.Table.{Types, Tag, HasTrees, shape_of, shape_of_kind, kind_of, tagged, fields_of, members, members_by, members_from, members_of_fields, struct_members}
use Rattle.c_types.specs.Adding.{any, before_last, first_of, has_two_of_a_name, is_empty, is_unsized, largest, members_fault, misplaced, shapes, whole_of}
use Rattle.c_types.specs.Holds.{IsTable, IsTag}
use Rattle.type_layout.specs.Runs.{flexible_of}
use Rattle.type_layout.proofs.Parts.{member_closed}

-- ---- the last member

-- the flexible member that a member is
abbrev pub open_tail : ℕ → Shape → Option (ℕ × Shape)
open_tail offset (Void n) = None
open_tail offset (Whole n width signed) = None
open_tail offset (Pointer n to) = None
open_tail offset (Array n of count) = None
open_tail offset (Open n of) = Some (offset, of)
open_tail offset (Struct n members) = None
open_tail offset (Union n members) = None
open_tail offset (Incomplete n) = None

abbrev pub tail_by : (ℕ → Shape) → Option row.Member → Option (ℕ × Shape)
tail_by shape None = None
tail_by shape (Some m) = open_tail m.offset (shape m.kind)

one_tail : (s : Shape) (end : ℕ) → flexible_member (members_from s None_left) end ≡ open_tail (next_offset s end) s
one_tail (Void n) end = refl
one_tail (Whole n width signed) end = refl
one_tail (Pointer n to) end = refl
one_tail (Array n of count) end = refl
one_tail (Open n of) end = refl
one_tail (Struct n members) end = refl
one_tail (Union n members) end = refl
one_tail (Incomplete n) end = refl

neither : (a b : Bool) → (a || b) ≡ false → (a ≡ false) × (b ≡ false)
neither true b h = cc
neither false b h = (refl, h)

abbrev pub last_member : List row.Member → Option row.Member
last_member list = slice_get list (length list - 1)

last_later : (first second : row.Member) (list : List row.Member) →
    last_member (first ∷ second ∷ list) ≡ last_member (second ∷ list)
last_later first second list =
    let n : length (first ∷ second ∷ list) - 1 ≡ suc (length (second ∷ list) - 1) = omega arith in
    ap (slice_get (first ∷ second ∷ list)) n

last_tail : (shape : ℕ → Shape) (fields : List Field) (end : ℕ) →
    any is_open (before_last (shapes shape fields)) ≡ false →
    flexible_member (members_of_fields shape fields) end ≡ tail_by shape (last_member (struct_members shape end fields))
last_tail shape [] end h = refl
last_tail shape (f ∷ []) end h = one_tail (shape f.kind) end
last_tail shape (f ∷ g ∷ fields) end h =
    let both = neither (is_open (shape f.kind)) (any is_open (before_last (shapes shape (g ∷ fields)))) h in
    let later = next_offset (shape f.kind) end + size (shape f.kind) in
    rw (member_closed (shape f.kind) (members_of_fields shape (g ∷ fields)) both.0)
    (last_tail shape (g ∷ fields) later both.1 ∙
    ap (tail_by shape)
    (sym (last_later (record { name = f.name; kind = f.kind; offset = next_offset (shape f.kind) end })
    (record { name = g.name; kind = g.kind; offset = next_offset (shape g.kind) later })
    (struct_members shape (next_offset (shape g.kind) later + size (shape g.kind)) fields))))

-- ---- no flexible member stands before the last

third_holds : (a b c d : Bool) (x y z : TypeError) (rest : List (Bool × TypeError)) →
    first_of ((a, x) ∷ (b, y) ∷ (c || d, z) ∷ rest) ≡ None → c ≡ false
third_holds true b c d x y z rest h = cc
third_holds false true c d x y z rest h = cc
third_holds false false true d x y z rest h = cc
third_holds false false false d x y z rest h = refl

struct_tail : (shape : ℕ → Shape) (n : ℕ) (fields : List Field) →
    ((fields ≡ [] → ⊥) → members_fault shape false n fields ≡ None) →
    flexible_of (tagged (Struct n) shape n fields) ≡ tail_by shape (last_member (struct_members shape 0 fields))
struct_tail shape n [] h = refl
struct_tail shape n (f ∷ fields) h =
    let list = f ∷ fields in
    last_tail shape list 0
    (third_holds (has_two_of_a_name list) (is_empty (shapes shape list)) (misplaced false (shapes shape list))
    (any is_flexible (shapes shape list)) e.Duplicate
    e.Empty e.BadFlexible
    ((any is_unsized (shapes shape list), e.Incomplete) ∷
    (nat_lt largest (size (whole_of false n (members_of_fields shape list))), e.TooLarge) ∷ []) (h (λ same. cc)))

-- ---- the tail of a type of a table

pub table_tail : (types : Types) (n tag : ℕ) → IsTable types → kind_of types n ≡ Some (k.Struct tag) →
    flexible_of (shape_of types n) ≡ tail_by (shape_of types) (last_member (members types n))
unfolding members
table_tail types n tag t e =
    let is : IsTag types false n tag = t.made n (k.Struct tag) e in
    let whole : flexible_of (tagged (Struct n) (shape_of types) n (fields_of types.tags tag)) ≡
    tail_by (shape_of types) (last_member (struct_members (shape_of types) 0 (fields_of types.tags tag))) =
    struct_tail (shape_of types) n (fields_of types.tags tag) (rw is.here is.complete) in
    ap flexible_of (t.trees n) ∙
    subst
    (λ o. flexible_of (shape_of_kind types.tags (shape_of types) n o) ≡
    tail_by (shape_of types) (last_member (members_by types.tags (shape_of types) o)))
    (sym e) whole

-- one that is no struct has none
tagged_union : (shape : ℕ → Shape) (n : ℕ) (fields : List Field) → flexible_of (tagged (Union n) shape n fields) ≡ None
tagged_union shape n [] = refl
tagged_union shape n (f ∷ fields) = refl

kind_without : (tags : List Tag) (shape : ℕ → Shape) (n : ℕ) (kind : CType) → ((tag : ℕ) → kind ≡ k.Struct tag → ⊥) →
    flexible_of (shape_of_kind tags shape n (Some kind)) ≡ None
kind_without tags shape n k.Void not = refl
kind_without tags shape n (k.Num width signed) not = refl
kind_without tags shape n (k.Pointer to) not = refl
kind_without tags shape n (k.Array of count) not = refl
kind_without tags shape n (k.Flexible of) not = refl
kind_without tags shape n (k.Struct tag) not = absurd (not tag refl)
kind_without tags shape n (k.Union tag) not = tagged_union shape n (fields_of tags tag)

pub no_struct_no_tail : (types : Types) (n : ℕ) (kind : CType) → HasTrees types → kind_of types n ≡ Some kind →
    ((tag : ℕ) → kind ≡ k.Struct tag → ⊥) →
    None ≡ flexible_of (shape_of types n)
no_struct_no_tail types n kind trees e not =
    sym
    (ap flexible_of (trees n) ∙ ap (λ o. flexible_of (shape_of_kind types.tags (shape_of types) n o)) e ∙
    kind_without types.tags (shape_of types) n kind not)

-- ---- the last member of a struct

no_open_tagged : (whole : Members → Shape) (shape : ℕ → Shape) (n offset : ℕ) (fields : List Field) →
    ((members : Members) → open_tail offset (whole members) ≡ None) →
    open_tail offset (tagged whole shape n fields) ≡ None
no_open_tagged whole shape n offset [] h = refl
no_open_tagged whole shape n offset (f ∷ fields) h = h _

kind_no_open : (tags : List Tag) (shape : ℕ → Shape) (n offset : ℕ) (kind : CType) →
    ((of : ℕ) → kind ≡ k.Flexible of → ⊥) →
    open_tail offset (shape_of_kind tags shape n (Some kind)) ≡ None
kind_no_open tags shape n offset k.Void not = refl
kind_no_open tags shape n offset (k.Num width signed) not = refl
kind_no_open tags shape n offset (k.Pointer to) not = refl
kind_no_open tags shape n offset (k.Array of count) not = refl
kind_no_open tags shape n offset (k.Flexible of) not = absurd (not of refl)
kind_no_open tags shape n offset (k.Struct tag) not =
    no_open_tagged (Struct n) shape n offset (fields_of tags tag) (λ members. refl)
kind_no_open tags shape n offset (k.Union tag) not =
    no_open_tagged (Union n) shape n offset (fields_of tags tag) (λ members. refl)

module _ (types : Types) (n tag : ℕ) (t : IsTable types) (e : kind_of types n ≡ Some (k.Struct tag)) where
  pub no_member_no_tail : last_member (members types n) ≡ None → flexible_of (shape_of types n) ≡ None
  no_member_no_tail h = table_tail types n tag t e ∙ ap (tail_by (shape_of types)) h

  module _ (last : row.Member) (here : last_member (members types n) ≡ Some last) where
    pub last_is_tail : (of : ℕ) → kind_of types last.kind ≡ Some (k.Flexible of) →
        flexible_of (shape_of types n) ≡ Some (last.offset, shape_of types of)
    last_is_tail of f =
        table_tail types n tag t e ∙ ap (tail_by (shape_of types)) here ∙
        ap (open_tail last.offset) (t.trees last.kind ∙ ap (shape_of_kind types.tags (shape_of types) last.kind) f)

    pub last_is_no_tail : (kind : CType) → kind_of types last.kind ≡ Some kind → ((of : ℕ) → kind ≡ k.Flexible of → ⊥) →
        flexible_of (shape_of types n) ≡ None
    last_is_no_tail kind f not =
        table_tail types n tag t e ∙ ap (tail_by (shape_of types)) here ∙
        ap (open_tail last.offset) (t.trees last.kind ∙ ap (shape_of_kind types.tags (shape_of types) last.kind) f) ∙
        kind_no_open types.tags (shape_of types) last.kind last.offset kind not
