-- What is known of types that have a size.
use Rattle.std.proofs.Common.{◌≡◌, ◌≢◌, ℕ, ◌<◌, ◌≤◌, List, [], ◌∷◌, Bool, true, false, Some, None, sym, ap, ◌∙◌, refl, arith, subst}
use Rattle.std.specs.Prelude.{◌||◌}
use Rattle.c_types.specs.declared.kinds.CType.{CType}
use Rattle.c_types.specs.declared.kinds.CType.TheVariants as k
use Rattle.c_types.specs.declared.kinds.Field.{Field}
use Rattle.c_types.specs.declared.kinds.TypeError.{TypeError}
use Rattle.c_types.specs.Shapes.{Shape, Members, is_complete, is_flexible, is_open, size, number_of}
use Rattle.c_types.specs.Shapes as s
use Rattle.c_types.specs.Table.{Types, HasSize, kind_of, fields_by, fields_of, tagged, shape_of, shape_of_kind, members_from, members_of_fields}
use Rattle.c_types.specs.Adding.{first_of, any, before_last, misplaced, shapes, members_fault, has_two_of_a_name, is_empty}
use Rattle.c_types.specs.Holds.{IsTable, IsTag, IsWhole, AreWhole, IsTreeOf}
use Rattle.layout_table.specs.Strides.{IsSound, AreSound}
use Rattle.layout_table.proofs.Entries.{number_is}

-- ---- trees of types that have a size

pub complete : (types : Types) (shape : Shape) → IsWhole types shape → is_complete shape ≡ true
complete types (s.Void n) h = absurd h
complete types (s.Whole n width signed) h = refl
complete types (s.Pointer n to) h = refl
complete types (s.Array n of count) h = complete types of h.1
complete types (s.Open n of) h = absurd h
complete types (s.Struct n members) h = refl
complete types (s.Union n members) h = refl
complete types (s.Incomplete n) h = absurd h

tree_of : (types : Types) (shape : Shape) → IsWhole types shape → IsTreeOf types shape
tree_of types (s.Void n) h = absurd h
tree_of types (s.Whole n width signed) h = h.0
tree_of types (s.Pointer n to) h = h.0
tree_of types (s.Array n of count) h = h.0
tree_of types (s.Open n of) h = absurd h
tree_of types (s.Struct n members) h = h.0
tree_of types (s.Union n members) h = h.0
tree_of types (s.Incomplete n) h = absurd h

pub has_size : (types : Types) (shape : Shape) → IsWhole types shape → HasSize types (number_of shape)
has_size types shape h =
    let t : IsTreeOf types shape = tree_of types shape h in
    (t.0, subst (λ x. is_complete x ≡ true) (sym t.1) (complete types shape h))

-- of the tree of a number
pub number_has_size : (types : Types) (n : ℕ) → IsWhole types (shape_of types n) → HasSize types n
number_has_size types n h = subst (λ m. HasSize types m) (number_is types n) (has_size types (shape_of types n) h)

module _ (types : Types) (table : IsTable types) where
  pub positive : (shape : Shape) → IsWhole types shape → 0 < size shape
  positive shape h =
      let t : IsTreeOf types shape = tree_of types shape h in
      let z : (1 ≤ size (shape_of types (number_of shape))) × (size (shape_of types (number_of shape)) ≤ 1048559) =
      table.sized (number_of shape) (has_size types shape h).1 in
      subst (λ x. 0 < size x) t.1 (omega (arith, z.0))

  mutual
    pub sound : (shape : Shape) → IsWhole types shape → IsSound shape
    sound (s.Void n) h = absurd h
    sound (s.Whole n width signed) h = tt
    sound (s.Pointer n to) h = tt
    sound (s.Array n of count) h = (omega (arith, h.3), positive of h.1, sound of h.1)
    sound (s.Open n of) h = absurd h
    sound (s.Struct n members) h = members_sound members h.1
    sound (s.Union n members) h = members_sound members h.1
    sound (s.Incomplete n) h = absurd h

    members_sound : (members : Members) → AreWhole types members → AreSound members
    members_sound s.None_left h = tt
    members_sound (s.Member first rest) h = (positive first h.0, sound first h.0, members_sound rest h.2)
    members_sound (s.Flexible n of) h = (positive of h.1, sound of h.1)

  -- ---- the tree of a number

  pub by_kind : (t : ℕ) (kind : CType) → kind_of types t ≡ Some kind →
      shape_of types t ≡ shape_of_kind types.tags (shape_of types) t (Some kind)
  by_kind t kind e = table.trees t ∙ ap (shape_of_kind types.tags (shape_of types) t) e

  pub whole : (t : ℕ) → HasSize types t → IsWhole types (shape_of types t)
  whole t h = table.whole t h.1

  -- an array
  pub array_is : (t of count : ℕ) → kind_of types t ≡ Some (k.Array of count) →
      shape_of types t ≡ s.Array t (shape_of types of) count
  array_is t of count e = by_kind t (k.Array of count) e

  pub array_whole : (t of count : ℕ) → kind_of types t ≡ Some (k.Array of count) → HasSize types t →
      (1 ≤ count) × HasSize types of
  array_whole t of count e h =
      let w : IsWhole types (s.Array t (shape_of types of) count) = subst (IsWhole types) (array_is t of count e)
      (whole t h) in
      (w.3, number_has_size types of w.1)

  -- a struct or a union
  tagged_whole : (make : Members → Shape) (t : ℕ) (fields : List Field) →
      is_complete (tagged make (shape_of types) t fields) ≡ true →
      tagged make (shape_of types) t fields ≡ make (members_of_fields (shape_of types) fields)
  tagged_whole make t [] e = cc
  tagged_whole make t (f ∷ fields) e = refl

  tagged_filled : (make : Members → Shape) (t : ℕ) (fields : List Field) →
      is_complete (tagged make (shape_of types) t fields) ≡ true → fields ≢ []
  tagged_filled make t [] e = λ f. absurd (lies e)
    where
      lies : false ≡ true → ⊥
      lies e = cc
  tagged_filled make t (f ∷ fields) e = λ g. absurd (differ g)
    where
      differ : f ∷ fields ≡ [] → ⊥
      differ g = cc

  is_whole_by : (t : ℕ) (kind : CType) → kind_of types t ≡ Some kind → HasSize types t →
      is_complete (shape_of_kind types.tags (shape_of types) t (Some kind)) ≡ true
  is_whole_by t kind e h = subst (λ x. is_complete x ≡ true) (by_kind t kind e) h.1

  pub struct_is : (t tag : ℕ) → kind_of types t ≡ Some (k.Struct tag) → HasSize types t →
      shape_of types t ≡ s.Struct t (members_of_fields (shape_of types) (fields_of types.tags tag))
  struct_is t tag e h = by_kind t (k.Struct tag) e ∙ tagged_whole (s.Struct t) t (fields_of types.tags tag)
      (is_whole_by t (k.Struct tag) e h)

  pub union_is : (t tag : ℕ) → kind_of types t ≡ Some (k.Union tag) → HasSize types t →
      shape_of types t ≡ s.Union t (members_of_fields (shape_of types) (fields_of types.tags tag))
  union_is t tag e h = by_kind t (k.Union tag) e ∙ tagged_whole (s.Union t) t (fields_of types.tags tag) (is_whole_by
      t (k.Union tag) e h)

  pub struct_whole : (t tag : ℕ) → kind_of types t ≡ Some (k.Struct tag) → HasSize types t →
      AreWhole types (members_of_fields (shape_of types) (fields_of types.tags tag))
  struct_whole t tag e h =
      let w : IsWhole types (s.Struct t (members_of_fields (shape_of types) (fields_of types.tags tag))) = subst
      (IsWhole types) (struct_is t tag e h) (whole t h) in w.1

  pub union_whole : (t tag : ℕ) → kind_of types t ≡ Some (k.Union tag) → HasSize types t →
      AreWhole types (members_of_fields (shape_of types) (fields_of types.tags tag))
  union_whole t tag e h =
      let w : IsWhole types (s.Union t (members_of_fields (shape_of types) (fields_of types.tags tag))) = subst
      (IsWhole types) (union_is t tag e h) (whole t h) in w.1

-- ---- an open member is the last

abbrev pub OpenLast : (ℕ → Shape) → List Field → Type 0
OpenLast shape [] = Unit {0}
OpenLast shape (f ∷ fields) = (is_open (shape f.kind) ≡ true → fields ≡ []) × OpenLast shape fields

skip : (b : Bool) (why : TypeError) (rest : List (Bool × TypeError)) → first_of ((b, why) ∷ rest) ≡ None →
    (b ≡ false) × (first_of rest ≡ None)
skip true why rest e = cc
skip false why rest e = (refl, e)

neither : (a b : Bool) → (a || b) ≡ false → (a ≡ false) × (b ≡ false)
neither true b e = cc
neither false b e = (refl, e)

before_last_closed : (shape : ℕ → Shape) (fields : List Field) → any is_open (before_last (shapes shape fields)) ≡
    false → OpenLast shape fields
before_last_closed shape [] e = tt
before_last_closed shape (f ∷ []) e = (λ o. refl, tt)
before_last_closed shape (f ∷ g ∷ fields) e =
    let n : (is_open (shape f.kind) ≡ false) × (any is_open (before_last (shapes shape (g ∷ fields))) ≡ false) =
    neither (is_open (shape f.kind)) (any is_open (before_last (shapes shape (g ∷ fields)))) e in
    (λ o. absurd (lies (is_open (shape f.kind)) o n.0), before_last_closed shape (g ∷ fields) n.1)
  where
    lies : (b : Bool) → b ≡ true → b ≡ false → ⊥
    lies true e f = cc
    lies false e f = cc

all_closed : (shape : ℕ → Shape) (fields : List Field) → any is_open (shapes shape fields) ≡ false →
    OpenLast shape fields
all_closed shape [] e = tt
all_closed shape (f ∷ fields) e =
    let n : (is_open (shape f.kind) ≡ false) × (any is_open (shapes shape fields) ≡ false) = neither (is_open (shape
    f.kind)) (any is_open (shapes shape fields)) e in
    (λ o. absurd (lies (is_open (shape f.kind)) o n.0), all_closed shape fields n.1)
  where
    lies : (b : Bool) → b ≡ true → b ≡ false → ⊥
    lies true e f = cc
    lies false e f = cc

placed : (shape : ℕ → Shape) (union_tag : Bool) (n : ℕ) (fields : List Field) →
    members_fault shape union_tag n fields ≡ None → misplaced union_tag (shapes shape fields) ≡ false
placed shape union_tag n fields e =
    let a = (skip (has_two_of_a_name fields) _ _ e).1 in
    let b = (skip (is_empty (shapes shape fields)) _ _ a).1 in
    (neither (misplaced union_tag (shapes shape fields)) (any is_flexible (shapes shape fields)) (skip (misplaced
    union_tag (shapes shape fields) || any is_flexible (shapes shape fields)) _ _ b).0).0

open_last : (shape : ℕ → Shape) (union_tag : Bool) (fields : List Field) →
    misplaced union_tag (shapes shape fields) ≡ false → OpenLast shape fields
open_last shape true fields e = all_closed shape fields e
open_last shape false fields e = before_last_closed shape fields e

pub tag_open_last : (types : Types) (union_tag : Bool) (t tag : ℕ) → IsTag types union_tag t tag →
    OpenLast (shape_of types) (fields_of types.tags tag)
tag_open_last types union_tag t tag is =
    subst (OpenLast (shape_of types)) (sym (ap fields_by is.here)) (by_fields is.found.fields (λ n. placed (shape_of
    types) union_tag t is.found.fields (is.complete n)))
  where
    by_fields : (fields : List Field) → (fields ≢ [] → misplaced union_tag (shapes (shape_of types) fields) ≡ false)
        → OpenLast (shape_of types) fields
    by_fields [] h = tt
    by_fields (f ∷ fields) h = open_last (shape_of types) union_tag (f ∷ fields) (h (λ e. differ f fields e))
      where
        differ : (f : Field) (fields : List Field) → f ∷ fields ≡ [] → ⊥
        differ f fields e = cc

-- ---- members by fields

pub from_member : (shape : Shape) (rest : Members) → is_open shape ≡ false →
    members_from shape rest ≡ s.Member shape rest
from_member (s.Void n) rest e = refl
from_member (s.Whole n width signed) rest e = refl
from_member (s.Pointer n to) rest e = refl
from_member (s.Array n of count) rest e = refl
from_member (s.Open n of) rest e = cc
from_member (s.Struct n members) rest e = refl
from_member (s.Union n members) rest e = refl
from_member (s.Incomplete n) rest e = refl

pub from_open : (shape : Shape) (rest : Members) → is_open shape ≡ true → (n : ℕ) × (of : Shape) ×
    (shape ≡ s.Open n of) × (members_from shape rest ≡ s.Flexible n of)
from_open (s.Void n) rest e = cc
from_open (s.Whole n width signed) rest e = cc
from_open (s.Pointer n to) rest e = cc
from_open (s.Array n of count) rest e = cc
from_open (s.Open n of) rest e = (n, of, refl, refl)
from_open (s.Struct n members) rest e = cc
from_open (s.Union n members) rest e = cc
from_open (s.Incomplete n) rest e = cc
