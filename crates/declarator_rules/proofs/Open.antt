-- Types that are open at their end.
use Rattle.std.proofs.Common.{◌≡◌, refl, ◌∙◌, ap, ℕ, ◌+◌, Bool, true, false, ◌||◌, List, [], ◌∷◌, Option, Some, None, if◌then◌else◌}
use Rattle.c_types.specs.declared.kinds.CType.{CType}
use Rattle.c_types.specs.declared.kinds.CType.TheVariants.{Void, Num, Pointer, Array, Flexible, Struct, Union}
use Rattle.c_types.specs.declared.kinds.Field.{Field}
use Rattle.c_types.specs.declared.kinds.Member.{Member}
use Rattle.c_types.specs.Adding.{any}
use Rattle.c_types.specs.Shapes as s
use Rattle.c_types.specs.Shapes.{Shape, Members, is_open, is_flexible, ends_open, next_offset, size}
use Rattle.c_types.specs.Table.{Types, Tag, HasTrees, kind_of, shape_of, shape_of_kind, tagged, fields_of, members, members_by, members_from, members_of_fields, struct_members}
use Rattle.well_typed.specs.Kinds.{element, element_by}
use Rattle.declaration_rules.specs.Parts.{element_if_open}
use Rattle.declarator_rules.specs.Flexible.{flexible_by}

-- its elements are those of the array
pub element_if_flexible : (types : Types) (n of : ℕ) → HasTrees types → kind_of types n ≡ Some (Flexible of) →
    element_if_open types n ≡ Some of
unfolding element
element_if_flexible types n of trees here =
    let tree = trees n ∙ ap (λ (k : Option CType). shape_of_kind types.tags (shape_of types) n k) here in
    ap (λ (shape : Shape). if is_open shape then element_by (kind_of types n) else None) tree ∙ ap element_by here

-- ---- by the kind of a type

abbrev pub open_by : Option CType → Bool
open_by (Some (Flexible of)) = true
open_by (Some Void) = false
open_by (Some (Num width signed)) = false
open_by (Some (Pointer to)) = false
open_by (Some (Array of count)) = false
open_by (Some (Struct tag)) = false
open_by (Some (Union tag)) = false
open_by None = false

open-struct : (shape : ℕ → Shape) (n : ℕ) (fields : List Field) → is_open (tagged (s.Struct n) shape n fields) ≡ false
open-struct shape n [] = refl
open-struct shape n (f ∷ fields) = refl

open-union : (shape : ℕ → Shape) (n : ℕ) (fields : List Field) → is_open (tagged (s.Union n) shape n fields) ≡ false
open-union shape n [] = refl
open-union shape n (f ∷ fields) = refl

open-kind : (tags : List Tag) (shape : ℕ → Shape) (n : ℕ) (kind : Option CType) →
    is_open (shape_of_kind tags shape n kind) ≡ open_by kind
open-kind tags shape n None = refl
open-kind tags shape n (Some Void) = refl
open-kind tags shape n (Some (Num width signed)) = refl
open-kind tags shape n (Some (Pointer to)) = refl
open-kind tags shape n (Some (Array of count)) = refl
open-kind tags shape n (Some (Flexible of)) = refl
open-kind tags shape n (Some (Struct tag)) = open-struct shape n (fields_of tags tag)
open-kind tags shape n (Some (Union tag)) = open-union shape n (fields_of tags tag)

pub is_open-by : (types : Types) (n : ℕ) → HasTrees types → is_open (shape_of types n) ≡ open_by (kind_of types n)
is_open-by types n trees = ap is_open (trees n) ∙ open-kind types.tags (shape_of types) n (kind_of types n)

-- ---- structs with a flexible member

from-open : (first : Shape) (rest : Members) → ends_open (members_from first rest) ≡ (is_open first || ends_open rest)
from-open (s.Void n) rest = refl
from-open (s.Whole n width signed) rest = refl
from-open (s.Pointer n to) rest = refl
from-open (s.Array n of count) rest = refl
from-open (s.Open n of) rest = refl
from-open (s.Struct n members) rest = refl
from-open (s.Union n members) rest = refl
from-open (s.Incomplete n) rest = refl

open-members : (shape : ℕ → Shape) (end : ℕ) (fields : List Field) →
    ends_open (members_of_fields shape fields) ≡ any (λ (m : Member). is_open (shape m.kind)) (struct_members shape end fields)
open-members shape end [] = refl
open-members shape end (f ∷ fields) =
    from-open (shape f.kind) (members_of_fields shape fields)
    ∙ ap (λ (b : Bool). is_open (shape f.kind) || b)
    (open-members shape (next_offset (shape f.kind) end + size (shape f.kind)) fields)

flexible-struct : (shape : ℕ → Shape) (n : ℕ) (fields : List Field) →
    is_flexible (tagged (s.Struct n) shape n fields) ≡ any (λ (m : Member). is_open (shape m.kind)) (struct_members shape 0 fields)
flexible-struct shape n [] = refl
flexible-struct shape n (f ∷ fields) = open-members shape 0 (f ∷ fields)

flexible-union : (shape : ℕ → Shape) (n : ℕ) (fields : List Field) → is_flexible (tagged (s.Union n) shape n fields) ≡ false
flexible-union shape n [] = refl
flexible-union shape n (f ∷ fields) = refl

flexible-kind : (tags : List Tag) (shape : ℕ → Shape) (n : ℕ) (kind : Option CType) →
    is_flexible (shape_of_kind tags shape n kind) ≡ flexible_by shape (members_by tags shape kind) kind
flexible-kind tags shape n None = refl
flexible-kind tags shape n (Some Void) = refl
flexible-kind tags shape n (Some (Num width signed)) = refl
flexible-kind tags shape n (Some (Pointer to)) = refl
flexible-kind tags shape n (Some (Array of count)) = refl
flexible-kind tags shape n (Some (Flexible of)) = refl
flexible-kind tags shape n (Some (Struct tag)) = flexible-struct shape n (fields_of tags tag)
flexible-kind tags shape n (Some (Union tag)) = flexible-union shape n (fields_of tags tag)

pub is_flexible-by : (types : Types) (n : ℕ) → HasTrees types →
    is_flexible (shape_of types n) ≡ flexible_by (shape_of types) (members types n) (kind_of types n)
unfolding members
is_flexible-by types n trees =
    ap is_flexible (trees n) ∙ flexible-kind types.tags (shape_of types) n (kind_of types n)
