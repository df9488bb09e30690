-- The tier in which types match, by what they are made of.
use Rattle.std.proofs.Common.{◌≡◌, ℕ, List, [], ◌∷◌, length, Bool, true, false, cond, Some, None, sym, ap, ◌∙◌, refl, arith}
use Rattle.std.specs.Prelude.{Option, ◌==◌}
use Rattle.std.proofs.lemmas.Bool.Decides.{nat_tests}
use Rattle.c_types.specs.declared.kinds.CType.{CType}
use Rattle.c_types.specs.declared.kinds.CType.TheVariants.{Void, Num, Pointer, Array, Flexible, Struct, Union}
use Rattle.c_types.specs.declared.kinds.Field.{Field}
use Rattle.c_types.specs.Shapes.{Shape, Members, is_open, number_of}
use Rattle.c_types.specs.Shapes as s
use Rattle.c_types.specs.Table.{Types, Tag, kind_of, fields_of, tagged, shape_of, shape_of_kind, shape_within}
use Rattle.type_layout.specs.Matches.{tier_of, has_width, one_width, is_pointer_beside, void_pointers}
use Rattle.layout_table.specs.Known.{is_open_kind, key_of_kind, tier_of_kinds}
use Rattle.layout_table.specs.Stored.{key_of}
use Rattle.layout_table.proofs.Entries.{number_is}

-- a struct or a union has no width and is no pointer
tagged_width : (whole : Members → Shape) (shape : ℕ → Shape) (w n : ℕ) (fields : List Field) →
    ((members : Members) → has_width w (whole members) ≡ false) →
    has_width w (tagged whole shape n fields) ≡ false
tagged_width whole shape w n [] h = refl
tagged_width whole shape w n (f ∷ fields) h = h _

tagged_pointer : (whole : Members → Shape) (shape : ℕ → Shape) (b : Bool) (n : ℕ) (fields : List Field) →
    ((members : Members) → is_pointer_beside b (whole members) ≡ false) →
    is_pointer_beside b (tagged whole shape n fields) ≡ false
tagged_pointer whole shape b n [] h = refl
tagged_pointer whole shape b n (f ∷ fields) h = h _

module _ (tags : List Tag) (shape : ℕ → Shape) where
  abbrev of : ℕ → CType → Shape
  of n kind = shape_of_kind tags shape n (Some kind)

  -- beside a number of a width
  width_tier : (w n : ℕ) (signed : Bool) (want : CType) → cond (has_width w (of n want)) (Some 1) None ≡
      tier_of_kinds (Num w signed) want
  width_tier w n signed Void = refl
  width_tier w n signed (Num v t) = swapped w v
    where
      swapped : (a b : ℕ) → cond {A = Option ℕ} (b == a) (Some 1) None ≡ cond {A = Option ℕ} (a == b) (Some 1) None
      swapped a b = ap (λ x. cond {A = Option ℕ} x (Some 1) None) (same a b)
        where
          same : (a b : ℕ) → (b == a) ≡ (a == b)
          same a b = grind (arith, nat_tests)
  width_tier w n signed (Pointer to) = refl
  width_tier w n signed (Array at count) = refl
  width_tier w n signed (Flexible at) = refl
  width_tier w n signed (Struct tag) = ap (λ b. cond {A = Option ℕ} b (Some 1) None) (tagged_width (s.Struct n) shape
      w n (fields_of tags tag) (λ members. refl))
  width_tier w n signed (Union tag) = ap (λ b. cond {A = Option ℕ} b (Some 1) None) (tagged_width (s.Union n) shape w
      n (fields_of tags tag) (λ members. refl))

  -- beside a pointer
  pointer_tier : (to n : ℕ) (want : CType) → cond (is_pointer_beside (to == 1) (of n want)) (Some 2) None ≡
      tier_of_kinds (Pointer to) want
  pointer_tier to n Void = refl
  pointer_tier to n (Num v t) = refl
  pointer_tier to n (Pointer too) = refl
  pointer_tier to n (Array at count) = refl
  pointer_tier to n (Flexible at) = refl
  pointer_tier to n (Struct tag) = ap (λ b. cond {A = Option ℕ} b (Some 2) None) (tagged_pointer (s.Struct n) shape
      (to == 1) n (fields_of tags tag) (λ members. refl))
  pointer_tier to n (Union tag) = ap (λ b. cond {A = Option ℕ} b (Some 2) None) (tagged_pointer (s.Union n) shape (to
      == 1) n (fields_of tags tag) (λ members. refl))

  abbrev other_tier : Shape → Shape → Option ℕ
  other_tier kind want = cond (one_width kind want) (Some 1) (cond (void_pointers kind want) (Some 2) None)

  -- a struct or a union matches nothing else
  tagged_tier : (whole : Members → Shape) (n : ℕ) (fields : List Field) (want : Shape) → ((members : Members) →
      other_tier (whole members) want ≡ None) →
      other_tier (tagged whole shape n fields) want ≡ None
  tagged_tier whole n [] want h = refl
  tagged_tier whole n (f ∷ fields) want h = h _

  pub tier_is : (m n : ℕ) (kind want : CType) → other_tier (of m kind) (of n want) ≡ tier_of_kinds kind want
  tier_is m n Void want = refl
  tier_is m n (Num w signed) want = width_tier w n signed want
  tier_is m n (Pointer to) want = pointer_tier to n want
  tier_is m n (Array at count) want = refl
  tier_is m n (Flexible at) want = refl
  tier_is m n (Struct tag) want = tagged_tier (s.Struct m) m (fields_of tags tag) (of n want) (λ members. refl)
  tier_is m n (Union tag) want = tagged_tier (s.Union m) m (fields_of tags tag) (of n want) (λ members. refl)

same_numbers : (a b : ℕ) → a ≡ b → (a == b) ≡ true
same_numbers a b e = grind (arith, nat_tests)

other_numbers : (a b : ℕ) → (a ≡ b → ⊥) → (a == b) ≡ false
other_numbers a b e = grind (arith, nat_tests)

tier_step : (a b : Shape) (t : Bool) → (number_of a == number_of b) ≡ t → t ≡ false →
    tier_of a b ≡ cond (one_width a b) (Some 1) (cond (void_pointers a b) (Some 2) None)
tier_step a b true e f = cc
tier_step a b false e f = rw e refl

kinds_step : (types : Types) (shape : ℕ → Shape) (a b : ℕ) (kind want : CType) → kind_of types a ≡ Some kind →
    kind_of types b ≡ Some want →
    other_tier types.tags shape (shape_of_kind types.tags shape a (kind_of types a)) (shape_of_kind types.tags shape
    b (kind_of types b)) ≡ tier_of_kinds kind want
kinds_step types shape a b kind want e f =
    ap (λ k. other_tier types.tags shape (shape_of_kind types.tags shape a k) (shape_of_kind types.tags shape b
    (kind_of types b))) e ∙
    ap (λ k. other_tier types.tags shape (shape_of_kind types.tags shape a (Some kind)) (shape_of_kind types.tags
    shape b k)) f ∙
    tier_is types.tags shape a b kind want

differ : (types : Types) (a b : ℕ) → (a ≡ b → ⊥) → number_of (shape_of types a) ≡ number_of (shape_of types b) → ⊥
differ types a b n e = n (sym (number_is types a) ∙ e ∙ number_is types b)

pub tier_known : (types : Types) (a b : ℕ) (kind want : CType) → kind_of types a ≡ Some kind →
    kind_of types b ≡ Some want → (a ≡ b → ⊥) →
    tier_of (shape_of types a) (shape_of types b) ≡ tier_of_kinds kind want
unfolding shape_of
tier_known types a b kind want e f n =
    tier_step (shape_of types a) (shape_of types b) (number_of (shape_of types a) == number_of (shape_of types b)) refl
    (other_numbers (number_of (shape_of types a)) (number_of (shape_of types b)) (differ types a b n)) ∙
    kinds_step types (shape_within (length types.kinds) types) a b kind want e f

pub tier_of_same : (types : Types) (a b : ℕ) → a ≡ b → tier_of (shape_of types a) (shape_of types b) ≡ Some 1
tier_of_same types a b e =
    rw (same_numbers (number_of (shape_of types a)) (number_of (shape_of types b)) (ap (λ n. number_of (shape_of
    types n)) e)) refl

-- ---- the key of a type

tagged_key : (whole : Members → Shape) (shape : ℕ → Shape) (n : ℕ) (fields : List Field) → ((members : Members) →
    key_of (whole members) ≡ n) →
    key_of (tagged whole shape n fields) ≡ n
tagged_key whole shape n [] h = refl
tagged_key whole shape n (f ∷ fields) h = h _

key_by : (tags : List Tag) (shape : ℕ → Shape) (n : ℕ) (kind : CType) →
    key_of (shape_of_kind tags shape n (Some kind)) ≡ key_of_kind kind n
key_by tags shape n Void = refl
key_by tags shape n (Num width signed) = refl
key_by tags shape n (Pointer to) = refl
key_by tags shape n (Array of count) = refl
key_by tags shape n (Flexible of) = refl
key_by tags shape n (Struct tag) = tagged_key (s.Struct n) shape n (fields_of tags tag) (λ members. refl)
key_by tags shape n (Union tag) = tagged_key (s.Union n) shape n (fields_of tags tag) (λ members. refl)

key_step : (types : Types) (shape : ℕ → Shape) (n : ℕ) (kind : CType) → kind_of types n ≡ Some kind →
    key_of (shape_of_kind types.tags shape n (kind_of types n)) ≡ key_of_kind kind n
key_step types shape n kind e = ap (λ k. key_of (shape_of_kind types.tags shape n k)) e ∙ key_by types.tags shape n kind

pub key_known : (types : Types) (n : ℕ) (kind : CType) → kind_of types n ≡ Some kind →
    key_of (shape_of types n) ≡ key_of_kind kind n
unfolding shape_of
key_known types n kind e = key_step types (shape_within (length types.kinds) types) n kind e

-- ---- whether an array is open at its end

tagged_open : (whole : Members → Shape) (shape : ℕ → Shape) (n : ℕ) (fields : List Field) → ((members : Members) →
    is_open (whole members) ≡ false) →
    is_open (tagged whole shape n fields) ≡ false
tagged_open whole shape n [] h = refl
tagged_open whole shape n (f ∷ fields) h = h _

open_by : (tags : List Tag) (shape : ℕ → Shape) (n : ℕ) (kind : CType) →
    is_open (shape_of_kind tags shape n (Some kind)) ≡ is_open_kind kind
open_by tags shape n Void = refl
open_by tags shape n (Num width signed) = refl
open_by tags shape n (Pointer to) = refl
open_by tags shape n (Array of count) = refl
open_by tags shape n (Flexible of) = refl
open_by tags shape n (Struct tag) = tagged_open (s.Struct n) shape n (fields_of tags tag) (λ members. refl)
open_by tags shape n (Union tag) = tagged_open (s.Union n) shape n (fields_of tags tag) (λ members. refl)

open_step : (types : Types) (shape : ℕ → Shape) (n : ℕ) (kind : CType) → kind_of types n ≡ Some kind →
    is_open (shape_of_kind types.tags shape n (kind_of types n)) ≡ is_open_kind kind
open_step types shape n kind e = ap (λ k. is_open (shape_of_kind types.tags shape n k)) e ∙
    open_by types.tags shape n kind

pub open_known : (types : Types) (n : ℕ) (kind : CType) → kind_of types n ≡ Some kind →
    is_open (shape_of types n) ≡ is_open_kind kind
unfolding shape_of
open_known types n kind e = open_step types (shape_within (length types.kinds) types) n kind e
