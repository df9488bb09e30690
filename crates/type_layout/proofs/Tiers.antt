-- Types that are neither whole numbers nor pointers match their own type alone.
use Rattle.std.proofs.Common.{◌≡◌, ℕ, List, [], ◌∷◌, length, Bool, false, Some, None, sym, subst, refl, ◌∙◌, arith}
use Rattle.std.specs.Prelude.{◌==◌}
use Rattle.std.proofs.lemmas.Bool.Decides.{nat_tests}
use Rattle.c_types.specs.declared.kinds.CType.{CType}
use Rattle.c_types.specs.declared.kinds.CType.TheVariants as k
use Rattle.c_types.specs.declared.kinds.Field.{Field}
use Rattle.c_types.specs.Shapes.{Shape, Members, Void, Whole, Pointer, Array, Open, Struct, Union, Incomplete, number_of}
use Rattle.c_types.specs.Table.{Types, Tag, shape_of, shape_of_kind, shape_within, kind_of, tagged, fields_of}
use Rattle.type_layout.specs.Matches.{tier_of}
use Rattle.type_layout.proofs.Wholes.{number}

abbrev IsOther : Shape → Type 0
IsOther (Void n) = Unit {0}
IsOther (Whole n width signed) = ⊥
IsOther (Pointer n to) = ⊥
IsOther (Array n of count) = Unit {0}
IsOther (Open n of) = Unit {0}
IsOther (Struct n members) = Unit {0}
IsOther (Union n members) = Unit {0}
IsOther (Incomplete n) = Unit {0}

tagged_other : (whole : Members → Shape) (shape : ℕ → Shape) (n : ℕ) (fields : List Field) →
    ((members : Members) → IsOther (whole members)) →
    IsOther (tagged whole shape n fields)
tagged_other whole shape n [] h = tt
tagged_other whole shape n (f ∷ fields) h = h _

kind_other : (tags : List Tag) (shape : ℕ → Shape) (n : ℕ) (kind : CType) →
    ((width : ℕ) (signed : Bool) → kind ≡ k.Num width signed → ⊥) →
    ((to : ℕ) → kind ≡ k.Pointer to → ⊥) → IsOther (shape_of_kind tags shape n (Some kind))
kind_other tags shape n k.Void num pointer = tt
kind_other tags shape n (k.Num width signed) num pointer = num width signed refl
kind_other tags shape n (k.Pointer to) num pointer = pointer to refl
kind_other tags shape n (k.Array of count) num pointer = tt
kind_other tags shape n (k.Flexible of) num pointer = tt
kind_other tags shape n (k.Struct tag) num pointer =
    tagged_other (Struct n) shape n (fields_of tags tag) (λ members. tt)
kind_other tags shape n (k.Union tag) num pointer = tagged_other (Union n) shape n (fields_of tags tag) (λ members. tt)

no_tier : (s want : Shape) → IsOther s → (number_of s == number_of want) ≡ false → tier_of s want ≡ None
no_tier (Void n) want o e = rw e refl
no_tier (Whole n width signed) want o e = absurd o
no_tier (Pointer n to) want o e = absurd o
no_tier (Array n of count) want o e = rw e refl
no_tier (Open n of) want o e = rw e refl
no_tier (Struct n members) want o e = rw e refl
no_tier (Union n members) want o e = rw e refl
no_tier (Incomplete n) want o e = rw e refl

differ : (a b : ℕ) → (a ≡ b → ⊥) → (a == b) ≡ false
differ a b h = grind (arith, nat_tests)

pub other_tier : (types : Types) (n want : ℕ) (kind : CType) → kind_of types n ≡ Some kind →
    ((width : ℕ) (signed : Bool) → kind ≡ k.Num width signed → ⊥) → ((to : ℕ) → kind ≡ k.Pointer to → ⊥) →
    (n ≡ want → ⊥) →
    None ≡ tier_of (shape_of types n) (shape_of types want)
unfolding shape_of
other_tier types n want kind e num pointer not =
    let other : IsOther (shape_of types n) =
    subst (λ o. IsOther (shape_of_kind types.tags (shape_within (length types.kinds) types) n o)) (sym e)
    (kind_other types.tags (shape_within (length types.kinds) types) n kind num pointer) in
    let numbers : (number_of (shape_of types n) == number_of (shape_of types want)) ≡ false =
    differ _ _ (λ same. not (sym (number types n) ∙ same ∙ number types want)) in
    sym (no_tier (shape_of types n) (shape_of types want) other numbers)
