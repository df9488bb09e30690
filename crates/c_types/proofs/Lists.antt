-- Places of lists that grow at the end or change at one place.
use Rattle.std.proofs.Common.{◌≡◌, ◌⊎◌, ◌≢◌, ℕ, zero, suc, ◌+◌, ◌≤◌, ◌<◌, List, [], ◌∷◌, ◌++◌, length, Some, None, sym, ap, ◌∙◌, refl, arith, inl, inr, ⊎_elim, slice_get, slice_set, Contains, if◌then◌else◌, true, false, Bool}
use Rattle.c_types.specs.Table.{Tag, kind_in}
use Rattle.c_types.specs.declared.kinds.CType.{CType}
use Rattle.c_types.specs.Rows.{has_fields, unknown_tags}

pub get_push : {X : Type 0} (xs : List X) (k x : X) (p : ℕ) → slice_get (xs ++ k ∷ []) p ≡ Some x →
    (slice_get xs p ≡ Some x) ⊎ ((p ≡ length xs) × (x ≡ k))
get_push [] k x zero e = inr (refl, cc)
get_push [] k x (suc p) e = cc
get_push (y ∷ xs) k x zero e = inl e
get_push (y ∷ xs) k x (suc p) e = ⊎_elim inl (λ f. inr (ap suc f.0, f.1)) (get_push xs k x p e)

pub get_kept : {X : Type 0} (xs ys : List X) (x : X) (p : ℕ) → slice_get xs p ≡ Some x → slice_get (xs ++ ys) p ≡ Some x
get_kept [] ys x p e = cc
get_kept (y ∷ xs) ys x zero e = e
get_kept (y ∷ xs) ys x (suc p) e = get_kept xs ys x p e

pub get_last : {X : Type 0} (xs : List X) (k : X) → slice_get (xs ++ k ∷ []) (length xs) ≡ Some k
get_last [] k = refl
get_last (y ∷ xs) k = get_last xs k

pub get_within : {X : Type 0} (xs : List X) (x : X) (p : ℕ) → slice_get xs p ≡ Some x → suc p ≤ length xs
get_within [] x p e = cc
get_within (y ∷ xs) x zero e = omega arith
get_within (y ∷ xs) x (suc p) e = omega (arith, get_within xs x p e)

pub get_set : {X : Type 0} (xs : List X) (p q : ℕ) (y x : X) → slice_get (slice_set xs p y) q ≡ Some x →
    ((q ≡ p) × (x ≡ y)) ⊎ ((q ≢ p) × (slice_get xs q ≡ Some x))
get_set [] p q y x e = cc
get_set (z ∷ xs) zero zero y x e = inl (refl, cc)
get_set (z ∷ xs) zero (suc q) y x e = inr ((λ h. omega (arith, h)), e)
get_set (z ∷ xs) (suc p) zero y x e = inr ((λ h. omega (arith, h)), e)
get_set (z ∷ xs) (suc p) (suc q) y x e =
    ⊎_elim (λ f. inl (ap suc f.0, f.1)) (λ f. inr ((λ h. f.0 (omega (arith, h))), f.1)) (get_set xs p q y x e)

pub set_here : {X : Type 0} (xs : List X) (p : ℕ) (y x : X) → slice_get xs p ≡ Some x → slice_get (slice_set xs p y) p ≡ Some y
set_here [] p y x e = cc
set_here (z ∷ xs) zero y x e = refl
set_here (z ∷ xs) (suc p) y x e = set_here xs p y x e

pub set_other : {X : Type 0} (xs : List X) (p q : ℕ) (y : X) → q ≢ p → slice_get (slice_set xs p y) q ≡ slice_get xs q
set_other [] p q y other = refl
set_other (z ∷ xs) zero zero y other = absurd (other refl)
set_other (z ∷ xs) zero (suc q) y other = refl
set_other (z ∷ xs) (suc p) zero y other = refl
set_other (z ∷ xs) (suc p) (suc q) y other = set_other xs p q y (λ h. other (ap suc h))

pub kind_push : (kinds : List CType) (k x : CType) (n : ℕ) → kind_in (kinds ++ k ∷ []) n ≡ Some x →
    (kind_in kinds n ≡ Some x) ⊎ ((n ≡ suc (length kinds)) × (x ≡ k))
kind_push kinds k x zero e = cc
kind_push kinds k x (suc p) e = ⊎_elim inl (λ f. inr (ap suc f.0, f.1)) (get_push kinds k x p e)

pub kind_last : (kinds : List CType) (k : CType) → kind_in (kinds ++ k ∷ []) (suc (length kinds)) ≡ Some k
kind_last kinds k = get_last kinds k

-- ---- tags without members

abbrev weight : Bool → ℕ
weight b = if b then 0 else 1

pub unknown_push : (tags : List Tag) (tag : Tag) → tag.fields ≡ [] → unknown_tags (tags ++ tag ∷ []) ≡ suc (unknown_tags tags)
unknown_push [] tag empty = ap (λ fields. (if has_fields fields then 0 else 1) + 0) empty
unknown_push (t ∷ tags) tag empty =
    let inner : unknown_tags (tags ++ tag ∷ []) ≡ suc (unknown_tags tags) = unknown_push tags tag empty in
    omega (arith, inner)

pub unknown_set : (tags : List Tag) (p : ℕ) (old new : Tag) → slice_get tags p ≡ Some old → old.fields ≡ [] → has_fields new.fields ≡ true →
    suc (unknown_tags (slice_set tags p new)) ≡ unknown_tags tags
unknown_set [] p old new at empty full = cc
unknown_set (t ∷ tags) zero old new at empty full =
    let is : t ≡ old = cc in
    let before : weight (has_fields t.fields) ≡ weight false = ap weight (ap has_fields (ap (λ x. x.fields) is ∙ empty)) in
    let after : weight (has_fields new.fields) ≡ weight true = ap weight full in
    omega (arith, before, after)
unknown_set (t ∷ tags) (suc p) old new at empty full = omega (arith, unknown_set tags p old new at empty full)
