-- Lists of a known length whose last items were taken, one after another.
use Rattle.std.proofs.Common.{◌≡◌, ◌∙◌, ap, refl, arith, ℕ, ◌+◌, List, [], ◌∷◌, ◌++◌, length, length-append}

pub is_empty : {A : Type 0} (xs : List A) → length xs ≡ 0 → xs ≡ []
is_empty [] size = refl
is_empty (x ∷ xs) size = absurd (omega (arith, size))

pub one_last : {A : Type 0} (xs ys : List A) (x : A) → length xs ≡ 1 → xs ≡ ys ++ x ∷ [] → xs ≡ x ∷ []
one_last xs ys x size is =
    let bare : ys ≡ [] = is_empty ys (omega (arith, size, ap length is, length-append ys (x ∷ []))) in
    is ∙ ap (λ front. front ++ x ∷ []) bare

pub two_last : {A : Type 0} (xs ys zs : List A) (y x : A) → length xs ≡ 2 → xs ≡ ys ++ y ∷ [] → ys ≡ zs ++ x ∷ [] → xs ≡ x ∷ y ∷ []
two_last xs ys zs y x size is before =
    let left : length ys ≡ 1 = omega (arith, size, ap length is, length-append ys (y ∷ [])) in
    is ∙ ap (λ front. front ++ y ∷ []) (one_last ys zs x left before)

pub three_last : {A : Type 0} (xs ys zs ws : List A) (z y x : A) → length xs ≡ 3 → xs ≡ ys ++ z ∷ [] → ys ≡ zs ++ y ∷ [] → zs ≡ ws ++ x ∷ [] →
    xs ≡ x ∷ y ∷ z ∷ []
three_last xs ys zs ws z y x size is before first =
    let left : length ys ≡ 2 = omega (arith, size, ap length is, length-append ys (z ∷ [])) in
    is ∙ ap (λ front. front ++ z ∷ []) (two_last ys zs ws y x left before first)
