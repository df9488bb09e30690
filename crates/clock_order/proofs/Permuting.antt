-- Lists that are joined in another order are a rearrangement.
use Rattle.std.proofs.Common.{ℕ, zero, suc, ◌<◌, List, [], ◌∷◌, ◌++◌, length, get_or, IsPermutation, sym, subst, arith, append_assoc}
use Rattle.std.specs.List.{flat_map, AllByRecursion}
use Rattle.std.specs.List as lists
use Rattle.std.proofs.Math.ListN.{set}
use Rattle.std.proofs.lemmas.List.Edits.{swap_is}
use Rattle.std.proofs.lemmas.List.Elements.{All-from_recursion, recursion_from_All}
use Rattle.std.proofs.lemmas.List.Sorted.{IsPermutation-refl, IsPermutation-trans, IsPermutation-append_comm, IsPermutation-append_left, IsPermutation-append_right, IsPermutation-keeps, All-permutation}

exchange : {X : Type 0} (xs ys zs : List X) → IsPermutation (xs ++ (ys ++ zs)) (ys ++ (xs ++ zs))
exchange {X} xs ys zs =
    let p : IsPermutation ((xs ++ ys) ++ zs) ((ys ++ xs) ++ zs) =
    IsPermutation-append_left zs (xs ++ ys) (ys ++ xs) (IsPermutation-append_comm xs ys) in
    simp append_assoc at p

-- x goes to the place j, and what stood there comes to the front
put : {X A : Type 0} (f : X → List A) (x : X) (xs : List X) (j : ℕ) (d : X) → j < length xs
    → IsPermutation (f x ++ flat_map f xs) (f (get_or xs j d) ++ flat_map f (set xs j x))
put f x [] j d h = absurd (omega arith)
put f x (y ∷ ys) zero d h = exchange (f x) (f y) (flat_map f ys)
put f x (y ∷ ys) (suc j) d h =
    IsPermutation-trans _ _ _ (exchange (f x) (f y) (flat_map f ys))
    (IsPermutation-trans _ _ _
    (IsPermutation-append_right (f y) (f x ++ flat_map f ys) (f (get_or ys j d) ++ flat_map f (set ys j x))
    (put f x ys j d (omega arith)))
    (exchange (f y) (f (get_or ys j d)) (flat_map f (set ys j x))))

swapped : {X A : Type 0} (f : X → List A) (xs : List X) (i j : ℕ) → i < length xs → j < length xs
    → IsPermutation (flat_map f xs) (flat_map f (lists.swap xs i j))
swapped f [] i j lo hi = absurd (omega arith)
swapped f (x ∷ xs) zero zero lo hi = IsPermutation-refl (flat_map f (x ∷ xs))
swapped f (x ∷ xs) zero (suc j) lo hi = put f x xs j x (omega arith)
swapped f (x ∷ xs) (suc i) zero lo hi = put f x xs i x (omega arith)
swapped f (x ∷ xs) (suc i) (suc j) lo hi =
    let inside : i < length xs = omega arith in
    let within : j < length xs = omega arith in
    IsPermutation-append_right (f x) (flat_map f xs) (flat_map f (set (set xs i (get_or xs j x)) j (get_or xs i x)))
    (subst (λ ys. IsPermutation (flat_map f xs) (flat_map f ys)) (sym (swap_is xs i j x inside within))
    (swapped f xs i j inside within))

pub flat_map-permutes : {X A : Type 0} (f : X → List A) (xs ys : List X) → IsPermutation xs ys
    → IsPermutation (flat_map f xs) (flat_map f ys)
flat_map-permutes f xs ys p =
    IsPermutation-keeps xs (λ l. IsPermutation (flat_map f xs) (flat_map f l)) (IsPermutation-refl (flat_map f xs))
    (λ l i j lo hi so. IsPermutation-trans _ _ _ so (swapped f l i j lo hi)) ys p

pub all-permuted : {X : Type 0} (P : X → Type 0) (xs ys : List X) → IsPermutation xs ys → AllByRecursion P xs
    → AllByRecursion P ys
all-permuted P xs ys p all = recursion_from_All P ys (All-permutation P xs ys p (All-from_recursion P xs all))

pub all-append : {X : Type 0} (P : X → Type 0) (xs ys : List X) → AllByRecursion P xs → AllByRecursion P ys
    → AllByRecursion P (xs ++ ys)
all-append P [] ys all more = more
all-append P (x ∷ xs) ys all more = (all.0, all-append P xs ys all.1 more)

pub all-flat_map : {X A : Type 0} (P : A → Type 0) (f : X → List A) (xs : List X)
    → AllByRecursion (λ x. AllByRecursion P (f x)) xs → AllByRecursion P (flat_map f xs)
all-flat_map P f [] all = tt
all-flat_map P f (x ∷ xs) all = all-append P (f x) (flat_map f xs) all.0 (all-flat_map P f xs all.1)
