-- The last two elements of a list.
use Rattle.std.proofs.Common.{◌≡◌, ◌++◌, List, [], ◌∷◌, length, ap, arith, length-append}

-- the two elements of a list, taken from its end
pub last_two : {A : Type 0} (xs : List A) (a b x y : A) → x ∷ y ∷ [] ≡ (xs ++ a ∷ []) ++ b ∷ [] → (a ≡ x) × (b ≡ y)
last_two [] a b x y e = (cc, cc)
last_two (z ∷ zs) a b x y e =
    absurd (omega (arith, ap length e, length-append (zs ++ a ∷ []) (b ∷ []), length-append zs (a ∷ [])))
