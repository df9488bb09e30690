-- The last place of a name, as one more name is declared.
use Rattle.std.proofs.Common.{◌≡◌, ℕ, suc, ◌+◌, List, [], ◌∷◌, ◌++◌, length, Option, Some, None, cond, refl, ◌∙◌, arith}
use Rattle.std.specs.Prelude.{nat_eq}
use Rattle.scoped_names.specs.Names.{last_of, last_place}

last_of-push : (best : Option ℕ) (at : ℕ) (names : List ℕ) (new name : ℕ) →
    last_of best at (names ++ new ∷ []) name ≡ cond (nat_eq new name) (Some (at + length names)) (last_of best at names name)
last_of-push best at [] new name = let e : at + 0 ≡ at = omega arith in rw e refl
last_of-push best at (first ∷ rest) new name =
    let e : at + 1 + length rest ≡ at + suc (length rest) = omega arith in
    last_of-push (cond (nat_eq first name) (Some at) best) (at + 1) rest new name ∙ rw e refl

pub last_place-none : (name : ℕ) → last_place [] name ≡ None
unfolding last_place
last_place-none name = refl

pub last_place-push : (names : List ℕ) (new name : ℕ) →
    last_place (names ++ new ∷ []) name ≡ cond (nat_eq new name) (Some (length names)) (last_place names name)
unfolding last_place
last_place-push names new name =
    let e : 0 + length names ≡ length names = omega arith in
    last_of-push None 0 names new name ∙ rw e refl
