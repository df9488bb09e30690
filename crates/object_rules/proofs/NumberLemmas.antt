-- The place at which a name stands first, as one more name comes.
use Rattle.std.proofs.Common.{◌≡◌, refl, sym, ap, ◌∙◌, ℕ, suc, ◌+◌, Bool, true, false, cond, List, [], ◌∷◌, ◌++◌, length, Option, Some, None, zero-add, arith}
use Rattle.std.specs.Prelude.{nat_eq, nat_lt}
use Rattle.std.specs.BTreeMap.{BTreeMap, get, Updates}
use Rattle.std.specs.Ordering.{nat_cmp, is_eq}
use Rattle.std.specs.declared.cmp.Ordering.TheVariants.{Less, Equal, Greater}
use Rattle.std.proofs.lemmas.Bool.{eqb-true, ltb-true, ne_eqb}
use Rattle.declaration_rules.specs.Agreement.{number_from}
use Rattle.static_rules.specs.Predefined.{or_else}
use Rattle.object_rules.specs.Numbered.{AreNumbered}

-- ---- in the list

from-push : (n : ℕ) (names : List ℕ) (new name : ℕ) →
    number_from n (names ++ new ∷ []) name
    ≡ or_else (number_from n names name) (cond (nat_eq new name) (Some (n + length names)) None)
from-push n [] new name = let e : n + 0 ≡ n = omega arith in rw e refl
from-push n (first ∷ rest) new name = by_first (nat_eq first name) (from-push (n + 1) rest new name)
  where
    by_first : (b : Bool) →
        number_from (n + 1) (rest ++ new ∷ []) name
        ≡ or_else (number_from (n + 1) rest name) (cond (nat_eq new name) (Some (n + 1 + length rest)) None) →
        cond b (Some n) (number_from (n + 1) (rest ++ new ∷ []) name)
        ≡ or_else (cond b (Some n) (number_from (n + 1) rest name)) (cond (nat_eq new name) (Some (n + suc (length rest))) None)
    by_first true more = refl
    by_first false more = let e : n + 1 + length rest ≡ n + suc (length rest) = omega arith in more ∙ rw e refl

-- ---- in the map

none-else : (a : Option ℕ) (b : Bool) (n : ℕ) → (b ≡ true → a ≡ None) → cond b (Some n) a ≡ or_else a (cond b (Some n) None)
none-else (Some x) true n apart = absurd (let none = apart refl in cc)
none-else None true n apart = refl
none-else (Some x) false n apart = refl
none-else None false n apart = refl

by-order : (less same : Bool) → (less ≡ true → same ≡ false) → is_eq (cond less Less (cond same Equal Greater)) ≡ same
by-order true true apart = absurd (let no = apart refl in cc)
by-order true false apart = refl
by-order false true apart = refl
by-order false false apart = refl

same-number : (a b : ℕ) → is_eq (nat_cmp a b) ≡ nat_eq a b
same-number a b =
    by-order (nat_lt a b) (nat_eq a b) (λ less. ne_eqb a b (λ e. (let below = ltb-true a b less in absurd (omega (arith, e, below)))))

-- a name that has no number yet gets the next one
pub number_more : (old new : BTreeMap ℕ ℕ) (names : List ℕ) (name : ℕ) → AreNumbered old names → get nat_cmp old name ≡ None →
    Updates nat_cmp old new name (Some (length names)) → AreNumbered new (names ++ name ∷ [])
number_more old new names name numbered none updates = λ other.
    updates.0 other ∙ ap (λ b. cond b (Some (length names)) (get nat_cmp old other)) (same-number name other)
    ∙ ap (λ a. cond (nat_eq name other) (Some (length names)) a) (numbered other)
    ∙ none-else (number_from 0 names other) (nat_eq name other) (length names)
    (λ same. sym (numbered other) ∙ ap (λ n. get nat_cmp old n) (sym (eqb-true name other same)) ∙ none)
    ∙ ap (λ n. or_else (number_from 0 names other) (cond (nat_eq name other) (Some n) None)) (sym (zero-add (length names)))
    ∙ sym (from-push 0 names name other)

-- one that has a number keeps it
some-else : (a : Option ℕ) (x n : ℕ) (b : Bool) → (b ≡ true → a ≡ Some x) → a ≡ or_else a (cond b (Some n) None)
some-else (Some y) x n b is = refl
some-else None x n true is = absurd (let no = is refl in cc)
some-else None x n false is = refl

pub number_again : (numbers : BTreeMap ℕ ℕ) (names : List ℕ) (name number : ℕ) → AreNumbered numbers names →
    get nat_cmp numbers name ≡ Some number → AreNumbered numbers (names ++ name ∷ [])
number_again numbers names name number numbered some = λ other.
    numbered other
    ∙ some-else (number_from 0 names other) number (0 + length names) (nat_eq name other)
    (λ same. sym (numbered other) ∙ ap (λ n. get nat_cmp numbers n) (sym (eqb-true name other same)) ∙ some)
    ∙ sym (from-push 0 names name other)
