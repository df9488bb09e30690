-- The ends of lists: the last stamp, one value more, and the last two passes.
use Rattle.std.proofs.Common.{◌≡◌, ⊎_elim, subst, ◌++◌, ℕ, zero, suc, ◌-◌, List, [], ◌∷◌, length, Some, sym, ap, ◌∙◌}
use Rattle.std.proofs.Common.{arith, length-append}
use Rattle.std.specs.Prelude.{slice_get}
use lib.ListN.{get_elem?}
use Rattle.heap_model.specs.declared.calls.Entry.{Entry}
use Rattle.region_lock.specs.Entries.{last_from, last_stamp}
use Rattle.region_lock.proofs.Sums.{at_end}
use Rattle.lock_tests.specs.Fresh.{IsFresh}

last_at : (b : ℕ) (xs : List Entry) (k : ℕ) (x : Entry) → slice_get xs k ≡ Some x → length xs ≡ suc k
    → last_from b xs ≡ x.stamp
last_at b [] k x e n = absurd (omega arith)
last_at b (y ∷ []) zero x e n = let t : y ≡ x = cc in ap (λ (z : Entry). z.stamp) t
last_at b (y ∷ []) (suc k) x e n = absurd (omega arith)
last_at b (y ∷ z ∷ xs) zero x e n = absurd (omega arith)
last_at b (y ∷ z ∷ xs) (suc k) x e n = last_at y.stamp (z ∷ xs) k x e (omega arith)

pub last_is : (xs : List Entry) (x : Entry) → Some x ≡ slice_get xs (length xs - 1) → x.stamp ≡ last_stamp xs
last_is [] x e = absurd (cc)
last_is (y ∷ ys) x e = sym (last_at 0 (y ∷ ys) (length (y ∷ ys) - 1) x (sym e) (omega arith))

-- one value more
pub fresh_more : {W E : Type 0} (region : W → ℕ) (list : W → List E) (values new : List W) (n : ℕ) (y : W)
    → length values ≡ n → IsFresh region list values → new ≡ values ++ y ∷ [] → region y ≡ suc n → list y ≡ []
    → IsFresh region list new
fresh_more {W} region list values new n y len fresh is at none k x e =
    ⊎_elim (λ was. fresh k x was)
    (λ (q : (k ≡ length values) × (y ≡ x)). subst (λ (z : W). (region z ≡ suc k) × (list z ≡ [])) q.1
    (at ∙ ap suc (sym len ∙ sym q.0), none))
    (at_end values y x k (ap (λ (l : List W). get_elem? l k) (sym is) ∙ e))

-- the two elements of a list, taken from its end
pub last_two : {A : Type 0} (xs : List A) (a b x y : A) → x ∷ y ∷ [] ≡ (xs ++ a ∷ []) ++ b ∷ [] → (a ≡ x) × (b ≡ y)
last_two [] a b x y e = (cc, cc)
last_two (z ∷ zs) a b x y e =
    absurd (omega (arith, ap length e, length-append (zs ++ a ∷ []) (b ∷ []), length-append zs (a ∷ [])))
