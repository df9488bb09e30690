-- Sums over lists that change at one place, facts on each element, and functions that change at one number.
use Rattle.std.proofs.Common.{◌≡◌, ◌≢◌, ◌⊎◌, ℕ, zero, suc, ◌+◌, ◌*◌, ◌<◌, ◌≤◌, List, [], ◌∷◌, ◌++◌, length, set, sym}
use Rattle.std.proofs.Common.{refl, ap, inl, inr, ⊎_elim, arith, cond, eqb, eq-eqb, ne_eqb}
use Rattle.std.specs.List.{AllByRecursion}
use mathlib.Core.Logic.{dite}
use native.Mathlib.Decide.{ℕ_discrete}
use mathlib.Core.Option.{some, some-injective, some-ne-none}
use lib.ListN.{get_elem?}
use Rattle.region_lock.specs.Weights.{total, below}

module _ {A : Type 0} where
  pub snoc_same : (xs : List A) (a b : A) → xs ++ a ∷ [] ≡ xs ++ b ∷ [] → a ≡ b
  snoc_same [] a b e = cc
  snoc_same (x ∷ xs) a b e = let t : xs ++ a ∷ [] ≡ xs ++ b ∷ [] = cc in snoc_same xs a b t

  pub each_map : (P Q : A → Type 0) (xs : List A) → ((x : A) → P x → Q x) → AllByRecursion P xs → AllByRecursion Q xs
  each_map P Q [] f h = tt
  each_map P Q (x ∷ xs) f h = (f x h.0, each_map P Q xs f h.1)

  pub each_both : (P Q : A → Type 0) (xs : List A) → AllByRecursion P xs → AllByRecursion Q xs → AllByRecursion
      (λ x. P x × Q x) xs
  each_both P Q [] h i = tt
  each_both P Q (x ∷ xs) h i = ((h.0, i.0), each_both P Q xs h.1 i.1)

  pub each_append : (P : A → Type 0) (xs ys : List A) → AllByRecursion P xs → AllByRecursion P ys → AllByRecursion P
      (xs ++ ys)
  each_append P [] ys h i = i
  each_append P (x ∷ xs) ys h i = (h.0, each_append P xs ys h.1 i)

  pub every : (P : A → Type 0) (xs : List A) → ((x : A) → P x) → AllByRecursion P xs
  every P [] f = tt
  every P (x ∷ xs) f = (f x, every P xs f)

  pub at_inside : (l : List A) (i : ℕ) (a : A) → get_elem? l i ≡ some a → i < length l
  at_inside [] i a e = absurd (some-ne-none a (sym e))
  at_inside (x ∷ xs) zero a e = omega arith
  at_inside (x ∷ xs) (suc i) a e = omega (arith, at_inside xs i a e)

  pub at_end : (l : List A) (a b : A) (j : ℕ) → get_elem? (l ++ a ∷ []) j ≡ some b → (get_elem? l j ≡ some b) ⊎
      ((j ≡ length l) × (a ≡ b))
  at_end [] a b zero e = inr (refl, some-injective a b e)
  at_end [] a b (suc j) e = absurd (some-ne-none b (sym e))
  at_end (x ∷ xs) a b zero e = inl e
  at_end (x ∷ xs) a b (suc j) e = ⊎_elim (λ h. inl h) (λ h. inr (ap suc h.0, h.1)) (at_end xs a b j e)

  -- f, but a at n
  abbrev pub upd : (ℕ → A) → ℕ → A → ℕ → A
  upd f n a m = cond (eqb m n) a (f m)

  pub upd_here : (f : ℕ → A) (n : ℕ) (a : A) (m : ℕ) → m ≡ n → upd f n a m ≡ a
  upd_here f n a m e = ap (λ b. cond b a (f m)) (eq-eqb m n e)

  pub upd_else : (f : ℕ → A) (n : ℕ) (a : A) (m : ℕ) → m ≢ n → upd f n a m ≡ f m
  upd_else f n a m ne = ap (λ b. cond b a (f m)) (ne_eqb m n ne)

  module _ (g : A → ℕ) where
    pub total-append : (l m : List A) → total g (l ++ m) ≡ total g l + total g m
    total-append [] m = omega arith
    total-append (x ∷ xs) m = omega (arith, total-append xs m)

    pub total-set : (l : List A) (j : ℕ) (v w : A) → get_elem? l j ≡ some v → total g
        (set l j w) + g v ≡ total g l + g w
    total-set [] j v w e = absurd (some-ne-none v (sym e))
    total-set (x ∷ xs) zero v w e = omega (arith, ap g (some-injective x v e))
    total-set (x ∷ xs) (suc j) v w e = omega (arith, total-set xs j v w e)

    pub term_le : (l : List A) (j : ℕ) (v : A) → get_elem? l j ≡ some v → g v ≤ total g l
    term_le [] j v e = absurd (some-ne-none v (sym e))
    term_le (x ∷ xs) zero v e = omega (arith, ap g (some-injective x v e))
    term_le (x ∷ xs) (suc j) v e = omega (arith, term_le xs j v e)

    pub terms_le : (l : List A) (j k : ℕ) (v u : A) → k ≢ j → get_elem? l j ≡ some v → get_elem? l k ≡ some u
        → g v + g u ≤ total g l
    terms_le [] j k v u n e d = absurd (some-ne-none v (sym e))
    terms_le (x ∷ xs) zero zero v u n e d = absurd (n refl)
    terms_le (x ∷ xs) zero (suc k) v u n e d = omega (arith, ap g (some-injective x v e), term_le xs k u d)
    terms_le (x ∷ xs) (suc j) zero v u n e d = omega (arith, ap g (some-injective x u d), term_le xs j v e)
    terms_le (x ∷ xs) (suc j) (suc k) v u n e d = omega (arith, terms_le xs j k v u (λ h. n (ap suc h)) e d)

-- each term at most 2 ^ 32
pub below_le : (h : ℕ → ℕ) (n : ℕ) → ((k : ℕ) → h k ≤ 4294967296) → below h n ≤ n * 4294967296
below_le h zero le = omega arith
below_le h (suc n) le = omega (arith, below_le h n le, le n)

pub below-same : (h g : ℕ → ℕ) (n : ℕ) → ((k : ℕ) → k < n → h k ≡ g k) → below h n ≡ below g n
below-same h g zero same = refl
below-same h g (suc n) same = omega (arith, same n (omega arith), below-same h g n (λ k l. same k (omega arith)))

-- a change at one number
pub below-change : (h g : ℕ → ℕ) (n i : ℕ) → i < n → ((k : ℕ) → k ≢ i → h k ≡ g k) → below h n + g i ≡ below g n + h i
below-change h g zero i l same = absurd (omega arith)
below-change h g (suc n) i l same = dite (ℕ_discrete i n)
    (λ e. let a : h i ≡ h n = ap h e in let b : g i ≡ g n = ap g e in omega
    (arith, a, b, below-same h g n (λ k m. same k (λ z. omega arith))))
    (λ ne. omega (arith, same n (λ z. ne (sym z)), below-change h g n i (omega arith) same))

abbrev pub only : ℕ → ℕ → ℕ
only k x = cond (eqb x k) 1 0

pub only-same : (k : ℕ) → only k k ≡ 1
only-same k = ap (λ b. cond b 1 0) (eq-eqb k k refl)

pub only-other : (k x : ℕ) → x ≢ k → only k x ≡ 0
only-other k x ne = ap (λ b. cond b 1 0) (ne_eqb x k ne)

pub below-only : (k n : ℕ) → (below (only k) n ≤ 1) × (n ≤ k → below (only k) n ≡ 0) × (k < n → below (only k) n ≡ 1)
below-only k zero = (omega arith, (λ _. refl), λ l. absurd (omega arith))
below-only k (suc n) =
    let before = below-only k n in
    dite (ℕ_discrete n k)
    (λ e. let none-yet = before.1 (omega arith) in let one : only k n ≡ 1 = ap (λ b. cond b 1 0) (eq-eqb n k e) in
    (omega arith, (λ h. absurd (omega arith)), λ _. omega arith))
    (λ ne. let zero-here = only-other k n ne in (
      omega (arith, before.0),
      (λ h. omega (arith, before.1 (omega arith))),
      λ l. omega (arith, before.2 (omega arith)),
    ))

-- none of these has the number n
pub none_of : {B : Type 0} (n : ℕ) (os : List (ℕ × B)) → total (λ o. only n o.0) os ≡ 0 → AllByRecursion
    (λ (o : ℕ × B). o.0 ≢ n) os
none_of n [] h = tt
none_of n (o ∷ os) h = (
  (λ e. let one : only n o.0 ≡ 1 = ap (λ b. cond b 1 0) (eq-eqb o.0 n e) in omega arith),
  none_of n os (omega arith),
)
