-- Of each part there is one head at most.
use Rattle.std.proofs.Common.{◌≡◌, ◌≢◌, ℕ, ◌+◌, ◌<◌, ◌≤◌, ◌==◌, Bool, true, false, cond, List, [], ◌∷◌, IsPermutation, refl, sym, ap, ◌∙◌, subst, arith, ◌⊎◌, inl, inr}
use Rattle.std.specs.Prelude.{count_by}
use Rattle.std.specs.List.{AllByRecursion}
use Rattle.std.specs.declared.cmp.Reverse.{Reverse}
use Rattle.std.proofs.lemmas.Bool.{cases_eq, eq-eqb, ne_eqb, eqb-false}
use Rattle.std.proofs.lemmas.List.Sums.{sum_by-cons}
use Rattle.std.proofs.lemmas.List.Sorted.{sum_by-IsPermutation}
use Rattle.heap_model.specs.History.{Log}
use Rattle.clock_order.specs.declared.head.Head.{Head}
use Rattle.clock_order.specs.Heads.{IsHead, AreHeads}
use Rattle.clock_order.proofs.Permuting.{all-permuted}

pub heads-permuted : (parts : List Log) (xs ys : List (Reverse Head)) → IsPermutation xs ys → AreHeads parts xs
    → AreHeads parts ys
heads-permuted parts xs ys p h = record {
  each = all-permuted _ xs ys p h.each;
  once = λ k. subst (λ n. n ≤ 1) (sym (sum_by-IsPermutation (λ x. cond (x.0.part == k) 1 0) xs ys p)) (h.once k);
}

abbrev pub one_if : Bool → ℕ
one_if b = cond b 1 0

none-of : {X : Type 0} (p : X → Bool) (xs : List X) → count_by p xs ≡ 0 → AllByRecursion (λ x. p x ≡ false) xs
none-of p [] none = tt
none-of p (x ∷ xs) none = go (p x) refl (sum_by-cons (λ y. cond (p y) 1 0) x xs) (none-of p xs)
  where
    go : (b : Bool) → p x ≡ b → count_by p (x ∷ xs) ≡ one_if (p x) + count_by p xs
        → (count_by p xs ≡ 0 → AllByRecursion (λ x. p x ≡ false) xs)
        → (p x ≡ false) × AllByRecursion (λ x. p x ≡ false) xs
    go true is e later =
        let one : one_if (p x) ≡ 1 = ap one_if is in absurd (omega (arith, none, e, one))
    go false is e later = (is, later (omega (arith, none, e)))

-- the other heads are of other parts
pub others : (parts : List Log) (x : Reverse Head) (xs : List (Reverse Head)) → AreHeads parts (x ∷ xs)
    → AllByRecursion (λ y. y.0.part ≢ x.0.part) xs
others parts x xs h =
    let all : AllByRecursion (λ y. (y.0.part == x.0.part) ≡ false) xs =
    none-of (λ y. y.0.part == x.0.part) xs
    (omega (
      arith,
      h.once x.0.part,
      sum_by-cons (λ y. cond (y.0.part == x.0.part) 1 0) x xs,
      ap one_if (eq-eqb x.0.part x.0.part refl),
    )) in
    others-from xs all
  where
    others-from : (ys : List (Reverse Head)) → AllByRecursion (λ y. (y.0.part == x.0.part) ≡ false) ys
        → AllByRecursion (λ y. y.0.part ≢ x.0.part) ys
    others-from [] all = tt
    others-from (y ∷ ys) all = (eqb-false _ _ all.0, others-from ys all.1)

-- another head takes the place of one of its part
pub heads-replaced : (parts : List Log) (x y : Reverse Head) (xs : List (Reverse Head)) → AreHeads parts (x ∷ xs)
    → IsHead parts y.0 → y.0.part ≡ x.0.part → AreHeads parts (y ∷ xs)
heads-replaced parts x y xs h is same = record {
  each = (is, h.each.1);
  once = λ k. omega (
    arith,
    h.once k,
    sum_by-cons (λ z. cond (z.0.part == k) 1 0) x xs,
    sum_by-cons (λ z. cond (z.0.part == k) 1 0) y xs,
    ap (λ p. one_if (p == k)) same,
  );
}

pub heads-rest : (parts : List Log) (x : Reverse Head) (xs : List (Reverse Head)) → AreHeads parts (x ∷ xs)
    → AreHeads parts xs
heads-rest parts x xs h = record {
  each = h.each.1;
  once = λ k. omega (arith, h.once k, sum_by-cons (λ z. cond (z.0.part == k) 1 0) x xs);
}

pub no-heads : (parts : List Log) → AreHeads parts []
no-heads parts = record { each = tt; once = λ k. omega arith }

none-count : {X : Type 0} (p : X → Bool) (xs : List X) → AllByRecursion (λ x. p x ≡ false) xs → count_by p xs ≡ 0
none-count p [] none = refl
none-count p (x ∷ xs) none =
    sum_by-cons (λ y. one_if (p y)) x xs
    ∙ let here : one_if (p x) ≡ 0 = ap one_if none.0 in omega (arith, here, none-count p xs none.1)

one-at-most : (b : Bool) → one_if b ≤ 1
one-at-most true = omega arith
one-at-most false = omega arith

pub heads-added : (parts : List Log) (i : ℕ) (next : Reverse Head) (ys : List (Reverse Head)) → AreHeads parts ys
    → AllByRecursion (λ y. y.0.part < i) ys → IsHead parts next.0 → next.0.part ≡ i → AreHeads parts (next ∷ ys)
heads-added parts i next ys h below is same = record {
  each = (is, h.each);
  once = λ k. go k (cases_eq i k) (sum_by-cons (λ z. one_if (z.0.part == k)) next ys);
}
  where
    away : (zs : List (Reverse Head)) → AllByRecursion (λ y. y.0.part < i) zs
        → AllByRecursion (λ z. (z.0.part == i) ≡ false) zs
    away [] all = tt
    away (z ∷ zs) all = (ne_eqb z.0.part i (omega (arith, all.0)), away zs all.1)

    go : (k : ℕ) → (i ≡ k) ⊎ (i ≡ k → ⊥)
        → count_by (λ z. z.0.part == k) (next ∷ ys) ≡ one_if (next.0.part == k) + count_by (λ z. z.0.part == k) ys
        → count_by (λ z. z.0.part == k) (next ∷ ys) ≤ 1
    go k (inl here) e =
        let none : count_by (λ z. z.0.part == k) ys ≡ 0 =
        subst (λ j. count_by (λ z. z.0.part == j) ys ≡ 0) here (none-count (λ z. z.0.part == i) ys (away ys below)) in
        omega (arith, e, none, one-at-most (next.0.part == k))
    go k (inr there) e =
        let not : one_if (next.0.part == k) ≡ 0 = ap one_if (ne_eqb next.0.part k (λ it. there (sym same ∙ it))) in
        omega (arith, e, not, h.once k)
