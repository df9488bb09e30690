-- One entry more at the end of a list.
use Rattle.std.proofs.Common.{◌≡◌, ◌≢◌, ℕ, suc, ◌+◌, ◌<◌, ◌≤◌, cond, List, [], ◌∷◌, ◌++◌, length, refl, ap, ◌∙◌, arith}
use Rattle.std.proofs.Common.{eq-eqb, ne_eqb, add-zero}
use Rattle.std.specs.List.{AllByRecursion}
use Rattle.std.proofs.lemmas.List.Elements.{filter-append}
use Rattle.std.proofs.lemmas.List.{append-nil}
use Rattle.heap_model.specs.declared.calls.Entry.{Entry}
use Rattle.heap_model.specs.Legal.{own, of_region, CountsFrom}
use Rattle.heap_model.specs.Order.{StampsRise}
use Rattle.region_lock.specs.Entries.{last_from, last_stamp, IsMadeBy}

module _ {A : Type 0} where
  pub Each-snoc : (P : A → Type 0) (xs : List A) (x : A) → AllByRecursion P xs → P x → AllByRecursion P (xs ++ x ∷ [])
  Each-snoc P [] x h p = (p, tt)
  Each-snoc P (y ∷ ys) x h p = (h.0, Each-snoc P ys x h.1 p)

pub last_from-snoc : (b : ℕ) (xs : List Entry) (e : Entry) → last_from b (xs ++ e ∷ []) ≡ e.stamp
last_from-snoc b [] e = refl
last_from-snoc b (x ∷ xs) e = last_from-snoc x.stamp xs e

-- the last stamp of a list whose stamps are above b is at least b
at_most_last : (b c : ℕ) (xs : List Entry) → AllByRecursion (λ x. b < x.stamp) xs → b ≤ c → b ≤ last_from c xs
at_most_last b c [] above le = le
at_most_last b c (x ∷ xs) above le = let first = above.0 in at_most_last b x.stamp xs above.1 (omega arith)

pub StampsRise-snoc : (b : ℕ) (xs : List Entry) (e : Entry) → StampsRise xs → last_from b xs < e.stamp → StampsRise
    (xs ++ e ∷ [])
StampsRise-snoc b [] e rise later = (tt, tt)
StampsRise-snoc b (x ∷ xs) e rise later =
    let past = at_most_last x.stamp x.stamp xs rise.0 (omega arith) in
    (Each-snoc (λ (f : Entry). x.stamp < f.stamp) xs e rise.0 (omega arith), StampsRise-snoc x.stamp xs e rise.1 later)

pub CountsFrom-snoc : (k : ℕ) (xs : List Entry) (e : Entry) → CountsFrom k xs → e.number ≡ k + length xs
    → CountsFrom k (xs ++ e ∷ [])
CountsFrom-snoc k [] e c h = (h ∙ add-zero k, tt)
CountsFrom-snoc k (x ∷ xs) e c h = (c.0, CountsFrom-snoc (suc k) xs e c.1 (omega arith))

pub own-snoc : (n : ℕ) (xs : List Entry) (e : Entry) → e.worker ≡ n → own (xs ++ e ∷ []) n ≡ own xs n ++ e ∷ []
own-snoc n xs e h = filter-append _ xs (e ∷ []) ∙ ap (λ b. own xs n ++ cond b (e ∷ []) []) (eq-eqb e.worker n h)

pub own-snoc_other : (n : ℕ) (xs : List Entry) (e : Entry) → e.worker ≢ n → own (xs ++ e ∷ []) n ≡ own xs n
own-snoc_other n xs e h = filter-append _ xs (e ∷ []) ∙ (ap (λ b. own xs n ++ cond b (e ∷ []) [])
    (ne_eqb e.worker n h) ∙ append-nil (own xs n))

pub of_region-snoc : (r : ℕ) (xs : List Entry) (e : Entry) → e.region ≡ r → of_region r
    (xs ++ e ∷ []) ≡ of_region r xs ++ e ∷ []
of_region-snoc r xs e h = filter-append _ xs (e ∷ []) ∙ ap (λ b. of_region r xs ++ cond b (e ∷ []) [])
    (eq-eqb e.region r h)

pub of_region-snoc_other : (r : ℕ) (xs : List Entry) (e : Entry) → e.region ≢ r → of_region r
    (xs ++ e ∷ []) ≡ of_region r xs
of_region-snoc_other r xs e h = filter-append _ xs (e ∷ []) ∙ (ap (λ b. of_region r xs ++ cond b (e ∷ []) [])
    (ne_eqb e.region r h) ∙ append-nil (of_region r xs))

-- one more entry of the worker
pub IsMadeBy-snoc : (n count : ℕ) (xs : List Entry) (e : Entry) → IsMadeBy n count xs → e.worker ≡ n
    → e.number ≡ length xs → last_stamp xs < e.stamp → 0 < e.region → e.region ≤ count → IsMadeBy n count (xs ++ e ∷ [])
IsMadeBy-snoc n count xs e m worker number stamp low high = record {
  by = Each-snoc (λ (x : Entry). x.worker ≡ n) xs e m.by worker;
  numbered = CountsFrom-snoc 0 xs e m.numbered (omega arith);
  rises = StampsRise-snoc 0 xs e m.rises stamp;
  inside = Each-snoc (λ (x : Entry). (0 < x.region) × (x.region ≤ count)) xs e m.inside (low, high);
}
