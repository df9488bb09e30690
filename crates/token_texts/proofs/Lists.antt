-- What stands where in a list.
use Rattle.std.proofs.Common.{◌≡◌, ℕ, zero, suc, ◌<◌, List, [], ◌∷◌, ◌++◌, length, take, drop, get_or, Option, Some, None, Bool, true, false, inl, inr, refl, sym, ap, subst, ◌∙◌, arith}
use Rattle.std.specs.Prelude.{slice_get, ◌||◌, ◌⊎◌}
use Rattle.std.specs.List.{list_any}

or_true : (b : Bool) → (b || true) ≡ true
or_true true = refl
or_true false = refl

module _ {X : Type 0} where
  pub get-push : (xs : List X) (x : X) → slice_get (xs ++ x ∷ []) (length xs) ≡ Some x
  get-push [] x = refl
  get-push (y ∷ xs) x = get-push xs x

  pub get-more : (xs ys : List X) (n : ℕ) (x : X) → slice_get xs n ≡ Some x → slice_get (xs ++ ys) n ≡ Some x
  get-more [] ys n x h = absurd cc
  get-more (y ∷ xs) ys zero x h = h
  get-more (y ∷ xs) ys (suc n) x h = get-more xs ys n x h

  -- behind the last one there is nothing else
  pub get-push_cases : (xs : List X) (x y : X) (n : ℕ) → slice_get (xs ++ x ∷ []) n ≡ Some y → (slice_get xs n ≡ Some y) ⊎ ((n ≡ length xs) × (x ≡ y))
  get-push_cases [] x y zero h = let same : x ≡ y = cc in inr (refl, same)
  get-push_cases [] x y (suc n) h = absurd cc
  get-push_cases (z ∷ xs) x y zero h = inl h
  get-push_cases (z ∷ xs) x y (suc n) h = elim (get-push_cases xs x y n h) [ inl there ↦ inl there | inr p ↦ inr (ap suc p.0, p.1) ]

  pub get-low : (xs : List X) (n : ℕ) (x : X) → slice_get xs n ≡ Some x → n < length xs
  get-low [] n x h = absurd cc
  get-low (y ∷ xs) zero x h = omega arith
  get-low (y ∷ xs) (suc n) x h = let low = get-low xs n x h in omega arith

  pub get_or-there : (xs : List X) (n : ℕ) (x d : X) → slice_get xs n ≡ Some x → get_or xs n d ≡ x
  get_or-there [] n x d h = absurd cc
  get_or-there (y ∷ xs) zero x d h = cc
  get_or-there (y ∷ xs) (suc n) x d h = get_or-there xs n x d h

  pub get-get_or : (xs : List X) (n : ℕ) (d : X) → n < length xs → slice_get xs n ≡ Some (get_or xs n d)
  get-get_or [] n d h = absurd (omega arith)
  get-get_or (y ∷ xs) zero d h = refl
  get-get_or (y ∷ xs) (suc n) d h = get-get_or xs n d (omega arith)

  pub take-one_more : (xs : List X) (n : ℕ) (x : X) → slice_get xs n ≡ Some x → take (suc n) xs ≡ take n xs ++ x ∷ []
  take-one_more [] n x h = absurd cc
  take-one_more (y ∷ xs) zero x h = let same : y ≡ x = cc in ap (λ z. z ∷ []) same
  take-one_more (y ∷ xs) (suc n) x h = ap (λ l. y ∷ l) (take-one_more xs n x h)

  pub get-take : (xs : List X) (n k : ℕ) (x : X) → k < n → slice_get xs k ≡ Some x → slice_get (take n xs) k ≡ Some x
  get-take [] n k x low h = absurd cc
  get-take (y ∷ xs) zero k x low h = absurd (omega arith)
  get-take (y ∷ xs) (suc n) zero x low h = h
  get-take (y ∷ xs) (suc n) (suc k) x low h = get-take xs n k x (omega arith) h

  pub any-there : (p : X → Bool) (xs : List X) (n : ℕ) (x : X) → slice_get xs n ≡ Some x → p x ≡ true → list_any p xs ≡ true
  any-there p [] n x h passes = absurd cc
  any-there p (y ∷ xs) zero x h passes = let same : y ≡ x = cc in rw (same, passes) refl
  any-there p (y ∷ xs) (suc n) x h passes =
      rw (any-there p xs n x h passes) (or_true (p y))
