-- Parts of lists.
use Rattle.std.proofs.Common.{◌≡◌, ℕ, zero, suc, ◌+◌, ◌-◌, ◌<◌, ◌≤◌, min, List, [], ◌∷◌, ◌++◌, length, take, drop, Some, refl, sym, ap, ◌∙◌, arith, inl, inr}
use Rattle.std.specs.Prelude.{slice_get, slice_range}
use Rattle.std.proofs.lemmas.List.{nil_from_length, length-take, length-drop, take_all}
use Rattle.std.proofs.lemmas.Bool.{cases_lt}

module _ {X : Type 0} where
  pub part_none : (xs : List X) (s e : ℕ) → min e (length xs) ≤ s → slice_range xs s e ≡ []
  part_none xs s e h = nil_from_length _ (simp (length-take, length-drop) (omega arith))

  pub part_cut : (xs : List X) (s e : ℕ) → slice_range xs s (min e (length xs)) ≡ slice_range xs s e
  part_cut xs s e = elim (cases_lt (length xs) e) [
    | inl over ↦ (
        let n : min e (length xs) ≡ length xs = omega arith in
        let a = length-drop s xs in
        let all : take (length xs - s) (drop s xs) ≡ drop s xs = take_all (length xs - s) (drop s xs) (omega arith) in
        let more : take (e - s) (drop s xs) ≡ drop s xs = take_all (e - s) (drop s xs) (omega arith) in
        rw n (all ∙ sym more))
    | inr within ↦ (let n : min e (length xs) ≡ e = omega arith in rw n refl)
  ]

  pub drop_at : (xs : List X) (at : ℕ) (x : X) → slice_get xs at ≡ Some x → drop at xs ≡ x ∷ drop (suc at) xs
  drop_at [] at x h = absurd cc
  drop_at (y ∷ ys) zero x h = (let e : y ≡ x = cc in ap (λ z. z ∷ ys) e)
  drop_at (y ∷ ys) (suc at) x h = drop_at ys at x h

  take_nil : (n : ℕ) → take {A = X} n [] ≡ []
  take_nil zero = refl
  take_nil (suc n) = refl

  drop_nil : (n : ℕ) → drop {A = X} n [] ≡ []
  drop_nil zero = refl
  drop_nil (suc n) = refl

  take_then : (n m : ℕ) (xs : List X) → take (n + m) xs ≡ take n xs ++ take m (drop n xs)
  take_then zero m xs = let e : 0 + m ≡ m = omega arith in ap (λ k. take k xs) e
  take_then (suc n) m [] = take_nil (suc n + m) ∙ sym (take_nil m)
  take_then (suc n) m (x ∷ xs) = let e : suc n + m ≡ suc (n + m) = omega arith in ap (λ k. take k (x ∷ xs)) e ∙ ap (λ l. x ∷ l) (take_then n m xs)

  pub drop_then : (n m : ℕ) (xs : List X) → drop m (drop n xs) ≡ drop (n + m) xs
  drop_then zero m xs = let e : m ≡ 0 + m = omega arith in ap (λ k. drop k xs) e
  drop_then (suc n) m [] = drop_nil m ∙ sym (drop_nil (suc n + m))
  drop_then (suc n) m (x ∷ xs) = let e : suc (n + m) ≡ suc n + m = omega arith in drop_then n m xs ∙ ap (λ k. drop k (x ∷ xs)) e

  pub part_split : (xs : List X) (s i e : ℕ) → s ≤ i → i ≤ e → slice_range xs s e ≡ slice_range xs s i ++ slice_range xs i e
  part_split xs s i e low high =
      let n : e - s ≡ (i - s) + (e - i) = omega arith in
      let m : s + (i - s) ≡ i = omega arith in
      ap (λ k. take k (drop s xs)) n ∙ take_then (i - s) (e - i) (drop s xs)
      ∙ ap (λ l. take (i - s) (drop s xs) ++ take (e - i) l) (drop_then s (i - s) xs ∙ ap (λ k. drop k xs) m)

  pub part_first : (xs : List X) (at e : ℕ) (x : X) → at < e → slice_get xs at ≡ Some x → slice_range xs at e ≡ x ∷ slice_range xs (at + 1) e
  part_first xs at e x low h =
      let n : e - at ≡ suc (e - (at + 1)) = omega arith in
      let m : suc at ≡ at + 1 = omega arith in
      ap (λ k. take k (drop at xs)) n ∙ ap (take (suc (e - (at + 1)))) (drop_at xs at x h) ∙ ap (λ k. x ∷ take (e - (at + 1)) (drop k xs)) m

  pub part_same : (xs : List X) (s : ℕ) → slice_range xs s s ≡ []
  part_same xs s = let n : s - s ≡ 0 = omega arith in ap (λ k. take k (drop s xs)) n

  pub part_one : (xs : List X) (at : ℕ) (x : X) → slice_get xs at ≡ Some x → slice_range xs at (at + 1) ≡ x ∷ []
  part_one xs at x h = part_first xs at (at + 1) x (omega arith) h ∙ ap (λ l. x ∷ l) (part_same xs (at + 1))

  pub part_more : (xs : List X) (s at : ℕ) (x : X) → s ≤ at → slice_get xs at ≡ Some x → slice_range xs s (at + 1) ≡ slice_range xs s at ++ x ∷ []
  part_more xs s at x low h = part_split xs s at (at + 1) low (omega arith) ∙ ap (λ l. slice_range xs s at ++ l) (part_one xs at x h)

  -- what stands before the end stands there also when more follows
  pub part_before : (xs ys : List X) (s e : ℕ) → e ≤ length xs → slice_range (xs ++ ys) s e ≡ slice_range xs s e
  part_before [] ys s e h = absurd_low s
    where
      absurd_low : (s : ℕ) → slice_range ([] ++ ys) s e ≡ slice_range [] s e
      absurd_low s = let n : e - s ≡ 0 = omega arith in (let none : take 0 (drop s ys) ≡ take 0 (drop s []) = refl in ap (λ k. take k (drop s ys)) n ∙ none ∙ ap (λ k. take k (drop s [])) (sym n))
  part_before (x ∷ xs) ys zero zero h = refl
  part_before (x ∷ xs) ys zero (suc e) h =
      let n : suc e - 0 ≡ suc (e - 0) = omega arith in
      ap (λ k. take k (x ∷ xs ++ ys)) n ∙ ap (λ l. x ∷ l) (part_before xs ys zero e (omega arith)) ∙ ap (λ k. take k (x ∷ xs)) (sym n)
  part_before (x ∷ xs) ys (suc s) zero h = let n : 0 - suc s ≡ 0 = omega arith in ap (λ k. take k (drop s (xs ++ ys))) n ∙ ap (λ k. take k (drop s xs)) (sym n)
  part_before (x ∷ xs) ys (suc s) (suc e) h =
      let n : suc e - suc s ≡ e - s = omega arith in
      ap (λ k. take k (drop s (xs ++ ys))) n ∙ part_before xs ys s e (omega arith) ∙ ap (λ k. take k (drop s xs)) (sym n)

  -- all that comes after the first of two lists
  pub part_after : (xs ys : List X) → slice_range (xs ++ ys) (length xs) (length (xs ++ ys)) ≡ ys
  part_after [] ys = let n : length ys - 0 ≡ length ys = omega arith in take_all (length ys - 0) ys (omega arith)
  part_after (x ∷ xs) ys =
      let n : suc (length (xs ++ ys)) - suc (length xs) ≡ length (xs ++ ys) - length xs = omega arith in
      ap (λ k. take k (drop (length xs) (xs ++ ys))) n ∙ part_after xs ys

  pub slice_get_before : (xs ys : List X) (at : ℕ) → at < length xs → slice_get (xs ++ ys) at ≡ slice_get xs at
  slice_get_before [] ys at h = absurd (omega arith)
  slice_get_before (x ∷ xs) ys zero h = refl
  slice_get_before (x ∷ xs) ys (suc at) h = slice_get_before xs ys at (omega arith)

  pub part_past : (xs : List X) (s at e : ℕ) → length xs ≤ at → at ≤ e → slice_range xs s at ≡ slice_range xs s e
  part_past xs s at e past le =
      let n : min at (length xs) ≡ min e (length xs) = omega arith in
      sym (part_cut xs s at) ∙ ap (λ k. slice_range xs s k) n ∙ part_cut xs s e

  pub get_drop : (xs : List X) (s k : ℕ) → slice_get (drop s xs) k ≡ slice_get xs (s + k)
  get_drop xs zero k = let e : k ≡ 0 + k = omega arith in ap (slice_get xs) e
  get_drop [] (suc s) k = refl
  get_drop (x ∷ xs) (suc s) k = let e : suc (s + k) ≡ suc s + k = omega arith in get_drop xs s k ∙ ap (slice_get (x ∷ xs)) e

  -- the words of a line that has two at least
  two_words : (xs : List X) (n : ℕ) (a b : X) (c : List X) → take n xs ≡ a ∷ b ∷ c → (slice_get xs 1 ≡ Some b) × (c ≡ take (n - 2) (drop 2 xs))
  two_words xs zero a b c h = absurd (none xs h)
    where
      none : (xs : List X) → take 0 xs ≡ a ∷ b ∷ c → ⊥
      none [] h = cc
      none (x ∷ xs) h = cc
  two_words [] (suc n) a b c h = absurd cc
  two_words (x ∷ xs) (suc n) a b c h = rest xs n (let t : take n xs ≡ b ∷ c = cc in t)
    where
      rest : (xs : List X) (n : ℕ) → take n xs ≡ b ∷ c → (slice_get (x ∷ xs) 1 ≡ Some b) × (c ≡ take (suc n - 2) (drop 2 (x ∷ xs)))
      rest [] zero h = absurd cc
      rest [] (suc n) h = absurd cc
      rest (y ∷ xs) zero h = absurd cc
      rest (y ∷ xs) (suc n) h =
          let t : take n xs ≡ c = cc in
          let f : y ≡ b = cc in
          let m : suc (suc n) - 2 ≡ n = omega arith in
          (ap (λ z. Some z) f, sym t ∙ ap (λ k. take k xs) (sym m))

  pub second_word : (xs : List X) (s e : ℕ) (a b : X) (c : List X) → slice_range xs s e ≡ a ∷ b ∷ c → (slice_get xs (s + 1) ≡ Some b) × (c ≡ slice_range xs (s + 2) e)
  second_word xs s e a b c h =
      let w = two_words (drop s xs) (e - s) a b c h in
      let m : e - s - 2 ≡ e - (s + 2) = omega arith in
      (sym (get_drop xs s 1) ∙ w.0, w.1 ∙ ap (λ k. take k (drop 2 (drop s xs))) m ∙ ap (take (e - (s + 2))) (drop_then s 2 xs))
