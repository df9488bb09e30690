-- The cells of an object, which stand behind the 16 of its header: what is written there, and what is read.
use Rattle.std.proofs.Common.{◌≡◌, ℕ, zero, suc, ◌+◌, ◌-◌, ◌*◌, ◌/◌, ◌≤◌, List, [], ◌∷◌, map, length, take, drop, refl, sym, ap, ◌∙◌, arith}
use Rattle.std.proofs.lemmas.List.{take-map, drop-drop, length-take}
use Rattle.slot_headers.specs.Cells.{Cell, bytes, number_in, pointer_in, put, without_mark, cells_at, without_pointer}
use Rattle.slot_store.specs.Cells.{after_store, pointer_at, pointer_or_null}

-- ---- lists

take-none : {X : Type 0} (n : ℕ) → take {A = X} n [] ≡ []
take-none zero = refl
take-none (suc n) = refl

-- the first of the first
take-take : {X : Type 0} (m n : ℕ) (xs : List X) → take m (take n xs) ≡ take n (take m xs)
take-take zero n xs = sym (take-none n)
take-take (suc m) zero xs = refl
take-take (suc m) (suc n) [] = refl
take-take (suc m) (suc n) (x ∷ xs) = ap (λ t. x ∷ t) (take-take m n xs)

take-few : {X : Type 0} (m n : ℕ) (xs : List X) → m ≤ n → take m (take n xs) ≡ take m xs
take-few zero n xs h = refl
take-few (suc m) zero xs h = absurd (omega arith)
take-few (suc m) (suc n) [] h = refl
take-few (suc m) (suc n) (x ∷ xs) h = ap (λ t. x ∷ t) (take-few m n xs (omega arith))

drop-take_any : {X : Type 0} (k n : ℕ) (xs : List X) → drop k (take n xs) ≡ take (n - k) (drop k xs)
drop-take_any zero n xs = let e : n ≡ n - 0 = omega arith in ap (λ m. take m xs) e
drop-take_any (suc k) zero xs = let e : 0 ≡ 0 - suc k = omega arith in ap (λ m. take m (drop (suc k) xs)) e
drop-take_any (suc k) (suc n) [] = sym (take-none (suc n - suc k))
drop-take_any (suc k) (suc n) (x ∷ xs) =
    let e : n - k ≡ suc n - suc k = omega arith in
    drop-take_any k n xs ∙ ap (λ m. take m (drop k xs)) e

-- ---- puts

module _ {P : Type 0} where
  take-put : (n k : ℕ) (new cells : List (Cell P)) → take n (put k new cells) ≡ put k new (take n cells)
  unfolding put
  take-put zero k new cells = refl
  take-put (suc n) k new [] = refl
  take-put (suc n) zero [] (c ∷ cells) = refl
  take-put (suc n) zero (x ∷ new) (c ∷ cells) = ap (λ t. x ∷ t) (take-put n zero new cells)
  take-put (suc n) (suc k) new (c ∷ cells) = ap (λ t. c ∷ t) (take-put n k new cells)

  drop-put : (m k j : ℕ) (new cells : List (Cell P)) → j ≡ m + k → drop m (put j new cells) ≡ put k new (drop m cells)
  unfolding put
  drop-put zero k j new cells e = let same : j ≡ k = omega arith in ap (λ i. put i new cells) same
  drop-put (suc m) k zero new cells e = absurd (omega arith)
  drop-put (suc m) k (suc j) new [] e = refl
  drop-put (suc m) k (suc j) new (c ∷ cells) e = drop-put m k j new cells (omega arith)

  -- a put past the last cell
  put-past : (k : ℕ) (new cells : List (Cell P)) → length cells ≤ k → put k new cells ≡ cells
  unfolding put
  put-past k new [] h = refl
  put-past zero new (c ∷ cells) h = absurd (omega arith)
  put-past (suc k) new (c ∷ cells) h = ap (λ t. c ∷ t) (put-past k new cells (omega arith))

  -- of the new cells those that have a place
  put-take : (k m : ℕ) (new cells : List (Cell P)) → length cells ≤ k + m → put k (take m new) cells ≡ put k new cells
  unfolding put
  put-take k m new [] h = refl
  put-take zero zero new (c ∷ cells) h = absurd (omega arith)
  put-take zero (suc m) [] (c ∷ cells) h = refl
  put-take zero (suc m) (x ∷ new) (c ∷ cells) h = ap (λ t. x ∷ t) (put-take zero m new cells (omega arith))
  put-take (suc k) m new (c ∷ cells) h = ap (λ t. c ∷ t) (put-take k m new cells (omega arith))

  -- a put at the front, and what is behind it
  pub front-put : (new cells : List (Cell P)) → length new ≤ length cells → take (length new) (put 0 new cells) ≡ new
  unfolding put
  front-put [] cells h = refl
  front-put (x ∷ new) [] h = absurd (omega arith)
  front-put (x ∷ new) (c ∷ cells) h = ap (λ t. x ∷ t) (front-put new cells (omega arith))

  pub rest-put : (new cells : List (Cell P)) → drop (length new) (put 0 new cells) ≡ drop (length new) cells
  unfolding put
  rest-put [] [] = refl
  rest-put [] (c ∷ cells) = refl
  rest-put (x ∷ new) [] = refl
  rest-put (x ∷ new) (c ∷ cells) = rest-put new cells

-- ---- behind a header

module _ {P : Type 0} (cells : List (Cell P)) where
  -- a put there is one in the object, and leaves the header
  pub behind-put : (size k : ℕ) (new : List (Cell P)) → cells_at 16 size (put (16 + k) new cells) ≡ put k new (cells_at 16 size cells)
  behind-put size k new = ap (take size) (drop-put 16 k (16 + k) new cells refl) ∙ take-put size k new (drop 16 cells)

  pub before-put : (k : ℕ) (new : List (Cell P)) → cells_at 0 16 (put (16 + k) new cells) ≡ cells_at 0 16 cells
  before-put k new = take-put 16 (16 + k) new cells ∙ put-past (16 + k) new (take 16 cells) (omega (arith, length-take 16 cells))

  -- what is read there
  pub behind-read : (size k w : ℕ) → k + w ≤ size → cells_at k w (cells_at 16 size cells) ≡ cells_at (16 + k) w cells
  behind-read size k w h =
      ap (take w) (drop-take_any k size (drop 16 cells))
      ∙ take-few w (size - k) (drop k (drop 16 cells)) (omega arith)
      ∙ ap (take w) (drop-drop k 16 cells)

  -- the aligned piece there
  piece : (k : ℕ) → 8 * ((16 + k) / 8) ≡ 16 + 8 * (k / 8)
  piece k = omega arith

  behind-without : (size k : ℕ) → cells_at 16 size (without_pointer (16 + k) cells) ≡ without_pointer k (cells_at 16 size cells)
  unfolding without_pointer
  behind-without size k =
      let from = 8 * (k / 8) in
      let own : List (Cell P) = cells_at 16 size cells in
      let here : List (Cell P) = cells_at (16 + from) 8 cells in
      let few : cells_at from 8 own ≡ take (size - from) here =
      ap (take 8) (drop-take_any from size (drop 16 cells))
      ∙ take-take 8 (size - from) (drop from (drop 16 cells))
      ∙ ap (λ c. take (size - from) (take 8 c)) (drop-drop from 16 cells) in
      ap (λ f. cells_at 16 size (put f (map without_mark (cells_at f 8 cells)) cells)) (piece k)
      ∙ behind-put size from (map without_mark here)
      ∙ sym (put-take from (size - from) (map without_mark here) own (omega (arith, length-take size (drop 16 cells))))
      ∙ ap (λ new. put from new own) (take-map without_mark (size - from) here)
      ∙ ap (λ c. put from (map without_mark c) own) (sym few)

  before-without : (k : ℕ) → cells_at 0 16 (without_pointer (16 + k) cells) ≡ cells_at 0 16 cells
  unfolding without_pointer
  before-without k =
      ap (λ f. cells_at 0 16 (put f (map without_mark (cells_at f 8 cells)) cells)) (piece k)
      ∙ before-put (8 * (k / 8)) (map without_mark (cells_at (16 + 8 * (k / 8)) 8 cells))

-- a store there is one into the object, and leaves the header
pub behind-store : (cells : List (Cell ℕ)) (size k w n : ℕ) → cells_at 16 size (after_store (16 + k) w n cells) ≡ after_store k w n (cells_at 16 size cells)
unfolding after_store
behind-store cells size k w n =
    behind-put (without_pointer (16 + k) cells) size k (bytes w n) ∙ ap (put k (bytes w n)) (behind-without cells size k)

pub before-store : (cells : List (Cell ℕ)) (k w n : ℕ) → cells_at 0 16 (after_store (16 + k) w n cells) ≡ cells_at 0 16 cells
unfolding after_store
before-store cells k w n =
    before-put (without_pointer (16 + k) cells) k (bytes w n) ∙ before-without cells k

-- a pointer that is read there
pub behind-pointer : (cells : List (Cell ℕ)) (size k : ℕ) → k + 8 ≤ size → pointer_at (16 + k) cells ≡ pointer_at k (cells_at 16 size cells)
unfolding pointer_at
behind-pointer cells size k h = ap (λ here. pointer_or_null (number_in here) (pointer_in here)) (sym (behind-read cells size k 8 h))
