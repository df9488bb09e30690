-- Cells that are read out of a list in which others were put.
use Rattle.std.proofs.Common.{◌≡◌, ℕ, zero, suc, ◌+◌, ◌-◌, ◌≤◌, List, [], ◌∷◌, length, take, drop, replicate, refl, ap, ◌∙◌, arith, drop-drop, take-take}
use Rattle.std.proofs.lemmas.List.{drop-take}
use Rattle.std.specs.List.{AllByRecursion}
use Rattle.slot_headers.specs.Cells.{Cell, put, cells_at}

-- ---- every cell

pub all-take : {X : Type 0} (Q : X → Type 0) (n : ℕ) (xs : List X) → AllByRecursion Q xs → AllByRecursion Q (take n xs)
all-take Q zero xs all = tt
all-take Q (suc n) [] all = tt
all-take Q (suc n) (x ∷ xs) all = (all.0, all-take Q n xs all.1)

pub all-drop : {X : Type 0} (Q : X → Type 0) (n : ℕ) (xs : List X) → AllByRecursion Q xs → AllByRecursion Q (drop n xs)
all-drop Q zero xs all = all
all-drop Q (suc n) [] all = tt
all-drop Q (suc n) (x ∷ xs) all = all-drop Q n xs all.1

pub all-replicate : {X : Type 0} (Q : X → Type 0) (n : ℕ) (x : X) → Q x → AllByRecursion Q (replicate n x)
all-replicate Q zero x here = tt
all-replicate Q (suc n) x here = (here, all-replicate Q n x here)

pub all-put : {P : Type 0} (Q : Cell P → Type 0) (k : ℕ) (new cells : List (Cell P)) → AllByRecursion Q new
    → AllByRecursion Q cells → AllByRecursion Q (put k new cells)
unfolding put
all-put Q k new [] a b = tt
all-put Q zero [] (c ∷ cells) a b = b
all-put Q zero (n ∷ new) (c ∷ cells) a b = (a.0, all-put Q zero new cells a.1 b.1)
all-put Q (suc k) new (c ∷ cells) a b = (b.0, all-put Q k new cells a b.1)

-- ---- what was put lies before, behind or inside the cells that are read

drop-put_before : {P : Type 0} (m k : ℕ) (new cells : List (Cell P)) → k + length new ≤ m
    → drop m (put k new cells) ≡ drop m cells
unfolding put
drop-put_before m k new [] h = refl
drop-put_before m zero [] (c ∷ cells) h = refl
drop-put_before zero zero (n ∷ new) (c ∷ cells) h = absurd (omega arith)
drop-put_before (suc m) zero (n ∷ new) (c ∷ cells) h = drop-put_before m zero new cells (omega arith)
drop-put_before zero (suc k) new (c ∷ cells) h = absurd (omega arith)
drop-put_before (suc m) (suc k) new (c ∷ cells) h = drop-put_before m k new cells (omega arith)

drop-put_at : {P : Type 0} (m k j : ℕ) (new cells : List (Cell P)) → k ≡ m + j
    → drop m (put k new cells) ≡ put j new (drop m cells)
unfolding put
drop-put_at zero k j new cells e = let same : k ≡ j = omega (arith, e) in ap (λ i. put i new cells) same
drop-put_at (suc m) k j new [] e = refl
drop-put_at (suc m) zero j new (c ∷ cells) e = absurd (omega (arith, e))
drop-put_at (suc m) (suc k) j new (c ∷ cells) e = drop-put_at m k j new cells (omega (arith, e))

take-put_behind : {P : Type 0} (n k : ℕ) (new cells : List (Cell P)) → n ≤ k → take n (put k new cells) ≡ take n cells
unfolding put
take-put_behind zero k new cells h = refl
take-put_behind (suc n) k new [] h = refl
take-put_behind (suc n) zero new (c ∷ cells) h = absurd (omega arith)
take-put_behind (suc n) (suc k) new (c ∷ cells) h = ap (λ cs. c ∷ cs) (take-put_behind n k new cells (omega arith))

take-put_inside : {P : Type 0} (n k : ℕ) (new cells : List (Cell P)) → k + length new ≤ n
    → take n (put k new cells) ≡ put k new (take n cells)
unfolding put
take-put_inside zero k new cells h = refl
take-put_inside (suc n) k new [] h = refl
take-put_inside (suc n) zero [] (c ∷ cells) h = refl
take-put_inside (suc n) zero (d ∷ new) (c ∷ cells) h =
    ap (λ cs. d ∷ cs) (take-put_inside n zero new cells (omega arith))
take-put_inside (suc n) (suc k) new (c ∷ cells) h = ap (λ cs. c ∷ cs) (take-put_inside n k new cells (omega arith))

module _ {P : Type 0} (b w k : ℕ) (new cells : List (Cell P)) where
  pub at-put_before : k + length new ≤ b → cells_at b w (put k new cells) ≡ cells_at b w cells
  at-put_before h = ap (take w) (drop-put_before b k new cells h)

  shifted : b ≤ k → drop b (put k new cells) ≡ put (k - b) new (drop b cells)
  shifted h = drop-put_at b k (k - b) new cells (omega arith)

  pub at-put_behind : b + w ≤ k → cells_at b w (put k new cells) ≡ cells_at b w cells
  at-put_behind h = ap (take w) (shifted (omega arith)) ∙ take-put_behind w (k - b) new (drop b cells) (omega arith)

  pub at-put_inside : b ≤ k → k + length new ≤ b + w
      → cells_at b w (put k new cells) ≡ put (k - b) new (cells_at b w cells)
  at-put_inside low high = ap (take w) (shifted low) ∙ take-put_inside w (k - b) new (drop b cells) (omega arith)

-- as many cells as there are
pub put_whole : {P : Type 0} (new cells : List (Cell P)) → length new ≡ length cells → put zero new cells ≡ new
unfolding put
put_whole [] [] e = refl
put_whole [] (c ∷ cells) e = absurd (omega (arith, e))
put_whole (n ∷ new) [] e = absurd (omega (arith, e))
put_whole (n ∷ new) (c ∷ cells) e = ap (λ cs. n ∷ cs) (put_whole new cells (omega (arith, e)))

-- cells inside a piece of eight
pub at-within : {P : Type 0} (b k w : ℕ) (cells : List (Cell P)) → b ≤ k → k + w ≤ b + 8
    → cells_at (k - b) w (cells_at b 8 cells) ≡ cells_at k w cells
at-within b k w cells low high =
    let n : ℕ = k - b in
    let rest : ℕ = 8 - n in
    let eight : 8 ≡ n + rest = omega arith in
    let there : b + n ≡ k = omega arith in
    ap (λ e. take w (drop n (take e (drop b cells)))) eight
    ∙ ap (take w) (drop-take n rest (drop b cells))
    ∙ take-take w rest (drop n (drop b cells)) (omega arith)
    ∙ ap (take w) (drop-drop n b cells)
    ∙ ap (λ e. take w (drop e cells)) there
