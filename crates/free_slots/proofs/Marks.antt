-- Sets of numbers, and the numbers that are marked in a list.
use Rattle.std.proofs.Common.{◌≡◌, ◌≢◌, ℕ, zero, suc, ◌+◌, ◌-◌, ◌<◌, ◌≤◌, Bool, true, false, cond, not, ◌&&◌, ◌||◌, List, [], ◌∷◌, ◌++◌, length, set, get_or, get_or-set_same, get_or-set_other, refl, sym, ap, ◌∙◌, inl, inr, ◌⊎◌, arith}
use Rattle.std.proofs.lemmas.Bool.{cases_eq, cases_lt, eq-eqb, ne_eqb}
use Rattle.std.proofs.lemmas.List.{get_or_past, get_or_append_left, get_or_push, length_push}
use Rattle.std.specs.Ordering.{nat_cmp}
use Rattle.std.specs.Cmp.{nat_cmp_total, unsigned_tied}
use Rattle.std.specs.FinSet.{FinSet, contains, insert, remove, len, contains-empty, contains-insert, contains-remove, len-insert, len-remove, empty_of_len, same_set, nat_cmp-IsAntisymmetric}
use Rattle.free_slots.specs.Fields.{marked_below, marked}

-- ---- sets of numbers

module _ (s : FinSet nat_cmp) (k : ℕ) where
  pub contains-insert_same : contains (insert s k) k ≡ true
  contains-insert_same = contains-insert nat_cmp_total s k k ∙ ap (λ b. b || contains s k) (unsigned_tied k k ∙ eq-eqb k k refl)

  pub contains-insert_other : (q : ℕ) → q ≢ k → contains (insert s k) q ≡ contains s q
  contains-insert_other q apart = contains-insert nat_cmp_total s k q ∙ ap (λ b. b || contains s q) (unsigned_tied q k ∙ ne_eqb q k apart)

  pub contains-remove_same : contains (remove s k) k ≡ false
  contains-remove_same = contains-remove nat_cmp_total s k k ∙ ap (λ b. not b && contains s k) (unsigned_tied k k ∙ eq-eqb k k refl)

  pub contains-remove_other : (q : ℕ) → q ≢ k → contains (remove s k) q ≡ contains s q
  contains-remove_other q apart = contains-remove nat_cmp_total s k q ∙ ap (λ b. not b && contains s q) (unsigned_tied q k ∙ ne_eqb q k apart)

  pub len-insert_new : contains s k ≡ false → len (insert s k) ≡ len s + 1
  len-insert_new out = len-insert nat_cmp_total s k ∙ ap (λ b. cond b (len s) (len s + 1)) out

  -- a set with a member has one or more
  pub some_of_contains : contains s k ≡ true → 0 < len s
  some_of_contains inside = go (cases_eq (len s) 0)
    where
      go : (len s ≡ 0) ⊎ (len s ≡ 0 → ⊥) → 0 < len s
      go (inl none) = absurd (let nothing : contains s k ≡ false = ap (λ t. contains t k) (empty_of_len s none) ∙ contains-empty nat_cmp k in cc)
      go (inr some) = omega (arith, some)

  pub len-remove_member : contains s k ≡ true → len (remove s k) + 1 ≡ len s
  len-remove_member inside =
      let less : len (remove s k) ≡ len s - 1 = len-remove nat_cmp_total s k ∙ ap (λ b. cond b (len s - 1) (len s)) inside in
      omega (arith, less, some_of_contains inside)

pub same_numbers : (s t : FinSet nat_cmp) → ((q : ℕ) → contains s q ≡ contains t q) → s ≡ t
same_numbers s t each = same_set nat_cmp_total nat_cmp-IsAntisymmetric s t each

-- ---- marks

-- no number from n on is below n
none_from : (n : ℕ) (marks : List Bool) (q : ℕ) → n ≤ q → contains (marked_below n marks) q ≡ false
none_from zero marks q past = contains-empty nat_cmp q
none_from (suc n) marks q past = go (get_or marks n false) (none_from n marks q (omega arith))
  where
    apart : q ≢ n
    apart e = absurd (omega arith)

    go : (b : Bool) → contains (marked_below n marks) q ≡ false
        → contains (cond b (insert (marked_below n marks) n) (marked_below n marks)) q ≡ false
    go true rest = contains-insert_other (marked_below n marks) n q apart ∙ rest
    go false rest = rest

mark_below : (n : ℕ) (marks : List Bool) (q : ℕ) → q < n → contains (marked_below n marks) q ≡ get_or marks q false
mark_below zero marks q below = absurd (omega arith)
mark_below (suc n) marks q below = go (get_or marks n false) refl (cases_eq q n) (λ less. mark_below n marks q less)
  where
    go : (b : Bool) → get_or marks n false ≡ b → (q ≡ n) ⊎ (q ≡ n → ⊥) → (q < n → contains (marked_below n marks) q ≡ get_or marks q false)
        → contains (cond b (insert (marked_below n marks) n) (marked_below n marks)) q ≡ get_or marks q false
    go true is (inl e) rest =
        ap (λ k. contains (insert (marked_below n marks) n) k) e ∙ contains-insert_same (marked_below n marks) n ∙ sym is
        ∙ ap (λ k. get_or marks k false) (sym e)
    go false is (inl e) rest = none_from n marks q (omega (arith, e)) ∙ sym is ∙ ap (λ k. get_or marks k false) (sym e)
    go true is (inr apart) rest = contains-insert_other (marked_below n marks) n q apart ∙ rest (omega (arith, apart))
    go false is (inr apart) rest = rest (omega (arith, apart))

-- a number is marked where its mark is set
pub contains-marked : (marks : List Bool) (q : ℕ) → contains (marked marks) q ≡ get_or marks q false
contains-marked marks q = go (cases_lt q (length marks))
  where
    go : (q < length marks) ⊎ (length marks ≤ q) → contains (marked marks) q ≡ get_or marks q false
    go (inl below) = mark_below (length marks) marks q below
    go (inr past) = none_from (length marks) marks q past ∙ sym (get_or_past marks q false past)

pub marked-set_true : (marks : List Bool) (k : ℕ) → k < length marks → marked (set marks k true) ≡ insert (marked marks) k
marked-set_true marks k within = same_numbers _ _ (λ q. contains-marked (set marks k true) q ∙ go q (cases_eq q k))
  where
    go : (q : ℕ) → (q ≡ k) ⊎ (q ≡ k → ⊥) → get_or (set marks k true) q false ≡ contains (insert (marked marks) k) q
    go q (inl e) =
        ap (λ i. get_or (set marks k true) i false) e ∙ get_or-set_same marks k true false within
        ∙ sym (ap (λ i. contains (insert (marked marks) k) i) e ∙ contains-insert_same (marked marks) k)
    go q (inr apart) =
        get_or-set_other marks k q true false apart ∙ sym (contains-insert_other (marked marks) k q apart ∙ contains-marked marks q)

pub marked-set_false : (marks : List Bool) (k : ℕ) → k < length marks → marked (set marks k false) ≡ remove (marked marks) k
marked-set_false marks k within = same_numbers _ _ (λ q. contains-marked (set marks k false) q ∙ go q (cases_eq q k))
  where
    go : (q : ℕ) → (q ≡ k) ⊎ (q ≡ k → ⊥) → get_or (set marks k false) q false ≡ contains (remove (marked marks) k) q
    go q (inl e) =
        ap (λ i. get_or (set marks k false) i false) e ∙ get_or-set_same marks k false false within
        ∙ sym (ap (λ i. contains (remove (marked marks) k) i) e ∙ contains-remove_same (marked marks) k)
    go q (inr apart) =
        get_or-set_other marks k q false false apart ∙ sym (contains-remove_other (marked marks) k q apart ∙ contains-marked marks q)

pub marked-push : (marks : List Bool) → marked (marks ++ true ∷ []) ≡ insert (marked marks) (length marks)
marked-push marks = same_numbers _ _ (λ q. contains-marked (marks ++ true ∷ []) q ∙ go q (cases_lt q (length marks)) (cases_eq q (length marks)))
  where
    n : ℕ
    n = length marks

    go : (q : ℕ) → (q < length marks) ⊎ (length marks ≤ q) → (q ≡ length marks) ⊎ (q ≡ length marks → ⊥)
        → get_or (marks ++ true ∷ []) q false ≡ contains (insert (marked marks) (length marks)) q
    go q side (inl e) =
        get_or_push marks true false q (sym e)
        ∙ sym (ap (λ i. contains (insert (marked marks) (length marks)) i) e ∙ contains-insert_same (marked marks) (length marks))
    go q (inl below) (inr apart) =
        get_or_append_left marks (true ∷ []) false q below
        ∙ sym (contains-insert_other (marked marks) (length marks) q apart ∙ contains-marked marks q)
    go q (inr past) (inr apart) =
        get_or_past (marks ++ true ∷ []) q false (omega (arith, length_push marks true, apart))
        ∙ sym (contains-insert_other (marked marks) (length marks) q apart ∙ contains-marked marks q ∙ get_or_past marks q false past)
