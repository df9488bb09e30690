-- Letting rows reach further, one by one.
use Rattle.std.proofs.Common.{◌≡◌, ◌⊎◌, ℕ, zero, suc, ◌+◌, ◌-◌, ◌^◌, ◌<◌, ◌≤◌, List, [], ◌∷◌, length, get_or, set, Bool, true, false, cond, sym, ap, ◌∙◌, refl, arith, subst, inl, inr, ⊎_elim}
use Rattle.std.specs.Prelude.{nat_lt, ◌==◌, ◌&&◌}
use Rattle.std.specs.List.{AllAdjacentBelow}
use Rattle.std.specs.List.Sorted.{IsNonDecreasingBy, IsPermutation}
use Rattle.type_layout.specs.Listed.{In}
use Rattle.type_layout.proofs.Least.{in_contains, contains_in}
use Rattle.std.proofs.lemmas.Bool.Decides.{nat_tests}
use Rattle.std.proofs.lemmas.List.Sorted.{all_adjacent_more, IsNonDecreasingBy-from_all_adjacent, Contains-permutation, length_permutation}
use Rattle.layout_table.specs.declared.stored.StoredRow.{StoredRow}
use Rattle.layout_table.specs.Stored.{AreOrdered, from_of, keyed, reach_of}
use Rattle.layout_table.specs.Ordering.{AreShort, reaching, raised, IsRaised, AreRaised, AreSameRows}

set_at : {X : Type 0} (xs : List X) (i : ℕ) (y d : X) → i < length xs → get_or (set xs i y) i d ≡ y
set_at [] i y d h = absurd (omega arith)
set_at (x ∷ xs) zero y d h = refl
set_at (x ∷ xs) (suc i) y d h = set_at xs i y d (omega arith)

set_else : {X : Type 0} (xs : List X) (i j : ℕ) (y d : X) → (j ≡ i → ⊥) → get_or (set xs i y) j d ≡ get_or xs j d
set_else [] i j y d h = refl
set_else (x ∷ xs) zero zero y d h = absurd (h refl)
set_else (x ∷ xs) zero (suc j) y d h = refl
set_else (x ∷ xs) (suc i) zero y d h = refl
set_else (x ∷ xs) (suc i) (suc j) y d h = set_else xs i j y d (λ e. h (ap suc e))

set_length : {X : Type 0} (xs : List X) (i : ℕ) (y : X) → length (set xs i y) ≡ length xs
set_length [] i y = refl
set_length (x ∷ xs) zero y = refl
set_length (x ∷ xs) (suc i) y = ap suc (set_length xs i y)

raise_step : (before row : StoredRow) (b : Bool) → ((before.key == row.key) && nat_lt row.reach before.reach) ≡ b →
    IsRaised row (cond b (reaching row before.reach) row)
raise_step before row true e = record {
  same = refl;
  further = further (before.key == row.key) row.reach before.reach
      e;
}
  where
    further : (c : Bool) (a b : ℕ) → (c && nat_lt a b) ≡ true → a ≤ b
    further c a b e = grind (arith, nat_tests)
raise_step before row false e = record { same = refl; further = omega arith }

is_raised : (before row : StoredRow) → IsRaised row (raised before row)
is_raised before row = raise_step before row ((before.key == row.key) && nat_lt row.reach before.reach) refl

-- a row of no smaller key, raised, reaches no less far than the one before it
reach_step : (before row : StoredRow) (b : Bool) → ((before.key == row.key) && nat_lt row.reach before.reach) ≡ b →
    before.key ≤ row.key → before.reach < 2 ^ 32 →
    keyed before.key before.reach ≤ keyed row.key (cond b (reaching row before.reach) row).reach
reach_step before row true e h s = higher before.key row.key before.reach h
  where
    higher : (a b r : ℕ) → a ≤ b → keyed a r ≤ keyed b r
    higher a b r h = omega (arith, h)
reach_step before row false e h s = lower before.key row.key before.reach row.reach e h s
  where
    lower : (a b r q : ℕ) → ((a == b) && nat_lt q r) ≡ false → a ≤ b → r < 2 ^ 32 → keyed a r ≤ keyed b q
    lower a b r q e h s = ⊎_elim (λ l. omega (arith, l, s)) (λ f. let n : r ≤ q = grind (arith, nat_tests) in
        omega (arith, f, n)) (less_or_same a b h)
      where
        less_or_same : (a b : ℕ) → a ≤ b → (a < b) ⊎ (a ≡ b)
        less_or_same a b h = grind arith

reach_after : (before row : StoredRow) → before.key ≤ row.key → before.reach < 2 ^ 32 →
    reach_of before ≤ reach_of (raised before row)
reach_after before row h s = key_same (reach_step before row b refl h s)
  where
    b : Bool
    b = (before.key == row.key) && nat_lt row.reach before.reach

    keys : (c : Bool) → (cond c (reaching row before.reach) row).key ≡ row.key
    keys true = refl
    keys false = refl

    key_same : keyed before.key before.reach ≤ keyed row.key (raised before row).reach →
        reach_of before ≤ reach_of (raised before row)
    key_same l = subst (λ (n : ℕ). keyed before.key before.reach ≤ keyed n (raised before row).reach) (sym (keys
        ((before.key == row.key) && nat_lt row.reach before.reach))) l

key_rises : (a p b q : ℕ) → keyed a p ≤ keyed b q → q < 2 ^ 32 → a ≤ b
key_rises a p b q h s = omega (arith, h, s)

pub in_at : {X : Type 0} (xs : List X) (i : ℕ) (d : X) → i < length xs → In (get_or xs i d) xs
in_at [] i d h = absurd (omega arith)
in_at (x ∷ xs) zero d h = inl refl
in_at (x ∷ xs) (suc i) d h = inr (in_at xs i d (omega arith))

-- ---- how far rows reach at most

raised_short : (before row : StoredRow) (top : ℕ) (b : Bool) → before.reach ≤ top → row.reach ≤ top →
    (cond b (reaching row before.reach) row).reach ≤ top
raised_short before row top true h i = h
raised_short before row top false h i = i

set_short : (xs : List StoredRow) (i : ℕ) (y : StoredRow) (top : ℕ) → AreShort top xs → y.reach ≤ top →
    AreShort top (set xs i y)
set_short [] i y top h l = λ row j. absurd j
set_short (x ∷ xs) zero y top h l = λ row j. ⊎_elim (λ e. subst (λ (r : StoredRow). r.reach ≤ top) (sym e) l) (λ k. h
    row (inr k)) j
set_short (x ∷ xs) (suc i) y top h l = λ row j.
    ⊎_elim (λ e. h row (inl e)) (λ k. set_short xs i y top (λ r m. h r (inr m)) l row k) j

-- how far the loop has come
pub record IsRaisedTo (old now : List StoredRow) (i : ℕ) : Type 0 where
  pub count : length now ≡ length old
  pub later : (j : ℕ) (d : StoredRow) → i ≤ j → get_or now j d ≡ get_or old j d
  pub done : (j : ℕ) (d : StoredRow) → j < i → j < length old → IsRaised (get_or old j d) (get_or now j d)
  pub rising : AllAdjacentBelow (λ x y. reach_of x ≤ reach_of y) now i
  pub within : (top : ℕ) → AreShort top old → AreShort top now

pub begun : (old : List StoredRow) → IsRaisedTo old old 1
begun old = record {
  count = refl;
  later = λ j d h. refl;
  done = λ j d h l. record { same = refl; further = omega arith };
  rising = λ j d h. absurd (omega (arith, h));
  within = λ top h. h;
}

module _ (old now next : List StoredRow) (i : ℕ) (behind : 0 < i) (within : i < length old) (sorted :
    IsNonDecreasingBy from_of old) (so_far : IsRaisedTo old now i)
    (is : (d : StoredRow) → next ≡ set now i (raised (get_or now (i - 1) d) (get_or now i d)))
    (short : (d : StoredRow) → ((get_or now (i - 1) d).reach < 2 ^ 32) × ((get_or now i d).lo < 2 ^ 32)) where
  here : (d : StoredRow) → get_or next i d ≡ raised (get_or now (i - 1) d) (get_or old i d)
  here d =
      ap (λ xs. get_or xs i d) (is d) ∙ set_at now i (raised (get_or now (i - 1) d) (get_or now i d)) d (omega
      (arith, within, so_far.count)) ∙
      ap (raised (get_or now (i - 1) d)) (so_far.later i d (omega arith))

  there : (j : ℕ) (d : StoredRow) → (j ≡ i → ⊥) → get_or next j d ≡ get_or now j d
  there j d n = ap (λ xs. get_or xs j d) (is d) ∙ set_else now i j (raised (get_or now (i - 1) d) (get_or now i d)) d n

  key_kept : (d : StoredRow) → (get_or now (i - 1) d).key ≡ (get_or old (i - 1) d).key
  key_kept d = ap (λ r. r.key) (so_far.done (i - 1) d (omega (arith, behind)) (omega (arith, within))).same

  keys : (d : StoredRow) → (get_or now (i - 1) d).key ≤ (get_or old i d).key
  keys d =
      let r = sorted (i - 1) i d (omega arith) within in
      let s = subst (λ (r : StoredRow). r.lo < 2 ^ 32) (so_far.later i d (omega arith)) (short d).1 in
      let k = key_rises (get_or old (i - 1) d).key (get_or old (i - 1) d).lo (get_or old i d).key (get_or old i d).lo
      r s in
      omega (arith, k, key_kept d)

  done_or_here : (j : ℕ) (d : StoredRow) → j < i + 1 → j < length old → IsRaised (get_or old j d) (get_or next j d)
  done_or_here j d h l =
      ⊎_elim (λ m. subst (λ r. IsRaised (get_or old j d) r) (sym (there j d (λ e. omega (arith, e, m)))) (so_far.done
      j d m l))
      (λ e. subst (λ (n : ℕ). IsRaised (get_or old n d) (get_or next n d)) (sym e)
      (subst (λ r. IsRaised (get_or old i d) r) (sym (here d)) (is_raised (get_or now (i - 1) d) (get_or old i d))))
      (below_or_last j i h)
    where
      below_or_last : (a b : ℕ) → a < b + 1 → (a < b) ⊎ (a ≡ b)
      below_or_last a b h = grind arith

  pub raised_more : IsRaisedTo old next (i + 1)
  raised_more = record {
    count = count_more;
    later = λ j d h. there j d (λ e. omega (arith, e, h)) ∙ so_far.later j d (omega (arith, h));
    done = done_or_here;
    rising = all_adjacent_more next (λ x y. reach_of x ≤ reach_of y) i behind
        (λ j d h. subst (λ r. reach_of r ≤ reach_of (get_or next (j + 1) d)) (sym (there j d (λ e. omega (
          arith,
          e,
          h,
        ))))
        (subst (λ r. reach_of (get_or now j d) ≤ reach_of r) (sym (there (j + 1) d (λ e. omega (arith, e, h))))
        (so_far.rising j d h)))
        (λ d. subst (λ r. reach_of r ≤ reach_of (get_or next i d)) (sym (there (i - 1) d (λ e. omega (
          arith,
          e,
          behind,
        ))))
        (subst (λ r. reach_of (get_or now (i - 1) d) ≤ reach_of r) (sym (here d))
        (reach_after (get_or now (i - 1) d) (get_or old i d) (keys d) (short d).0)));
    within = λ top h. subst (AreShort top) (sym (is none))
        (set_short now i (raised (get_or now (i - 1) none) (get_or now i none)) top (so_far.within top h)
        (raised_short (get_or now (i - 1) none) (get_or now i none) top (((get_or now (i - 1) none).key == (get_or
        now i none).key) && nat_lt (get_or now i none).reach (get_or now (i - 1) none).reach)
        (so_far.within top h (get_or now (i - 1) none) (in_at now (i - 1) none (omega (arith, within, so_far.count))))
        (so_far.within top h (get_or now i none) (in_at now i none (omega (arith, within, so_far.count))))));
  }
    where
      none : StoredRow
      none = record { key = 0; reach = 0; kind = 0; lo = 0; count = 0; size = 0; levels = 0 }

      count_more : length next ≡ length old
      count_more =
          let d : StoredRow = record { key = 0; reach = 0; kind = 0; lo = 0; count = 0; size = 0; levels = 0 } in
          ap length (is d) ∙ set_length now i (raised (get_or now (i - 1) d) (get_or now i d)) ∙ so_far.count

pub all_raised : (old now : List StoredRow) (i : ℕ) → length old ≤ i → IsRaisedTo old now i → AreRaised old now
all_raised old now i h r = record { count = r.count; each = λ j d l. r.done j d (omega (arith, l, h)) l }

pub all_rising : (old now : List StoredRow) (i : ℕ) → length old ≤ i → IsRaisedTo old now i →
    IsNonDecreasingBy reach_of now
all_rising old now i h r =
    IsNonDecreasingBy-from_all_adjacent reach_of now (λ j d l. r.rising j d (omega (arith, l, h, r.count)))

-- ---- in both orders

raised_kept : (sorted new : List StoredRow) → AreRaised sorted new → (row : StoredRow) → In row sorted →
    (other : StoredRow) × In other new × IsRaised row other
raised_kept sorted new r row i =
    let c = in_contains sorted row i in
    let e = r.each c.0 row c.1 in (
      get_or new c.0 row,
      in_at new c.0 row (omega (arith, c.1, r.count)),
      subst (λ x. IsRaised x (get_or new c.0
          row)) c.2 e,
    )

raised_known : (sorted new : List StoredRow) → AreRaised sorted new → (row : StoredRow) → In row new →
    (other : StoredRow) × In other sorted × IsRaised other row
raised_known sorted new r row i =
    let c = in_contains new row i in
    let l : c.0 < length sorted = omega (arith, c.1, r.count) in
    let e = r.each c.0 row l in
    (get_or sorted c.0 row, in_at sorted c.0 row l, subst (λ x. IsRaised (get_or sorted c.0 row) x) c.2 e)

pub same_rows : (old sorted new : List StoredRow) → IsPermutation old sorted → IsPermutation sorted old →
    AreRaised sorted new → AreSameRows old new
same_rows old sorted new p q r = record {
  kept = λ row i. raised_kept sorted new r row (permuted old sorted row p i);
  known = λ row i. let k = raised_known sorted new r row i in (k.0, permuted sorted old k.0 q k.1, k.2);
  size = r.count ∙ length_permutation old sorted p;
}
  where
    permuted : (xs ys : List StoredRow) (x : StoredRow) → IsPermutation xs ys → In x xs → In x ys
    permuted xs ys x p i = let c = Contains-permutation xs ys x p (in_contains xs x i) in contains_in ys x c.0 c.1 c.2

pub all_short : (old sorted new : List StoredRow) → IsPermutation sorted old → ((top : ℕ) → AreShort top sorted →
    AreShort top new) → (top : ℕ) → AreShort top old → AreShort top new
all_short old sorted new q w top h =
    w top (λ row i. let c = Contains-permutation sorted old row q (in_contains sorted row i) in
    h row (contains_in old row c.0 c.1 c.2))

pub both_orders : (old sorted new : List StoredRow) → ((row : StoredRow) → In row old → row.lo ≤ row.reach) →
    IsPermutation sorted old → IsNonDecreasingBy from_of sorted →
    AreRaised sorted new → IsNonDecreasingBy reach_of new → AreOrdered new
both_orders old sorted new each q s r t = record {
  rising = λ i j d h l.
      let a = r.each i d (omega (arith, h, l, r.count)) in
      let b = r.each j d (omega (arith, l, r.count)) in
      subst (λ (n : ℕ). n ≤ from_of (get_or new j d)) (sym (from_same (get_or sorted i d) (get_or new i d) a))
      (subst (λ (n : ℕ). from_of (get_or sorted i d) ≤ n) (sym (from_same (get_or sorted j d) (get_or new j d) b)) (s
      i j d h (omega (arith, l, r.count))));
  reaching = t;
  each = λ i d l.
      let m : i < length sorted = omega (arith, l, r.count) in
      let e = r.each i d m in
      let c = Contains-permutation sorted old (get_or sorted i d) q (in_contains sorted (get_or sorted i d) (in_at
      sorted i d m)) in
      let o = each (get_or sorted i d) (contains_in old (get_or sorted i d) c.0 c.1 c.2) in
      from_below (get_or sorted i d) (get_or new i d) e o;
}
  where
    from_same : (a b : StoredRow) → IsRaised a b → from_of b ≡ from_of a
    from_same a b e = ap from_of e.same

    from_below : (a b : StoredRow) → IsRaised a b → a.lo ≤ a.reach → from_of b ≤ reach_of b
    from_below a b e o =
        let l : b.lo ≡ a.lo = ap (λ r. r.lo) e.same in
        let f = e.further in
        omega (arith, o, f, l)
