-- Slots that are taken or given back once: what a step keeps, and what follows.
use Rattle.std.proofs.Common.{◌≡◌, ◌≢◌, ℕ, zero, suc, ◌+◌, ◌<◌, ◌≤◌, Bool, true, false, cond, List, [], ◌∷◌, ◌++◌, length, get_or, refl, sym, ap, ◌∙◌, subst, inl, inr, ◌⊎◌, arith, length-append}
use Rattle.std.specs.Prelude.{◌==◌, nat_lt, Contains}
use Rattle.std.proofs.lemmas.Bool.{cases_eq, cases_lt, eq-eqb, ne_eqb, lt-ltb, le-ltb, ltb-true}
use Rattle.std.proofs.lemmas.List.Sums.{sum_by-append}
use Rattle.std.specs.FinSet.{contains, insert, remove, len}
use Rattle.free_slots.specs.Slots.{Slots, made_count}
use Rattle.free_slots.specs.Fields.{one_if, times, IsWhole}
use Rattle.free_slots.proofs.Marks.{contains-insert_same, contains-insert_other, contains-remove_same, contains-remove_other, len-insert_new, len-remove_member}

-- ---- counts

pub one_if-le : (b : Bool) → one_if b ≤ 1
one_if-le true = omega arith
one_if-le false = omega arith

pub false_of_zero : (b : Bool) → one_if b ≡ 0 → b ≡ false
false_of_zero true e = absurd (omega (arith, e))
false_of_zero false e = refl

pub true_of_some : (b : Bool) → 0 < one_if b → b ≡ true
true_of_some true e = refl
true_of_some false e = absurd (omega (arith, e))

pub times-append : (slot : ℕ) (xs ys : List ℕ) → times slot (xs ++ ys) ≡ times slot xs + times slot ys
times-append slot xs ys = sum_by-append (λ s. cond (s == slot) 1 0) xs ys

pub times_same : (slot : ℕ) → times slot (slot ∷ []) ≡ 1
times_same slot = let same : (slot == slot) ≡ true = eq-eqb slot slot refl in let one : one_if (slot == slot) ≡ 1 = ap one_if same in omega (arith, one)

times_other : (q slot : ℕ) → q ≢ slot → times q (slot ∷ []) ≡ 0
times_other q slot apart =
    let other : (slot == q) ≡ false = ne_eqb slot q (λ e. apart (sym e)) in
    let none : one_if (slot == q) ≡ 0 = ap one_if other in
    omega (arith, none)

-- a list has its elements once or more
pub times_of_index : (xs : List ℕ) (k slot : ℕ) → k < length xs → get_or xs k slot ≡ slot → 0 < times slot xs
times_of_index [] k slot within e = absurd (omega (arith, within))
times_of_index (x ∷ xs) zero slot within e =
    let here : one_if (x == slot) ≡ 1 = ap one_if (eq-eqb x slot e) in
    omega (arith, times-append slot (x ∷ []) xs, here)
times_of_index (x ∷ xs) (suc k) slot within e =
    let rest : 0 < times slot xs = times_of_index xs k slot (omega (arith, within)) e in
    omega (arith, times-append slot (x ∷ []) xs, rest)

pub times_of_contains : (xs : List ℕ) (slot : ℕ) → Contains xs slot → 0 < times slot xs
times_of_contains xs slot h = times_of_index xs h.0 slot h.1 h.2

-- ---- what follows

module _ (s : Slots) (whole : IsWhole s) (slot : ℕ) where
  -- a slot that was given back was made, and is not taken
  pub out_of_given : 0 < times slot s.given_back → (contains s.taken slot ≡ false) × (slot < made_count s) × (times slot s.given_back ≡ 1)
  out_of_given some =
      let most = one_if-le (nat_lt slot (made_count s)) in
      let none : one_if (contains s.taken slot) ≡ 0 = omega (arith, whole.once slot, most, some) in
      let made : 0 < one_if (nat_lt slot (made_count s)) = omega (arith, whole.once slot, some) in
      (false_of_zero _ none, ltb-true _ _ (true_of_some _ made), omega (arith, whole.once slot, most, some))

  -- a slot that is taken was made, and is not given back
  pub made_of_taken : contains s.taken slot ≡ true → (slot < made_count s) × (times slot s.given_back ≡ 0)
  made_of_taken inside =
      let most = one_if-le (nat_lt slot (made_count s)) in
      let one : one_if (contains s.taken slot) ≡ 1 = ap one_if inside in
      let made : 0 < one_if (nat_lt slot (made_count s)) = omega (arith, whole.once slot, one) in
      (ltb-true _ _ (true_of_some _ made), omega (arith, whole.once slot, most, one))

  -- a slot that was not made is neither
  pub out_of_unmade : made_count s ≤ slot → (contains s.taken slot ≡ false) × (times slot s.given_back ≡ 0)
  out_of_unmade past =
      let none : one_if (nat_lt slot (made_count s)) ≡ 0 = ap one_if (le-ltb slot (made_count s) past) in
      (false_of_zero _ (omega (arith, whole.once slot, none)), omega (arith, whole.once slot, none))

-- ---- steps

-- A step leaves each slot once: it has to be shown for the slot itself, and the others have to keep their two parts.
once_of_parts : (s t : Slots) (slot : ℕ) → IsWhole s
    → one_if (contains t.taken slot) + times slot t.given_back ≡ one_if (nat_lt slot (made_count t))
    → ((q : ℕ) → q ≢ slot → contains t.taken q ≡ contains s.taken q)
    → ((q : ℕ) → q ≢ slot → times q t.given_back ≡ times q s.given_back)
    → ((q : ℕ) → q ≢ slot → nat_lt q (made_count t) ≡ nat_lt q (made_count s))
    → (q : ℕ) → one_if (contains t.taken q) + times q t.given_back ≡ one_if (nat_lt q (made_count t))
once_of_parts s t slot whole here taken given made q = go (cases_eq q slot)
  where
    go : (q ≡ slot) ⊎ (q ≡ slot → ⊥) → one_if (contains t.taken q) + times q t.given_back ≡ one_if (nat_lt q (made_count t))
    go (inl e) = subst (λ k. one_if (contains t.taken k) + times k t.given_back ≡ one_if (nat_lt k (made_count t))) (sym e) here
    go (inr apart) =
        (λ i. one_if (taken q apart i) + given q apart i) ∙ whole.once q ∙ ap one_if (sym (made q apart))

-- a slot that was given back is taken again
module _ (s t : Slots) (slot : ℕ) (before after : List ℕ) (whole : IsWhole s) (count : t.count ≡ s.count) (taken : t.taken ≡ insert s.taken slot)
    (was : s.given_back ≡ (before ++ slot ∷ []) ++ after) (is : t.given_back ≡ before ++ after) where
  parts : (q : ℕ) → times q s.given_back ≡ times q before + times q (slot ∷ []) + times q after
  parts q = ap (λ l. times q l) was ∙ times-append q (before ++ slot ∷ []) after ∙ ap (λ n. n + times q after) (times-append q before (slot ∷ []))

  rest : (q : ℕ) → times q t.given_back ≡ times q before + times q after
  rest q = ap (λ l. times q l) is ∙ times-append q before after

  out : (contains s.taken slot ≡ false) × (slot < made_count s) × (times slot s.given_back ≡ 1)
  out = out_of_given s whole slot (omega (arith, parts slot, times_same slot))

  pub made-again : made_count t ≡ made_count s
  made-again =
      let live : len t.taken ≡ len s.taken + 1 = ap len taken ∙ len-insert_new s.taken slot out.0 in
      let had : length s.given_back ≡ length before + 1 + length after =
      ap length was ∙ length-append (before ++ slot ∷ []) after ∙ ap (λ n. n + length after) (length-append before (slot ∷ [])) in
      let has : length t.given_back ≡ length before + length after = ap length is ∙ length-append before after in
      omega (arith, live, had, has)

  pub whole-again : IsWhole t
  whole-again = record {
    within = omega (arith, whole.within, count, made-again);
    once = once_of_parts s t slot whole
        (let inside : one_if (contains t.taken slot) ≡ 1 = ap (λ u. one_if (contains u slot)) taken ∙ ap one_if (contains-insert_same s.taken slot) in
        let below : one_if (nat_lt slot (made_count t)) ≡ 1 = ap (λ n. one_if (nat_lt slot n)) made-again ∙ ap one_if (lt-ltb _ _ out.1) in
        omega (arith, inside, below, out.2, parts slot, rest slot, times_same slot))
        (λ q apart. ap (λ u. contains u q) taken ∙ contains-insert_other s.taken slot q apart)
        (λ q apart. omega (arith, parts q, rest q, times_other q slot apart))
        (λ q apart. ap (λ n. nat_lt q n) made-again);
  }

-- the next slot is taken for the first time
module _ (s t : Slots) (whole : IsWhole s) (left : made_count s < s.count) (count : t.count ≡ s.count) (taken : t.taken ≡ insert s.taken (made_count s))
    (is : t.given_back ≡ s.given_back) where
  unmade : (contains s.taken (made_count s) ≡ false) × (times (made_count s) s.given_back ≡ 0)
  unmade = out_of_unmade s whole (made_count s) (omega arith)

  pub made-fresh : made_count t ≡ made_count s + 1
  made-fresh =
      let live : len t.taken ≡ len s.taken + 1 = ap len taken ∙ len-insert_new s.taken (made_count s) unmade.0 in
      let same : length t.given_back ≡ length s.given_back = ap length is in
      omega (arith, live, same)

  same_below : (q : ℕ) → q ≢ made_count s → nat_lt q (made_count t) ≡ nat_lt q (made_count s)
  same_below q apart = ap (λ n. nat_lt q n) made-fresh ∙ go (cases_lt q (made_count s))
    where
      go : (q < made_count s) ⊎ (made_count s ≤ q) → nat_lt q (made_count s + 1) ≡ nat_lt q (made_count s)
      go (inl below) = lt-ltb q (made_count s + 1) (omega (arith, below)) ∙ sym (lt-ltb q (made_count s) below)
      go (inr past) = le-ltb q (made_count s + 1) (omega (arith, past, apart)) ∙ sym (le-ltb q (made_count s) past)

  pub whole-fresh : IsWhole t
  whole-fresh = record {
    within = omega (arith, left, count, made-fresh);
    once = once_of_parts s t (made_count s) whole
        (let inside : one_if (contains t.taken (made_count s)) ≡ 1 =
        ap (λ u. one_if (contains u (made_count s))) taken ∙ ap one_if (contains-insert_same s.taken (made_count s)) in
        let below : one_if (nat_lt (made_count s) (made_count t)) ≡ 1 = ap one_if (lt-ltb _ _ (omega (arith, made-fresh))) in
        let none : times (made_count s) t.given_back ≡ 0 = ap (λ l. times (made_count s) l) is ∙ unmade.1 in
        omega (arith, inside, below, none))
        (λ q apart. ap (λ u. contains u q) taken ∙ contains-insert_other s.taken (made_count s) q apart)
        (λ q apart. ap (λ l. times q l) is)
        same_below;
  }

-- a slot is given back
module _ (s t : Slots) (slot : ℕ) (whole : IsWhole s) (member : contains s.taken slot ≡ true) (count : t.count ≡ s.count)
    (taken : t.taken ≡ remove s.taken slot) (is : t.given_back ≡ s.given_back ++ slot ∷ []) where
  was_made : (slot < made_count s) × (times slot s.given_back ≡ 0)
  was_made = made_of_taken s whole slot member

  more : (q : ℕ) → times q t.given_back ≡ times q s.given_back + times q (slot ∷ [])
  more q = ap (λ l. times q l) is ∙ times-append q s.given_back (slot ∷ [])

  pub made-given : made_count t ≡ made_count s
  made-given =
      let live : len t.taken + 1 ≡ len s.taken = ap (λ u. len u + 1) taken ∙ len-remove_member s.taken slot member in
      let longer : length t.given_back ≡ length s.given_back + 1 = ap length is ∙ length-append s.given_back (slot ∷ []) in
      omega (arith, live, longer)

  pub whole-given : IsWhole t
  whole-given = record {
    within = omega (arith, whole.within, count, made-given);
    once = once_of_parts s t slot whole
        (let outside : one_if (contains t.taken slot) ≡ 0 = ap (λ u. one_if (contains u slot)) taken ∙ ap one_if (contains-remove_same s.taken slot) in
        let below : one_if (nat_lt slot (made_count t)) ≡ 1 = ap (λ n. one_if (nat_lt slot n)) made-given ∙ ap one_if (lt-ltb _ _ was_made.0) in
        omega (arith, outside, below, was_made.1, more slot, times_same slot))
        (λ q apart. ap (λ u. contains u q) taken ∙ contains-remove_other s.taken slot q apart)
        (λ q apart. omega (arith, more q, times_other q slot apart))
        (λ q apart. ap (λ n. nat_lt q n) made-given);
  }
