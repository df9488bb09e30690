-- `pref` gives the bounds of the preferred candidate.
use Rattle.std.proofs.Common.{◌≡◌, ◌⊎◌, ℕ, zero, suc, ◌<◌, List, [], ◌∷◌, ◌++◌, length, get_or, Bool, true, false, cond, Some, None, sym, ap, ◌∙◌, refl, arith, inl, inr, ⊎_elim, subst}
use Rattle.std.specs.Prelude.{Option, nat_lt, ◌==◌, ◌&&◌, ◌||◌, if◌then◌else◌, Contains, fold, filter, filter_map, MatchOption}
use Rattle.std.specs.List.{cons_option}
use Rattle.std.specs.Option.{option_map, option_to_list}
use Rattle.std.proofs.lemmas.Bool.Decides.{nat_tests}
use Rattle.c_types.specs.Shapes.{Shape, size}
use Rattle.type_layout.specs.declared.preference.Match.{Match}
use Rattle.type_layout.specs.Listed.{In}
use Rattle.type_layout.specs.Runs.{ShapeRun, runs_of_object, end_of}
use Rattle.type_layout.specs.Matches.{IsMatch, of_run, of_characters, as_characters, IsCandidate, is_character, tier_of}
use Rattle.type_layout.specs.Preferred.{ends_at, span, precedes, IsPreferred, ArePreferred, HasNoCandidate, bounds_of, run_match, object_match, matches, may_mean, better, least, pref}

-- ---- the order of the keys

abbrev pub Lex : ℕ → ℕ → Bool → Bool
Lex a b rest = nat_lt a b || ((a == b) && rest)

lex_trans : (a b c : ℕ) (p q r : Bool) → (p ≡ false → q ≡ false → r ≡ false) → Lex b a p ≡ false → Lex c b q ≡ false → Lex c a r ≡ false
lex_trans a b c p q r next h i = grind (arith, nat_tests)

-- where the larger goes first
lex_turned : (a b c : ℕ) (p q r : Bool) → (p ≡ false → q ≡ false → r ≡ false) → Lex a b p ≡ false → Lex b c q ≡ false → Lex a c r ≡ false
lex_turned a b c p q r next h i = grind (arith, nat_tests)

lex_asym : (a b : ℕ) (p q : Bool) → (p ≡ true → q ≡ false) → Lex a b p ≡ true → Lex b a q ≡ false
lex_asym a b p q next h = grind (arith, nat_tests)

lex_refl : (a : ℕ) (p : Bool) → p ≡ false → Lex a a p ≡ false
lex_refl a p h = grind (arith, nat_tests)

-- ---- lists

pub contains_in : {X : Type 0} (xs : List X) (x : X) (k : ℕ) → k < length xs → get_or xs k x ≡ x → In x xs
contains_in [] x k h e = absurd (omega arith)
contains_in (y ∷ ys) x zero h e = inl (sym e)
contains_in (y ∷ ys) x (suc k) h e = inr (contains_in ys x k (omega arith) e)

pub in_contains : {X : Type 0} (xs : List X) (x : X) → In x xs → Contains xs x
in_contains [] x h = absurd h
in_contains (y ∷ ys) x h =
    ⊎_elim (λ e. (0, omega arith, sym e)) (λ i. let c = in_contains ys x i in (suc c.0, omega (arith, c.1), c.2)) h

pub in_append_left : {X : Type 0} (x : X) (xs ys : List X) → In x xs → In x (xs ++ ys)
in_append_left x [] ys h = absurd h
in_append_left x (z ∷ xs) ys h = ⊎_elim inl (λ i. inr (in_append_left x xs ys i)) h

pub in_append_right : {X : Type 0} (x : X) (xs ys : List X) → In x ys → In x (xs ++ ys)
in_append_right x [] ys h = h
in_append_right x (z ∷ xs) ys h = inr (in_append_right x xs ys h)

pub in_append : {X : Type 0} (x : X) (xs ys : List X) → In x (xs ++ ys) → In x xs ⊎ In x ys
in_append x [] ys h = inr h
in_append x (z ∷ xs) ys h = ⊎_elim (λ e. inl (inl e)) (λ i. ⊎_elim (λ j. inl (inr j)) inr (in_append x xs ys i)) h

filter_step : (p : Match → Bool) (m x : Match) (rest : List Match) (b : Bool) → p x ≡ b →
    In m (cond b (x ∷ rest) rest) → ((m ≡ x) × (p m ≡ true)) ⊎ In m rest
filter_step p m x rest true e h = ⊎_elim (λ f. inl (f, ap p f ∙ e)) inr h
filter_step p m x rest false e h = inr h

pub in_filter : (p : Match → Bool) (m : Match) (xs : List Match) → In m (filter p xs) → In m xs × (p m ≡ true)
in_filter p m [] h = absurd h
in_filter p m (x ∷ xs) h =
    ⊎_elim (λ f. (inl f.0, f.1)) (λ i. let r = in_filter p m xs i in (inr r.0, r.1)) (filter_step p m x (filter p xs) (p x) refl h)

kept_step : (m x : Match) (rest : List Match) (b : Bool) → In m rest → In m (cond b (x ∷ rest) rest)
kept_step m x rest true h = inr h
kept_step m x rest false h = h

pub filter_in : (p : Match → Bool) (m : Match) (xs : List Match) → In m xs → p m ≡ true → In m (filter p xs)
filter_in p m [] h e = absurd h
filter_in p m (x ∷ xs) h e =
    ⊎_elim (λ f. rw (← f, e) (inl refl)) (λ i. kept_step m x (filter p xs) (p x) (filter_in p m xs i e)) h

-- ---- the matches

made_step : (m : Match) (rest : List Match) (o : Option Match) → In m (cons_option o rest) → (o ≡ Some m) ⊎ In m rest
made_step m rest None h = inr h
made_step m rest (Some x) h = ⊎_elim (λ e. inl (ap Some (sym e))) inr h

pub in_filter_map : (f : ShapeRun → Option Match) (m : Match) (runs : List ShapeRun) → In m (filter_map f runs) →
    (run : ShapeRun) × In run runs × (f run ≡ Some m)
in_filter_map f m [] h = absurd h
in_filter_map f m (run ∷ runs) h =
    ⊎_elim (λ e. (run, inl refl, e)) (λ i. let r = in_filter_map f m runs i in (r.0, inr r.1, r.2)) (made_step m (filter_map f runs) (f run) h)

more_step : (m : Match) (rest : List Match) (o : Option Match) → In m rest → In m (cons_option o rest)
more_step m rest None h = h
more_step m rest (Some x) h = inr h

pub filter_map_in : (f : ShapeRun → Option Match) (m : Match) (run : ShapeRun) (runs : List ShapeRun) → In run runs → f run ≡ Some m →
    In m (filter_map f runs)
filter_map_in f m run [] h e = absurd h
filter_map_in f m run (r ∷ runs) h e =
    ⊎_elim (λ g. rw (← g, e) (inl refl)) (λ i. more_step m (filter_map f runs) (f r) (filter_map_in f m run runs i e)) h

module _ (elem : Shape) (bytes : ℕ) (want : Shape) where
  pub match_of_run : (run : ShapeRun) (m : Match) (o : Option ℕ) → tier_of run.kind want ≡ o →
      option_map (λ tier. record { tier = tier; lo = run.lo; hi = end_of run; step = size run.kind }) o ≡ Some m →
      Contains (runs_of_object elem bytes) run → IsMatch elem bytes want m
  match_of_run run m None t e found = cc
  match_of_run run m (Some tier) t e found =
      let made : Match = record { tier = tier; lo = run.lo; hi = end_of run; step = size run.kind } in
      let g : made ≡ m = cc in
      subst (λ x. IsMatch elem bytes want x) g (of_run run tier found t)

  pub match_of_object : (m : Match) (a b : Bool) → is_character want ≡ a → is_character elem ≡ b →
      In m (option_to_list (if a then Some (record { tier = 2; lo = 0; hi = bytes; step = 1 }) else
      (if b then Some (record { tier = 3; lo = 0; hi = bytes; step = 1 }) else None))) → IsMatch elem bytes want m
  match_of_object m true b e f h = ⊎_elim (λ g. subst (λ x. IsMatch elem bytes want x) (sym g) (as_characters e)) (λ i. absurd i) h
  match_of_object m false true e f h = ⊎_elim (λ g. subst (λ x. IsMatch elem bytes want x) (sym g) (of_characters f e)) (λ i. absurd i) h
  match_of_object m false false e f h = absurd h

  in_matches : (m : Match) → In m (matches elem bytes want) → IsMatch elem bytes want m
  in_matches m h =
      ⊎_elim
      (λ i. let r = in_filter_map (run_match want) m (runs_of_object elem bytes) i in
      match_of_run r.0 m (tier_of r.0.kind want) refl r.2 (in_contains (runs_of_object elem bytes) r.0 r.1))
      (match_of_object m (is_character want) (is_character elem) refl refl)
      (in_append m (filter_map (run_match want) (runs_of_object elem bytes)) (option_to_list (object_match elem bytes want)) h)

  matches_in : (m : Match) → IsMatch elem bytes want m → In m (matches elem bytes want)
  matches_in m (of_run run tier found t) =
      in_append_left _ (filter_map (run_match want) (runs_of_object elem bytes)) (option_to_list (object_match elem bytes want))
      (filter_map_in (run_match want) _ run (runs_of_object elem bytes)
      (contains_in (runs_of_object elem bytes) run found.0 found.1 found.2) (rw t refl))
  matches_in m (of_characters is not) =
      in_append_right _ (filter_map (run_match want) (runs_of_object elem bytes)) (option_to_list (object_match elem bytes want))
      (rw (not, is) (inl refl))
  matches_in m (as_characters is) =
      in_append_right _ (filter_map (run_match want) (runs_of_object elem bytes)) (option_to_list (object_match elem bytes want))
      (rw is (inl refl))

  -- ---- the candidates

  candidate_in : (k : ℕ) (m : Match) → IsCandidate elem bytes k want m → In m (filter (may_mean k) (matches elem bytes want))
  candidate_in k m c =
      let e : may_mean k m ≡ true = (let f = c.from in let t = c.to in let a = c.aligned in grind (arith, nat_tests)) in
      filter_in (may_mean k) m (matches elem bytes want) (matches_in m c.found) e

  in_candidates : (k : ℕ) (m : Match) → In m (filter (may_mean k) (matches elem bytes want)) → IsCandidate elem bytes k want m
  in_candidates k m h =
      let r = in_filter (may_mean k) m (matches elem bytes want) h in
      let e = r.1 in
      record { found = in_matches m r.0; from = grind (arith, nat_tests); to = grind (arith, nat_tests); aligned = grind (arith, nat_tests) }

-- ---- the least

-- a match goes no later than another
pub NotAfter : ℕ → Match → Match → Type 0
NotAfter k a b = precedes k b a ≡ false

pub not_after_refl : (k : ℕ) (a : Match) → NotAfter k a a
unfolding NotAfter
not_after_refl k a =
    lex_refl (ends_at k a) _ (lex_refl a.tier _ (lex_refl (span a) _ (lex_refl a.lo false refl)))

pub not_after_trans : (k : ℕ) (a b c : Match) → NotAfter k a b → NotAfter k b c → NotAfter k a c
unfolding NotAfter
not_after_trans k a b c =
    lex_trans (ends_at k a) (ends_at k b) (ends_at k c) _ _ _
    (lex_trans a.tier b.tier c.tier _ _ _
    (lex_turned (span a) (span b) (span c) _ _ _ (lex_trans a.lo b.lo c.lo false false false (λ _ _. refl))))

pub precedes_not_after : (k : ℕ) (a b : Match) → precedes k a b ≡ true → NotAfter k a b
unfolding NotAfter
precedes_not_after k a b =
    lex_asym (ends_at k a) (ends_at k b) _ _
    (lex_asym a.tier b.tier _ _ (lex_asym (span b) (span a) _ _ (lex_asym a.lo b.lo false false (λ h. cc))))

-- the least of a list and one more before it
pub record IsLeast (k : ℕ) (best : Match) (all : List Match) (m : Match) : Type 0 where
  pub one : (m ≡ best) ⊎ In m all
  pub before_best : NotAfter k m best
  pub before_all : (other : Match) → In other all → NotAfter k m other

least_step : (k : ℕ) (best next : Match) (rest : List Match) (m : Match) (b : Bool) → precedes k next best ≡ b →
    IsLeast k (cond b next best) rest m → IsLeast k best (next ∷ rest) m
unfolding NotAfter
least_step k best next rest m true e l = record {
  one = inr (⊎_elim inl inr l.one);
  before_best = not_after_trans k m next best l.before_best (precedes_not_after k next best e);
  before_all = λ other h. ⊎_elim (λ f. subst (λ x. NotAfter k m x) (sym f) l.before_best) (λ i. l.before_all other i) h;
}
least_step k best next rest m false e l = record {
  one = ⊎_elim inl (λ i. inr (inr i)) l.one;
  before_best = l.before_best;
  before_all = λ other h.
      ⊎_elim (λ f. subst (λ x. NotAfter k m x) (sym f) (not_after_trans k m best next l.before_best e)) (λ i. l.before_all other i) h;
}

pub least_from : (k : ℕ) (best : Match) (all : List Match) → (m : Match) × (fold (better k) (Some best) all ≡ Some m) × IsLeast k best all m
least_from k best [] = (best, refl, record { one = inl refl; before_best = not_after_refl k best; before_all = λ other h. absurd h })
least_from k best (next ∷ rest) =
    let r = least_from k (cond (precedes k next best) next best) rest in
    (r.0, r.1, least_step k best next rest r.0 (precedes k next best) refl r.2)

module _ (elem : Shape) (bytes k : ℕ) (want : Shape) where
  -- for a list of the candidates
  pub pref_step : (all : List Match) → ((m : Match) → IsCandidate elem bytes k want m → In m all) → ((m : Match) → In m all → IsCandidate elem bytes k want m) →
      MatchOption (option_map bounds_of (least k all)) (HasNoCandidate elem bytes k want) (λ bounds. ArePreferred elem bytes k want bounds)
  unfolding NotAfter
  pref_step [] has is = λ m c. has m c
  pref_step (first ∷ rest) has is =
      let r = least_from k first rest in
      let l = r.2 in
      let p : IsPreferred elem bytes k want r.0 = record {
        candidate = is r.0 l.one;
        first = λ other c. ⊎_elim (λ f. subst (λ x. NotAfter k r.0 x) (sym f) l.before_best) (λ i. l.before_all other i) (has other c);
      } in
      rw r.1 (r.0, p, refl)

  pub pref_found : MatchOption (pref elem bytes k want) (HasNoCandidate elem bytes k want) (λ bounds. ArePreferred elem bytes k want bounds)
  unfolding pref
  pref_found = pref_step (filter (may_mean k) (matches elem bytes want)) (candidate_in elem bytes want k) (in_candidates elem bytes want k)
