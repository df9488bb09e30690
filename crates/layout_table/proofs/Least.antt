-- The best of the runs that are looked at has the preferred bounds.
use Rattle.std.proofs.Common.{◌≡◌, ℕ, ◌≤◌, List, ◌++◌, true, Some, None, sym, refl, arith, inl, ⊎_elim}
use Rattle.std.specs.Prelude.{Option, filter, filter_map, MatchOption}
use Rattle.std.specs.Option.{option_map, option_to_list}
use Rattle.std.proofs.lemmas.Bool.Decides.{nat_tests}
use Rattle.c_types.specs.Shapes.{Shape}
use Rattle.type_layout.specs.declared.preference.Match.{Match}
use Rattle.type_layout.specs.declared.preference.Bounds.{Bounds}
use Rattle.type_layout.specs.Runs.{ShapeRun, runs_of_object, end_of}
use Rattle.type_layout.specs.Matches.{IsMatch, of_run, of_characters, as_characters, IsCandidate, is_character, tier_of}
use Rattle.type_layout.specs.Preferred.{ArePreferred, HasNoCandidate, bounds_of, run_match, object_match, may_mean, least, pref}
use Rattle.type_layout.specs.Listed.{In}
use Rattle.type_layout.proofs.Least.{in_append, in_append_left, in_append_right, contains_in, in_contains, in_filter, filter_in, in_filter_map, filter_map_in, match_of_run, match_of_object, pref_step, pref_found}
use Rattle.type_layout.proofs.Consequences.{pref_only}

-- a type matches the wanted one
abbrev pub Wanted : Shape → Shape → Type 0
Wanted want kind = (tier : ℕ) × (tier_of kind want ≡ Some tier)

-- These runs are of the object, and hold each one that may be a candidate.
pub record Covers (elem want : Shape) (bytes k : ℕ) (seen : List ShapeRun) : Type 0 where
  pub sound : (run : ShapeRun) → In run seen → In run (runs_of_object elem bytes)
  pub complete : (run : ShapeRun) → Wanted want run.kind → In run (runs_of_object elem bytes) → run.lo ≤ k →
      k ≤ end_of run → In run seen

-- the matches of runs and of the whole object
abbrev pub all_matches : Shape → Shape → ℕ → List ShapeRun → List ShapeRun → List Match
all_matches elem want bytes first last =
    (filter_map (run_match want) first ++ option_to_list (object_match elem bytes want)) ++ filter_map (run_match
    want) last

none_only : (elem want : Shape) (bytes k : ℕ) (found : Option Bounds) → HasNoCandidate elem bytes k want →
    MatchOption found (HasNoCandidate elem bytes k want) (λ b. ArePreferred elem bytes k want b) → None ≡ found
none_only elem want bytes k None none h = refl
none_only elem want bytes k (Some b) none h = absurd (none h.0 h.1.candidate)

same_as_pref : (elem want : Shape) (bytes k : ℕ) (found : Option Bounds) →
    MatchOption found (HasNoCandidate elem bytes k want) (λ b. ArePreferred elem bytes k want b) →
    found ≡ pref elem bytes k want
same_as_pref elem want bytes k None h = none_only elem want bytes k (pref elem bytes k want) h (pref_found elem bytes
    k want)
same_as_pref elem want bytes k (Some bounds) h = sym (pref_only elem want bytes k bounds h)

module _ (elem want : Shape) (bytes k : ℕ) (first last : List ShapeRun) (covers : Covers elem want bytes k (first ++
    last)) where
  runs_left : (m : Match) → In m (filter_map (run_match want) first) → In m (all_matches elem want bytes first last)
  runs_left m h =
      in_append_left m (filter_map (run_match want) first ++ option_to_list (object_match elem bytes want))
      (filter_map (run_match want) last)
      (in_append_left m (filter_map (run_match want) first) (option_to_list (object_match elem bytes want)) h)

  object_middle : (m : Match) → In m (option_to_list (object_match elem bytes want)) →
      In m (all_matches elem want bytes first last)
  object_middle m h =
      in_append_left m (filter_map (run_match want) first ++ option_to_list (object_match elem bytes want))
      (filter_map (run_match want) last)
      (in_append_right m (filter_map (run_match want) first) (option_to_list (object_match elem bytes want)) h)

  runs_right : (m : Match) → In m (filter_map (run_match want) last) → In m (all_matches elem want bytes first last)
  runs_right m h =
      in_append_right m (filter_map (run_match want) first ++ option_to_list (object_match elem bytes want))
      (filter_map (run_match want) last) h

  match_in : (run : ShapeRun) (m : Match) → run_match want run ≡ Some m → In run (first ++ last) →
      In m (all_matches elem want bytes first last)
  match_in run m e h =
      ⊎_elim (λ i. runs_left m (filter_map_in (run_match want) m run first i e)) (λ i. runs_right m (filter_map_in
      (run_match want) m run last i e))
      (in_append run first last h)

  candidate_in : (m : Match) → IsMatch elem bytes want m → m.lo ≤ k → k ≤ m.hi →
      In m (all_matches elem want bytes first last)
  candidate_in m (of_run run tier found t) from to =
      match_in run _ (rw t refl)
      (covers.complete run (tier, t) (contains_in (runs_of_object elem bytes) run found.0 found.1 found.2) from to)
  candidate_in m (of_characters is not) from to = object_middle _ (rw (not, is) (inl refl))
  candidate_in m (as_characters is) from to = object_middle _ (rw is (inl refl))

  has : (m : Match) → IsCandidate elem bytes k want m → In m (filter (may_mean k) (all_matches elem want bytes first
      last))
  has m c =
      let e : may_mean k m ≡ true = (let f = c.from in let t = c.to in let a = c.aligned in grind (arith, nat_tests)) in
      filter_in (may_mean k) m (all_matches elem want bytes first last) (candidate_in m c.found c.from c.to) e

  run_is : (m : Match) (runs : List ShapeRun) → ((run : ShapeRun) → In run runs → In run (first ++ last)) →
      In m (filter_map (run_match want) runs) → IsMatch elem bytes want m
  run_is m runs within h =
      let r = in_filter_map (run_match want) m runs h in
      match_of_run elem bytes want r.0 m (tier_of r.0.kind want) refl r.2 (in_contains (runs_of_object elem bytes)
      r.0 (covers.sound r.0 (within r.0 r.1)))

  match_is : (m : Match) → In m (all_matches elem want bytes first last) → IsMatch elem bytes want m
  match_is m h =
      ⊎_elim
      (λ i. ⊎_elim (run_is m first (λ run j. in_append_left run first last j))
      (match_of_object elem bytes want m (is_character want) (is_character elem) refl refl)
      (in_append m (filter_map (run_match want) first) (option_to_list (object_match elem bytes want)) i))
      (run_is m last (λ run j. in_append_right run first last j))
      (in_append m (filter_map (run_match want) first ++ option_to_list (object_match elem bytes want)) (filter_map
      (run_match want) last) h)

  is : (m : Match) → In m (filter (may_mean k) (all_matches elem want bytes first last)) →
      IsCandidate elem bytes k want m
  is m h =
      let r = in_filter (may_mean k) m (all_matches elem want bytes first last) h in
      let e = r.1 in
      record {
        found = match_is m r.0;
        from = grind (arith, nat_tests);
        to = grind (arith, nat_tests);
        aligned = grind (arith, nat_tests);
      }

  -- The best of them has the preferred bounds.
  pub best_is_preferred : option_map bounds_of (least k (filter (may_mean k) (all_matches elem want bytes first
      last))) ≡ pref elem bytes k want
  best_is_preferred =
      same_as_pref elem want bytes k (option_map bounds_of (least k (filter (may_mean k) (all_matches elem want bytes
      first last))))
      (pref_step elem bytes k want (filter (may_mean k) (all_matches elem want bytes first last)) has is)
