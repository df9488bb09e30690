-- Going over the rows of an object finds the preferred bounds.
use Rattle.std.proofs.Common.{◌≡◌, ◌⊎◌, ℕ, ◌+◌, ◌-◌, ◌*◌, ◌/◌, ◌<◌, ◌≤◌, List, [], ◌∷◌, ◌++◌, Bool, true, false, cond, Some, None, sym, ap, ◌∙◌, refl, arith, inl, inr, ⊎_elim, subst}
use Rattle.std.specs.Prelude.{Option, nat_lt, nat_le, fold, filter, filter_map, if◌then◌else◌}
use Rattle.std.specs.List.{cons_option}
use Rattle.std.specs.Option.{option_map, option_to_list}
use Rattle.std.proofs.lemmas.Bool.Decides.{nat_tests}
use Rattle.std.proofs.Math.Nat.{div-mul-le_self}
use Rattle.std.proofs.lemmas.List.Sums.{fold-append}
use Rattle.c_types.specs.Shapes.{Shape, size}
use Rattle.type_layout.specs.declared.preference.Match.{Match}
use Rattle.type_layout.specs.Runs.{ShapeRun, end_of, runs_of, runs_by, runs_of_object, flexible_of}
use Rattle.type_layout.specs.Preferred.{bounds_of, run_match, object_match, may_mean, better, least, pref, precedes}
use Rattle.type_layout.specs.Search.{consider}
use Rattle.type_layout.specs.Matches.{tier_of}
use Rattle.type_layout.specs.Listed.{In}
use Rattle.type_layout.proofs.Least.{in_append, in_append_left, in_append_right, in_filter, in_filter_map}
use Rattle.type_layout.proofs.Searched.{filter_append, fold_runs, last}
use Rattle.layout_table.specs.Strides.{Row, Part, width, rows_in, IsSound, around, before, located, descend, value_at, value_before, in_value, parts_by, parts_of, look, scan, scan_value, part_inside, part_ends, is_settled, all_inside, all_ends, first_of, best_match}
use Rattle.layout_table.proofs.Strided.{IsInstance}
use Rattle.layout_table.proofs.Located.{cond_some, true_le, some_map, in_value_in}
use Rattle.layout_table.proofs.Chosen.{looked_at_is, is_looked_at}
use Rattle.layout_table.proofs.Least.{Wanted, Covers, all_matches, best_is_preferred}

-- ---- numbers and tests

value_from : (bytes base count k at : ℕ) → value_at bytes base count k ≡ Some at → at ≤ k
value_from bytes base count k at e =
    let c = cond_some (nat_le base k) (if nat_lt ((k - base) / bytes) count then Some (base + (k - base) / bytes *
    bytes) else None) at e in
    let d = cond_some (nat_lt ((k - base) / bytes) count) (Some (base + (k - base) / bytes * bytes)) at c.1 in
    let f : base + (k - base) / bytes * bytes ≡ at = (let g = d.1 in cc) in
    omega (arith, f, true_le base k c.0, div-mul-le_self (k - base) bytes)

located_end : (row : Row) (at place : ℕ) (run : ShapeRun) → located row at place ≡ Some run →
    end_of run ≤ at + place + width row
located_end row at place run e =
    let c = cond_some (nat_le row.lo place) (option_map (λ past. record {
      kind = row.kind;
      lo = at + (place - past);
      count = row.count;
    }) (descend row.levels (place - row.lo))) run e in
    let r = some_map (λ (past : ℕ). record {
      kind = row.kind;
      lo = at + (place - past);
      count = row.count;
    }) (descend row.levels (place - row.lo)) run c.1 in
    let f : end_of run ≡ at + (place - r.0) + width row = ap end_of r.2 in
    omega (arith, f)

not_above : {k : ℕ} (m : Match) → may_mean k m ≡ true → k ≤ m.hi
not_above m e = grind (arith, nat_tests)

not_settled : {k : ℕ} (b : Match) → is_settled k (Some b) ≡ true → b.hi ≡ k → ⊥
not_settled b e h = grind (arith, nat_tests)

-- ---- the runs of the parts

abbrev pub whole : Part → ShapeRun
whole part = record { kind = part.kind; lo = part.base; count = part.count }

abbrev pub runs_of_parts : List Part → List ShapeRun
runs_of_parts [] = []
runs_of_parts (part ∷ parts) = runs_of part.kind part.base part.count ++ runs_of_parts parts

append_none : (xs : List ShapeRun) → xs ++ [] ≡ xs
append_none [] = refl
append_none (x ∷ xs) = ap (λ ys. x ∷ ys) (append_none xs)

by_choice : (b : Bool) (part : Part) → cond b (runs_of part.kind part.base part.count) [] ≡ runs_of_parts (cond b
    (part ∷ []) [])
by_choice true part = sym (append_none (runs_of part.kind part.base part.count))
by_choice false part = refl

by_parts : (flexible : Option (ℕ × Shape)) (elem : Shape) (bytes : ℕ) →
    runs_by flexible elem bytes ≡ runs_of_parts (parts_by flexible elem bytes)
by_parts None elem bytes = sym (append_none (runs_of elem 0 (bytes / size elem)))
by_parts (Some (offset, of)) elem bytes =
    ap (λ rs. runs_of elem 0 (if nat_le (size elem) bytes then 1 else 0) ++ rs)
    (by_choice (nat_le offset bytes) (record { kind = of; base = offset; count = (bytes - offset) / size of }))

object_parts : (elem : Shape) (bytes : ℕ) → runs_of_object elem bytes ≡ runs_of_parts (parts_of elem bytes)
unfolding runs_of_object
object_parts elem bytes = by_parts (flexible_of elem) elem bytes

-- ---- the runs that are looked at

abbrev pub firsts_of : ℕ → List Row → Part → List ShapeRun
firsts_of k rows part = whole part ∷ in_value (λ at. around at k) rows (value_at (size part.kind) part.base
    part.count k)

abbrev pub lasts_of : ℕ → List Row → Part → List ShapeRun
lasts_of k rows part = in_value (λ at. before at k) rows (value_before (size part.kind) part.base part.count k)

abbrev pub firsts : ℕ → (Part → List Row) → List Part → List ShapeRun
firsts k inner [] = []
firsts k inner (part ∷ parts) = firsts_of k (inner part) part ++ firsts k inner parts

abbrev pub lasts : ℕ → (Part → List Row) → List Part → List ShapeRun
lasts k ends [] = []
lasts k ends (part ∷ parts) = lasts_of k (ends part) part ++ lasts k ends parts

-- What is needed of the rows that are looked at in a part: they are rows of its type, and none that matters is left
-- out.
pub record Serves (k : ℕ) (want : Shape) (inner ends : List Row) (part : Part) : Type 0 where
  pub sound : IsSound part.kind
  pub inner_rows : (row : Row) → In row inner → In row (rows_in part.kind)
  pub end_rows : (row : Row) → In row ends → In row (rows_in part.kind)
  pub inner_all : (at : ℕ) (row : Row) (run : ShapeRun) → value_at (size part.kind) part.base part.count k ≡ Some at
      → In row (rows_in part.kind) →
      Wanted want row.kind → IsInstance row at run → run.lo ≤ k → k < run.lo + width row → In row inner
  pub ends_all : (at : ℕ) (row : Row) (run : ShapeRun) → value_before (size part.kind) part.base part.count k ≡ Some
      at → In row (rows_in part.kind) →
      Wanted want row.kind → IsInstance row at run → k ≡ run.lo + width row → In row ends

abbrev pub AllServe : ℕ → Shape → (Part → List Row) → (Part → List Row) → List Part → Type 0
AllServe k want inner ends [] = Unit {0}
AllServe k want inner ends (part ∷ parts) = Serves k want (inner part) (ends part) part × AllServe k want inner ends
    parts

module _ (k : ℕ) (want : Shape) (inner ends : Part → List Row) where
  seen_is : (parts : List Part) → AllServe k want inner ends parts → (run : ShapeRun) →
      In run (firsts k inner parts) ⊎ In run (lasts k ends parts) → In run (runs_of_parts parts)
  seen_is [] all run h = ⊎_elim (λ i. i) (λ i. i) h
  seen_is (part ∷ parts) all run h =
      ⊎_elim
      (λ i. in_append_left run (runs_of part.kind part.base part.count) (runs_of_parts parts)
      (looked_at_is part.kind part.base part.count k (inner part) (ends part) all.0.inner_rows all.0.end_rows run i))
      (λ i. in_append_right run (runs_of part.kind part.base part.count) (runs_of_parts parts) (seen_is parts all.1
      run i))
      (⊎_elim
      (λ i. ⊎_elim (λ j. inl (in_append_left run (firsts_of k (inner part) part) (lasts_of k (ends part) part) j)) (λ
      j. inr (inl j))
      (in_append run (firsts_of k (inner part) part) (firsts k inner parts) i))
      (λ i. ⊎_elim (λ j. inl (in_append_right run (firsts_of k (inner part) part) (lasts_of k (ends part) part) j))
      (λ j. inr (inr j))
      (in_append run (lasts_of k (ends part) part) (lasts k ends parts) i)) h)

  is_seen : (parts : List Part) → AllServe k want inner ends parts → (run : ShapeRun) → Wanted want run.kind →
      In run (runs_of_parts parts) → run.lo ≤ k → k ≤ end_of run →
      In run (firsts k inner parts) ⊎ In run (lasts k ends parts)
  is_seen [] all run w h from to = absurd h
  is_seen (part ∷ parts) all run w h from to =
      ⊎_elim
      (λ i. ⊎_elim (λ j. inl (in_append_left run (firsts_of k (inner part) part) (firsts k inner parts) j)) (λ j. inr
      (in_append_left run (lasts_of k (ends part) part) (lasts k ends parts) j))
      (in_append run (firsts_of k (inner part) part) (lasts_of k (ends part) part)
      (is_looked_at part.kind part.base part.count k (inner part) (ends part) (Wanted want) all.0.sound
      all.0.inner_all all.0.ends_all run w i from to)))
      (λ i. ⊎_elim (λ j. inl (in_append_right run (firsts_of k (inner part) part) (firsts k inner parts) j)) (λ j.
      inr (in_append_right run (lasts_of k (ends part) part) (lasts k ends parts) j))
      (is_seen parts all.1 run w i from to))
      (in_append run (runs_of part.kind part.base part.count) (runs_of_parts parts) h)

  pub covers : (elem : Shape) (bytes : ℕ) → AllServe k want inner ends (parts_of elem bytes) →
      Covers elem want bytes k (firsts k inner (parts_of elem bytes) ++ lasts k ends (parts_of elem bytes))
  covers elem bytes all = record {
    sound = λ run h. subst (λ rs. In run rs) (sym (object_parts elem bytes))
        (seen_is (parts_of elem bytes) all run (in_append run (firsts k inner (parts_of elem bytes)) (lasts k ends
        (parts_of elem bytes)) h));
    complete = λ run w h from to.
        ⊎_elim (in_append_left run (firsts k inner (parts_of elem bytes)) (lasts k ends (parts_of elem bytes)))
        (in_append_right run (firsts k inner (parts_of elem bytes)) (lasts k ends (parts_of elem bytes)))
        (is_seen (parts_of elem bytes) all run w (subst (λ rs. In run rs) (object_parts elem bytes) h) from to);
  }

  -- ---- the folds

  abbrev from_runs : Option Match → List ShapeRun → Option Match
  from_runs best runs = fold (better k) best (filter (may_mean k) (filter_map (run_match want) runs))

  one_run : (best : Option Match) (run : ShapeRun) (runs : List ShapeRun) →
      from_runs best (run ∷ runs) ≡ from_runs (consider k best (run_match want run)) runs
  one_run best run runs =
      fold_runs k want best (run ∷ runs) ∙ sym (fold_runs k want (consider k best (run_match want run)) runs)

  runs_append : (best : Option Match) (a b : List ShapeRun) → from_runs best (a ++ b) ≡ from_runs (from_runs best a) b
  runs_append best [] b = refl
  runs_append best (run ∷ a) b =
      one_run best run (a ++ b) ∙ runs_append (consider k best (run_match want run)) a b ∙
      ap (λ m. from_runs m b) (sym (one_run best run a))

  found_more : (best : Option Match) (found : Option ShapeRun) (runs : List ShapeRun) →
      from_runs best (cons_option found runs) ≡ from_runs (look k want best found) runs
  found_more best None runs = refl
  found_more best (Some run) runs = one_run best run runs

  scan_is : (find : Row → Option ShapeRun) (best : Option Match) (rows : List Row) →
      from_runs best (filter_map find rows) ≡ scan k want find best rows
  scan_is find best [] = refl
  scan_is find best (row ∷ rows) = found_more best (find row) (filter_map find rows) ∙
      scan_is find (look k want best (find row)) rows

  value_is : (find : ℕ → Row → Option ShapeRun) (best : Option Match) (rows : List Row) (value : Option ℕ) →
      from_runs best (in_value find rows value) ≡ scan_value k want find best rows value
  value_is find best rows None = refl
  value_is find best rows (Some at) = scan_is (find at) best rows

  first_is : (best : Option Match) (part : Part) (rows : List Row) → from_runs best (firsts_of k rows part) ≡
      part_inside k want rows best part
  first_is best part rows =
      one_run best (whole part) (in_value (λ at. around at k) rows (value_at (size part.kind) part.base part.count k)) ∙
      value_is (λ at. around at k) (consider k best (run_match want (whole part))) rows (value_at (size part.kind)
      part.base part.count k)

  firsts_are : (best : Option Match) (parts : List Part) → from_runs best (firsts k inner parts) ≡ all_inside k want
      inner best parts
  firsts_are best [] = refl
  firsts_are best (part ∷ parts) =
      runs_append best (firsts_of k (inner part) part) (firsts k inner parts) ∙
      ap (λ m. from_runs m (firsts k inner parts)) (first_is best part (inner part)) ∙
      firsts_are (part_inside k want (inner part) best part) parts

  lasts_are : (best : Option Match) (parts : List Part) → from_runs best (lasts k ends parts) ≡ all_ends k want ends
      best parts
  lasts_are best [] = refl
  lasts_are best (part ∷ parts) =
      runs_append best (lasts_of k (ends part) part) (lasts k ends parts) ∙
      ap (λ m. from_runs m (lasts k ends parts)) (value_is (λ at. before at k) best (ends part) (value_before (size
      part.kind) part.base part.count k)) ∙
      lasts_are (part_ends k want (ends part) best part) parts

  -- ---- what ends at the offset is not looked at where a match does not

  value_below : (bytes base count at : ℕ) → value_before bytes base count k ≡ Some at → at ≤ k
  value_below bytes base count at e =
      let v = value_from bytes base count (k - 1) at (cond_some (nat_lt base k) (value_at bytes base count (k - 1))
      at e).1 in omega (arith, v)

  end_hi : (at : ℕ) (row : Row) (run : ShapeRun) → at ≤ k → before at k row ≡ Some run → end_of run ≤ k
  end_hi at row run below e =
      let c = cond_some (nat_le (width row) (k - at)) (located row at (k - at - width row)) run e in
      let h = true_le (width row) (k - at) c.0 in
      let f = located_end row at (k - at - width row) run c.1 in
      omega (arith, h, f, below)

  lasts_end : (parts : List Part) (run : ShapeRun) → In run (lasts k ends parts) → end_of run ≤ k
  lasts_end [] run h = absurd h
  lasts_end (part ∷ parts) run h =
      ⊎_elim
      (λ i. let f = in_value_in (λ at. before at k) run (ends part) (value_before (size part.kind) part.base
      part.count k) i in
      end_hi f.0 f.2.0 run (value_below (size part.kind) part.base part.count f.0 f.1) f.2.2)
      (lasts_end parts run) (in_append run (lasts_of k (ends part) part) (lasts k ends parts) h)

  ends_before : (b m : Match) → (b.hi ≡ k → ⊥) → m.hi ≡ k → precedes k m b ≡ false
  ends_before b m h e = grind (arith, nat_tests)

  skipped : (b : Match) (ms : List Match) → (b.hi ≡ k → ⊥) → ((m : Match) → In m ms → m.hi ≡ k) →
      fold (better k) (Some b) ms ≡ Some b
  skipped b [] h all = refl
  skipped b (m ∷ ms) h all =
      rw (ends_before b m h (all m (inl refl))) (skipped b ms h (λ x i. all x (inr i)))

  last_ends : (parts : List Part) (m : Match) → In m (filter (may_mean k) (filter_map (run_match want) (lasts k ends
      parts))) → m.hi ≡ k
  last_ends parts m h =
      let r = in_filter (may_mean k) m (filter_map (run_match want) (lasts k ends parts)) h in
      let s = in_filter_map (run_match want) m (lasts k ends parts) r.0 in
      let t = some_map (λ (tier : ℕ). record {
        tier = tier;
        lo = s.0.lo;
        hi = end_of s.0;
        step = size s.0.kind;
      }) (tier_of s.0.kind want) m s.2 in
      let hi : m.hi ≡ end_of s.0 = ap (λ x. x.hi) t.2 in
      let below = lasts_end parts s.0 s.1 in
      let above = not_above m r.1 in
      omega (arith, hi, below, above)

  settled_step : (best : Option Match) (parts : List Part) (b : Bool) → is_settled k best ≡ b →
      from_runs best (lasts k ends parts) ≡ cond b best (all_ends k want ends best parts)
  settled_step best parts false e = lasts_are best parts
  settled_step None parts true e = cc
  settled_step (Some b) parts true e =
      skipped b (filter (may_mean k) (filter_map (run_match want) (lasts k ends parts))) (not_settled b e) (last_ends
      parts)

  -- Going over the rows finds the best match of all that are looked at.
  best_is : (elem : Shape) (bytes : ℕ) →
      least k (filter (may_mean k) (all_matches elem want bytes (firsts k inner (parts_of elem bytes)) (lasts k ends
      (parts_of elem bytes)))) ≡
      best_match elem bytes k want inner ends
  best_is elem bytes =
      let a = firsts k inner (parts_of elem bytes) in
      let o = option_to_list (object_match elem bytes want) in
      let z = lasts k ends (parts_of elem bytes) in
      ap (fold (better k) None) (filter_append (may_mean k) (filter_map (run_match want) a ++ o) (filter_map
      (run_match want) z)) ∙
      fold-append (better k) None (filter (may_mean k) (filter_map (run_match want) a ++ o)) (filter (may_mean k)
      (filter_map (run_match want) z)) ∙
      ap (λ m. from_runs m z)
      (ap (fold (better k) None) (filter_append (may_mean k) (filter_map (run_match want) a) o) ∙
      fold-append (better k) None (filter (may_mean k) (filter_map (run_match want) a)) (filter (may_mean k) o) ∙
      last k (from_runs None a) (object_match elem bytes want) ∙
      ap (λ m. consider k m (object_match elem bytes want)) (firsts_are None (parts_of elem bytes))) ∙
      settled_step (first_of elem bytes k want inner (parts_of elem bytes)) (parts_of elem bytes) (is_settled k
      (first_of elem bytes k want inner (parts_of elem bytes))) refl

  pub best_is_pref : (elem : Shape) (bytes : ℕ) → AllServe k want inner ends (parts_of elem bytes) →
      option_map bounds_of (best_match elem bytes k want inner ends) ≡ pref elem bytes k want
  best_is_pref elem bytes all =
      ap (option_map bounds_of) (sym (best_is elem bytes)) ∙
      best_is_preferred elem want bytes k (firsts k inner (parts_of elem bytes)) (lasts k ends (parts_of elem bytes))
      (covers elem bytes all)
