-- What follows for the preferred bounds.
use Rattle.std.proofs.Common.{◌≡◌, ℕ, ◌<◌, ◌≤◌, List, [], ◌∷◌, length, get_or, zero, suc, Bool, false, Some, None, sym, ap, ◌∙◌, arith, subst}
use Rattle.std.specs.Prelude.{Option, MatchOption}
use Rattle.std.proofs.lemmas.Bool.Decides.{nat_tests}
use Rattle.c_types.specs.Shapes.{Shape}
use Rattle.type_layout.specs.declared.preference.Match.{Match}
use Rattle.type_layout.specs.declared.preference.Bounds.{Bounds}
use Rattle.type_layout.specs.Runs.{ShapeRun, runs_of_object, end_of}
use Rattle.type_layout.specs.Matches.{IsMatch, of_run, of_characters, as_characters, IsCandidate}
use Rattle.type_layout.specs.Preferred.{ends_at, span, precedes, IsPreferred, ArePreferred, HasNoCandidate, bounds_of, pref}
use Rattle.type_layout.proofs.Within.{Within, object_within}
use Rattle.type_layout.proofs.Least.{Lex, pref_found}

-- ---- one preferred candidate

lex_same : (a b : ℕ) (p q : Bool) → Lex a b p ≡ false → Lex b a q ≡ false → (a ≡ b) × (p ≡ false) × (q ≡ false)
lex_same a b p q h i = (grind (arith, nat_tests), grind (arith, nat_tests), grind (arith, nat_tests))

pub same_bounds : (elem want : Shape) (bytes k : ℕ) (a b : Match) → IsCandidate elem bytes k want a → IsCandidate elem bytes k want b →
    span a ≡ span b → a.lo ≡ b.lo → bounds_of a ≡ bounds_of b
same_bounds elem want bytes k a b c d s l =
    let h : a.hi ≡ b.hi = omega (arith, c.from, c.to, d.from, d.to) in cc

both_first : (elem want : Shape) (bytes k : ℕ) (a b : Match) → IsPreferred elem bytes k want a → IsPreferred elem bytes k want b →
    bounds_of a ≡ bounds_of b
both_first elem want bytes k a b p q =
    let one = lex_same (ends_at k a) (ends_at k b) _ _ (q.first a p.candidate) (p.first b q.candidate) in
    let two = lex_same a.tier b.tier _ _ one.1 one.2 in
    let three = lex_same (span b) (span a) _ _ two.1 two.2 in
    let four = lex_same a.lo b.lo false false three.1 three.2 in
    same_bounds elem want bytes k a b p.candidate q.candidate (sym three.0) four.0

pub only_step : (elem want : Shape) (bytes k : ℕ) (bounds : Bounds) (found : Option Bounds) → ArePreferred elem bytes k want bounds →
    MatchOption found (HasNoCandidate elem bytes k want) (λ b. ArePreferred elem bytes k want b) → found ≡ Some bounds
only_step elem want bytes k bounds None p h = absurd (h p.0 p.1.candidate)
only_step elem want bytes k bounds (Some b) p h = ap Some (h.2 ∙ both_first elem want bytes k h.0 p.0 h.1 p.1 ∙ sym p.2)

pub pref_only : (elem want : Shape) (bytes k : ℕ) (bounds : Bounds) → ArePreferred elem bytes k want bounds → pref elem bytes k want ≡ Some bounds
pref_only elem want bytes k bounds p = only_step elem want bytes k bounds (pref elem bytes k want) p (pref_found elem bytes k want)

-- the candidate whose bounds they are
pub found_step : (elem want : Shape) (bytes k : ℕ) (bounds : Bounds) (found : Option Bounds) → found ≡ Some bounds →
    MatchOption found (HasNoCandidate elem bytes k want) (λ b. ArePreferred elem bytes k want b) → ArePreferred elem bytes k want bounds
found_step elem want bytes k bounds None e h = cc
found_step elem want bytes k bounds (Some b) e h =
    let same : b ≡ bounds = cc in subst (λ x. ArePreferred elem bytes k want x) same h

pub are_preferred : (elem want : Shape) (bytes k : ℕ) (bounds : Bounds) → pref elem bytes k want ≡ Some bounds → ArePreferred elem bytes k want bounds
are_preferred elem want bytes k bounds e = found_step elem want bytes k bounds (pref elem bytes k want) e (pref_found elem bytes k want)

-- ---- where they lie

pub offset_within : (elem want : Shape) (bytes k : ℕ) (bounds : Bounds) → pref elem bytes k want ≡ Some bounds → (bounds.lo ≤ k) × (k ≤ bounds.hi)
offset_within elem want bytes k bounds e =
    let p = are_preferred elem want bytes k bounds e in
    let lo : bounds.lo ≡ p.0.lo = ap (λ b. b.lo) p.2 in
    let hi : bounds.hi ≡ p.0.hi = ap (λ b. b.hi) p.2 in
    let from = p.1.candidate.from in
    let to = p.1.candidate.to in
    (omega arith, omega arith)

-- a match that ends at the offset has one before it that does not
ends_later : (k : ℕ) (a b : Match) → k < a.hi → k ≤ b.hi → precedes k a b ≡ false → k < b.hi
ends_later k a b h i e = grind (arith, nat_tests)

pub strictly_inside : (elem want : Shape) (bytes k : ℕ) (bounds : Bounds) (m : Match) → pref elem bytes k want ≡ Some bounds →
    IsCandidate elem bytes k want m → k < m.hi → k < bounds.hi
strictly_inside elem want bytes k bounds m e c h =
    let p = are_preferred elem want bytes k bounds e in
    let hi : bounds.hi ≡ p.0.hi = ap (λ b. b.hi) p.2 in
    let later = ends_later k m p.0 h p.1.candidate.to (p.1.first m c) in
    omega arith

run_within : (top : ℕ) (runs : List ShapeRun) (run : ShapeRun) (at : ℕ) → Within top runs → at < length runs → get_or runs at run ≡ run → end_of run ≤ top
run_within top [] run at w h e = absurd (omega arith)
run_within top (r ∷ runs) run zero w h e = rw e at w.0
run_within top (r ∷ runs) run (suc at) w h e = run_within top runs run at w.1 (omega arith) e

match_within : (elem want : Shape) (bytes : ℕ) (m : Match) → IsMatch elem bytes want m → m.hi ≤ bytes
match_within elem want bytes m (of_run run tier found t) =
    run_within bytes (runs_of_object elem bytes) run found.0 (object_within elem bytes) found.1 found.2
match_within elem want bytes m (of_characters is not) = omega arith
match_within elem want bytes m (as_characters is) = omega arith

pub inside_object : (elem want : Shape) (bytes k : ℕ) (bounds : Bounds) → pref elem bytes k want ≡ Some bounds → (bounds.lo ≤ bounds.hi) × (bounds.hi ≤ bytes)
inside_object elem want bytes k bounds e =
    let p = are_preferred elem want bytes k bounds e in
    let hi : bounds.hi ≡ p.0.hi = ap (λ b. b.hi) p.2 in
    let within = match_within elem want bytes p.0 p.1.candidate.found in
    let at = offset_within elem want bytes k bounds e in
    (omega (arith, at.0, at.1), omega arith)
