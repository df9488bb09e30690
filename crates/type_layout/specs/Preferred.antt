-- The bounds that an offset of an object has for a wanted type.
use Rattle.std.specs.Prelude.{◌≡◌, ℕ, ◌-◌, ◌%◌, Bool, false, ◌&&◌, ◌||◌, ◌==◌, nat_lt, nat_le, List, [], ◌∷◌, ◌++◌, Option, Some, None, IsFalse, fold, filter, filter_map, if◌then◌else◌}
use Rattle.std.specs.Option.{option_map, option_to_list}
use Rattle.c_types.specs.Shapes.{Shape, size}
use Rattle.type_layout.specs.declared.preference.Match.{Match}
use Rattle.type_layout.specs.declared.preference.Bounds.{Bounds}
use Rattle.type_layout.specs.Runs.{ShapeRun, runs_of_object, end_of}
use Rattle.type_layout.specs.Matches.{IsCandidate, is_character, tier_of}

-- ---- the preference

-- 1 for a match that ends at the offset, else 0
abbrev pub ends_at : ℕ → Match → ℕ
ends_at k m = if m.hi == k then 1 else 0

abbrev pub span : Match → ℕ
span m = m.hi - m.lo

-- Keys of one match beside those of another, in order: where they first differ, whether the one has the smaller key.
abbrev pub is_before : List (ℕ × ℕ) → Bool
is_before [] = false
is_before ((a, b) ∷ rest) = nat_lt a b || ((a == b) && is_before rest)

-- A match goes before another that ends at the offset where it does not, then by the lower tier, the larger span and the
-- lower start.
abbrev pub precedes : ℕ → Match → Match → Bool
precedes k a b = is_before ((ends_at k a, ends_at k b) ∷ (a.tier, b.tier) ∷ (span b, span a) ∷ (a.lo, b.lo) ∷ [])

-- The preferred candidate: no other one precedes it.
pub record IsPreferred (elem : Shape) (bytes k : ℕ) (want : Shape) (m : Match) : Type 0 where
  pub candidate : IsCandidate elem bytes k want m
  pub first : (other : Match) → IsCandidate elem bytes k want other → IsFalse (precedes k other m)

abbrev pub bounds_of : Match → Bounds
bounds_of m = record { lo = m.lo; hi = m.hi }

-- These are the bounds of a preferred candidate.
abbrev pub ArePreferred : Shape → ℕ → ℕ → Shape → Bounds → Type 0
ArePreferred elem bytes k want bounds = (m : Match) × IsPreferred elem bytes k want m × (bounds ≡ bounds_of m)

abbrev pub HasNoCandidate : Shape → ℕ → ℕ → Shape → Type 0
HasNoCandidate elem bytes k want = (m : Match) → IsCandidate elem bytes k want m → ⊥

-- ---- the preferred bounds as a function

-- the match of a run
abbrev pub run_match : Shape → ShapeRun → Option Match
run_match want run =
    option_map (λ tier. record { tier = tier; lo = run.lo; hi = end_of run; step = size run.kind }) (tier_of run.kind want)

-- the match of the whole object
abbrev pub object_match : Shape → ℕ → Shape → Option Match
object_match elem bytes want =
    if is_character want then Some (record { tier = 2; lo = 0; hi = bytes; step = 1 }) else
    (if is_character elem then Some (record { tier = 3; lo = 0; hi = bytes; step = 1 }) else None)

abbrev pub matches : Shape → ℕ → Shape → List Match
matches elem bytes want = filter_map (run_match want) (runs_of_object elem bytes) ++ option_to_list (object_match elem bytes want)

-- whether an offset may mean a match
abbrev pub may_mean : ℕ → Match → Bool
may_mean k m = nat_le m.lo k && (nat_le k m.hi && ((k - m.lo) % m.step == 0))

-- the one of two that goes first
abbrev pub better : ℕ → Option Match → Match → Option Match
better k None next = Some next
better k (Some best) next = Some (if precedes k next best then next else best)

abbrev pub least : ℕ → List Match → Option Match
least k = fold (better k) None

-- the preferred bounds, if there are any
unfoldable pub pref : Shape → ℕ → ℕ → Shape → Option Bounds
pref elem bytes k want = option_map bounds_of (least k (filter (may_mean k) (matches elem bytes want)))
