-- Another meaning in one place, twice.
use Rattle.std.proofs.Common.{◌≡◌, refl, ap, ◌∙◌, ℕ, zero, suc, List, [], ◌∷◌, Option, Some, None, set-set}
use Rattle.std.specs.Prelude.{slice_get, slice_set}
use Rattle.scoped_meanings.specs.Meanings.{put_at, put_by}

get-set : {X : Type 0} (xs : List X) (i : ℕ) (x old : X) → slice_get xs i ≡ Some old → slice_get (slice_set xs i x) i ≡ Some x
get-set [] i x old is = absurd cc
get-set (y ∷ ys) zero x old is = refl
get-set (y ∷ ys) (suc i) x old is = get-set ys i x old is

module _ {A : Type 0} where
  put-by : (entries : List (ℕ × A)) (place : ℕ) (first second : A) (found : Option (ℕ × A)) → slice_get entries place ≡ found →
      put_at (put_by entries place first found) place second ≡ put_by entries place second found
  put-by entries place first second (Some entry) is =
      ap (put_by (slice_set entries place (entry.0, first)) place second) (get-set entries place (entry.0, first) entry is)
      ∙ set-set entries place (entry.0, first) (entry.0, second)
  put-by entries place first second None is = ap (put_by entries place second) is

  -- the second alone stays
  pub put_twice : (entries : List (ℕ × A)) (place : ℕ) (first second : A) →
      put_at (put_at entries place first) place second ≡ put_at entries place second
  put_twice entries place first second = put-by entries place first second (slice_get entries place) refl
