-- Entries and their names.
use Rattle.std.proofs.Common.{◌≡◌, ℕ, List, map, Option, Some, None, refl, ◌∙◌, sym, ap, slice_get, slice_set}
use Rattle.std.specs.Prelude.{option_map, unwrap_or}
use Rattle.std.proofs.lemmas.List.{map-set, set-get_or}
use Rattle.std.proofs.lemmas.Option.{slice_get-map, get_or_from_slice_get, none-some}
use Rattle.scoped_meanings.specs.Meanings.{names_of, put_at, put_by}

some-is : (name other : ℕ) → Some name ≡ Some other → name ≡ other
some-is name other e = ap (λ (x : Option ℕ). unwrap_or x 0) e

module _ {A : Type 0} where
  -- another meaning under the same name leaves the names
  pub names_of-set : (entries : List (ℕ × A)) (place name : ℕ) (meaning : A) →
      slice_get (names_of entries) place ≡ Some name → names_of (slice_set entries place (name, meaning)) ≡ names_of entries
  names_of-set entries place name meaning here =
      let found = get_or_from_slice_get (names_of entries) place name 0 here in
      map-set (λ (entry : ℕ × A). entry.0) entries place (name, meaning)
      ∙ ap (λ n. slice_set (names_of entries) place n) (sym found) ∙ set-get_or (names_of entries) place 0

  -- the name of an entry is that of its place
  pub name-here : (entries : List (ℕ × A)) (place name : ℕ) (entry : ℕ × A) →
      slice_get (names_of entries) place ≡ Some name → slice_get entries place ≡ Some entry → name ≡ entry.0
  name-here entries place name entry here found =
      some-is name entry.0
      (sym here ∙ slice_get-map (λ (entry : ℕ × A). entry.0) entries place
      ∙ ap (λ (x : Option (ℕ × A)). option_map (λ (entry : ℕ × A). entry.0) x) found)

  -- so this is what is written
  pub put_at-is : (entries : List (ℕ × A)) (place name : ℕ) (meaning : A) → slice_get (names_of entries) place ≡ Some name →
      slice_set entries place (name, meaning) ≡ put_at entries place meaning
  put_at-is entries place name meaning here = put_at-by entries place name meaning (slice_get entries place) refl here where
    put_at-by : (entries : List (ℕ × A)) (place name : ℕ) (meaning : A) (found : Option (ℕ × A)) → slice_get entries place ≡ found →
        slice_get (names_of entries) place ≡ Some name → slice_set entries place (name, meaning) ≡ put_by entries place meaning found
    put_at-by entries place name meaning (Some entry) found here =
        ap (λ (n : ℕ). slice_set entries place (n, meaning)) (name-here entries place name entry here found)
    put_at-by entries place name meaning None found here =
        absurd (none-some name
        (sym (ap (λ (x : Option (ℕ × A)). option_map (λ (entry : ℕ × A). entry.0) x) found)
        ∙ sym (slice_get-map (λ (entry : ℕ × A). entry.0) entries place) ∙ here))
