-- What names mean: of several declarations of a name the last one counts. A name is a number here.
use Rattle.std.specs.Prelude.{ℕ, nat_le, Bool, true, false, List, map, Option, Some, None, if◌then◌else◌, slice_get, slice_set}
use Rattle.scoped_names.specs.Names.{last_place}

module _ {A : Type 0} where
  abbrev pub names_of : List (ℕ × A) → List ℕ
  names_of entries = map (λ (entry : ℕ × A). entry.0) entries

  abbrev pub meaning_by : Option (ℕ × A) → Option A
  meaning_by (Some entry) = Some entry.1
  meaning_by None = None

  -- what was declared there
  abbrev pub declared_at : List (ℕ × A) → ℕ → Option A
  declared_at entries place = meaning_by (slice_get entries place)

  abbrev pub meaning_at : List (ℕ × A) → Option ℕ → Option A
  meaning_at entries (Some place) = declared_at entries place
  meaning_at entries None = None

  abbrev pub put_by : List (ℕ × A) → ℕ → A → Option (ℕ × A) → List (ℕ × A)
  put_by entries place meaning (Some entry) = slice_set entries place (entry.0, meaning)
  put_by entries place meaning None = entries

  -- another meaning in the place of that which was declared there
  abbrev pub put_at : List (ℕ × A) → ℕ → A → List (ℕ × A)
  put_at entries place meaning = put_by entries place meaning (slice_get entries place)

  -- the last place at which a name was declared
  abbrev pub place_of : List (ℕ × A) → ℕ → Option ℕ
  place_of entries name = last_place (names_of entries) name

  -- what a name means
  unfoldable pub meaning : List (ℕ × A) → ℕ → Option A
  meaning entries name = meaning_at entries (place_of entries name)

  abbrev pub with_place : ℕ → Option A → Option (ℕ × A)
  with_place place (Some declared) = Some (place, declared)
  with_place place None = None

  abbrev pub placed_at : List (ℕ × A) → Option ℕ → Option (ℕ × A)
  placed_at entries (Some place) = with_place place (declared_at entries place)
  placed_at entries None = None

  -- what a name means, with the place of its declaration
  abbrev pub meaning_placed : List (ℕ × A) → ℕ → Option (ℕ × A)
  meaning_placed entries name = placed_at entries (place_of entries name)

  abbrev pub since : ℕ → List (ℕ × A) → Option ℕ → Option A
  since before entries (Some place) = if nat_le before place then declared_at entries place else None
  since before entries None = None

  -- what it means by a declaration of the innermost scope, which so many stand before
  unfoldable pub meaning_here : ℕ → List (ℕ × A) → ℕ → Option A
  meaning_here before entries name = since before entries (place_of entries name)
