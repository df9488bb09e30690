-- What the fields of `Names` keep.
use Rattle.std.specs.Prelude.{◌≡◌, ℕ, List, [], ◌∷◌, ◌++◌, map, Option}
use Rattle.scoped_names.specs.declared.names.Declared.{Declared}
use Rattle.scoped_names.specs.Names.{last_place}
use Rattle.scoped_names.specs.Places.{place_of}

abbrev pub names_of : List Declared → List ℕ
names_of declared = map (λ (d : Declared). d.name) declared

-- each hides what its name meant before it
abbrev pub HideEarlier : List ℕ → List Declared → Type 0
HideEarlier earlier [] = Unit {0}
HideEarlier earlier (d ∷ ds) = (d.hides ≡ last_place earlier d.name) × HideEarlier (earlier ++ d.name ∷ []) ds

-- the table has what each name means
pub record IsKept (places : List (Option ℕ)) (declared : List Declared) : Type 0 where
  pub latest : (name : ℕ) → place_of places name ≡ last_place (names_of declared) name
  pub hidden : HideEarlier [] declared
