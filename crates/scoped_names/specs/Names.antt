-- Where a name was declared last. A name is a number here.
use Rattle.std.specs.Prelude.{ℕ, ◌+◌, ◌==◌, cond, List, [], ◌∷◌, Option, Some, None}

-- the last place at which the name stands, where the list begins at the place `at`, or else `best`
abbrev pub last_of : Option ℕ → ℕ → List ℕ → ℕ → Option ℕ
last_of best at [] name = best
last_of best at (first ∷ rest) name = last_of (cond (first == name) (Some at) best) (at + 1) rest name

unfoldable pub last_place : List ℕ → ℕ → Option ℕ
last_place names name = last_of None 0 names name
