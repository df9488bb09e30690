-- The functions that a text defines, by the numbers of their names.
use Rattle.std.specs.Prelude.{◌≡◌, ℕ, List}
use Rattle.std.specs.BTreeMap.{BTreeMap, get}
use Rattle.std.specs.Ordering.{nat_cmp}
use Rattle.declaration_rules.specs.Agreement.{number_from}

-- the map has the place at which each name stands first
abbrev pub AreNumbered : BTreeMap ℕ ℕ → List ℕ → Type 0
AreNumbered numbers names = (name : ℕ) → get nat_cmp numbers name ≡ number_from 0 names name
