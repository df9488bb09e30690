-- New values for locks.
use Rattle.std.specs.Prelude.{◌≡◌, ℕ, suc, List, []}
use mathlib.Core.Option.{some}
use lib.ListN.{get_elem?}

-- values of the regions from 1 on, with no entries
abbrev pub IsFresh : {W E : Type 0} → (W → ℕ) → (W → List E) → List W → Type 0
IsFresh region list values =
    (k : ℕ) (y : _) → get_elem? values k ≡ some y → (region y ≡ suc k) × (list y ≡ [])
