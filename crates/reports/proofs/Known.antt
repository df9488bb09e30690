-- What holds of each element holds at each place.
use Rattle.std.proofs.Common.{ℕ, zero, suc, ◌<◌, List, [], ◌∷◌, length, get_or, arith}
use Rattle.std.specs.List.{AllByRecursion}

pub all_at : {X : Type 0} (P : X → Type 0) (xs : List X) → AllByRecursion P xs → (k : ℕ) (d : X) → k < length xs → P (get_or xs k d)
all_at P [] all k d h = absurd (omega arith)
all_at P (x ∷ xs) (here, rest) zero d h = here
all_at P (x ∷ xs) (here, rest) (suc k) d h = all_at P xs rest k d (omega arith)
