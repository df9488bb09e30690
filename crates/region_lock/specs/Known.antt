-- What a contract sees of a pass: its locks, its number, what it made, and its last stamp.
use Rattle.std.specs.Prelude.{◌≡◌, ◌<◌, ℕ, zero, suc, List, [], ◌∷◌, ◌++◌, length}
use Rattle.atomic_table.specs.Seated.{TableId}
use Rattle.heap_model.specs.declared.calls.Entry.{Entry}

pub record Known : Type 0 where
  pub locks : TableId
  pub worker : ℕ
  pub list : List Entry
  pub last : ℕ

-- the pass made this entry: its list grew by it, and its last stamp rose to the entry's
abbrev pub Makes : Known → Entry → Known → Type 0
Makes before e after =
    (after.list ≡ before.list ++ e ∷ []) × (after.last ≡ e.stamp) × (before.last < e.stamp)
    × (e.worker ≡ before.worker) × (e.number ≡ length before.list)

-- a pass that made nothing
abbrev pub newcomer : TableId → ℕ → Known
newcomer z n = record { locks = z; worker = n; list = []; last = 0 }

-- passes numbered from 0
abbrev pub newcomers : TableId → ℕ → List Known
newcomers z zero = []
newcomers z (suc n) = newcomers z n ++ newcomer z n ∷ []
