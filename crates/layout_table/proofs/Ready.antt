-- Types whose rows are there.
use Rattle.std.proofs.Common.{◌≡◌, ℕ, ◌+◌, ◌*◌, ◌<◌, ◌≤◌, ◌^◌, List, length, get_or, arith, subst}
use Rattle.std.proofs.lemmas.Nat.{mul-le}
use Rattle.c_types.specs.Table.{Types}
use Rattle.type_layout.specs.Listed.{In}
use Rattle.layout_table.specs.declared.stored.StoredRow.{StoredRow}
use Rattle.layout_table.specs.declared.stored.StoredEntry.{StoredEntry}
use Rattle.layout_table.specs.Tables.{rows_at}
use Rattle.layout_table.specs.Making.{IsReadyEntry}
use Rattle.layout_table.proofs.Raising.{in_at}

-- the rows of such a type
pub part_short : (types : Types) (rows part : List StoredRow) (kind : ℕ) (entry : StoredEntry) →
    IsReadyEntry types rows kind entry → part ≡ rows_at rows entry →
    (i : ℕ) (d : StoredRow) → i < length part → ((get_or part i d).lo ≤ (get_or part i d).reach) ×
    ((get_or part i d).reach ≤ entry.size)
part_short types rows part kind entry ready is i d h = ready.short (get_or part i d) (subst (λ xs. In (get_or part i
    d) xs) is (in_at part i d h))

pub array_fits : (reach bytes count : ℕ) → reach ≤ bytes → 0 < count → count * bytes ≤ 1048559 →
    reach + count * bytes < 2 ^ 32
array_fits reach bytes count r c f = omega (arith, r, f, mul-le 1 bytes count bytes (omega (arith, c)) (omega arith))
