-- How many rows the types of a table have.
use Rattle.std.specs.Prelude.{◌≡◌, ℕ, ◌+◌, ◌-◌, ◌<◌, List, min, length, slice_index, Contains, if◌then◌else◌}
use Rattle.c_types.specs.declared.kinds.Member.{Member}
use Rattle.c_types.specs.Shapes.{Shape, is_complete, is_open}
use Rattle.c_types.specs.Table.{Types, IsNumber, shape_of}
use Rattle.layout_table.specs.declared.table.TableError.{TableError}
use Rattle.layout_table.specs.declared.table.TableError.TheVariants as e
use Rattle.layout_table.specs.Strides.{inner}
use Rattle.layout_table.specs.Tables.{rows_total}

-- Counts stop behind the most rows that a table may have.
abbrev pub capped : ℕ → ℕ
capped n = min n 1000001

-- what a member counts
abbrev pub member_counts : Types → Member → ℕ
member_counts types m = (if is_open (shape_of types m.kind) then 0 else 1) + inner (shape_of types m.kind)

-- the rows of a type that has a size
abbrev pub capped_rows : Shape → ℕ
capped_rows shape = if is_complete shape then 1 + capped (inner shape) else 0

-- the rows inside a type are counted
pub record IsCountedNumber (types : Types) (counts : List ℕ) (n : ℕ) : Type 0 where
  pub known : IsNumber types n
  pub count : slice_index counts (n - 1) ≡ capped (inner (shape_of types n))

-- those inside the types of these numbers are
pub record IsCounted (types : Types) (done : List ℕ) (counts : List ℕ) : Type 0 where
  pub length_is : length counts ≡ length types.kinds
  pub each : (n : ℕ) → Contains done n → IsCountedNumber types counts n

-- why a table is not built
abbrev pub IsTold : Types → TableError → Type 0
IsTold types e.TooManyRuns = 1000000 < rows_total types
IsTold types (e.Memory why) = Unit {0}
