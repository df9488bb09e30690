-- A table of the last place of each name.
use Rattle.std.specs.Prelude.{ℕ, List, Option, None, slice_index_or}

-- what stands in the table for the name, which may end before it
abbrev pub place_of : List (Option ℕ) → ℕ → Option ℕ
place_of places name = slice_index_or places name None
