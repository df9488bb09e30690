-- What the heap is told of types: which it may be asked for, and the preferred bounds.
use Rattle.std.specs.Prelude.{ℕ, Bool, ◌&&◌, nat_le, length, Option}
use Rattle.c_types.specs.Shapes.{is_complete}
use Rattle.c_types.specs.Table.{Types, shape_of}
use Rattle.type_layout.specs.Preferred.{pref}
use Rattle.type_layout.specs.declared.preference.Bounds.{Bounds}

-- Which types there are, by their numbers, and the preferred bounds of an object: of its element type, its size, an offset
-- and a wanted type, if there are any.
pub record Layouts : Type 0 where
  pub has : ℕ → Bool
  pub preferred : ℕ → ℕ → ℕ → ℕ → Option Bounds

-- those over the types of a table that have a size
abbrev pub layouts_of : Types → Layouts
layouts_of types = record {
  has = λ n. (nat_le 1 n && nat_le n (length types.kinds)) && is_complete (shape_of types n);
  preferred = λ elem size k want. pref (shape_of types elem) size k (shape_of types want);
}
