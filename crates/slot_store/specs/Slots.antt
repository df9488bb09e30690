-- The made slots of one region, each with its cells (after low-fat pointers: all slots of a region have one size).
use Rattle.std.specs.Prelude.{◌≡◌, ℕ, ◌<◌, ◌≤◌, List, [], length, slice_index_or, slice_set}
use Rattle.lowfat_regions.specs.Regions as regions
use Rattle.lowfat_regions.specs.Regions.{IsRegion}
use Rattle.slot_headers.specs.Cells.{Cell, put}

-- a region, and the cells of each slot that was made, in order
pub record Contents : Type 0 where
  pub region : ℕ
  pub slots : List (List (Cell ℕ))

-- how many slots were made
abbrev pub made : Contents → ℕ
made s = length s.slots

-- how many bytes a slot has
abbrev pub slot_size : Contents → ℕ
slot_size s = regions.size_of s.region

-- the cells of a slot
abbrev pub cells_of : Contents → ℕ → List (Cell ℕ)
cells_of s slot = slice_index_or s.slots slot []

-- the same with other cells in one slot
abbrev pub with_cells : Contents → ℕ → List (Cell ℕ) → Contents
with_cells s slot cells = record { region = s.region; slots = slice_set s.slots slot cells }

-- the same with these cells in place of those at k of one slot
abbrev pub with_cells_at : Contents → ℕ → ℕ → List (Cell ℕ) → Contents
with_cells_at s slot k new = with_cells s slot (put k new (cells_of s slot))

-- Each slot that was made has the bytes of a slot of the region, and there are no more than the region has.
pub record HasWholeSlots (s : Contents) : Type 0 where
  pub region : IsRegion s.region
  pub limit : made s ≤ regions.slots s.region
  pub whole : (slot : ℕ) → slot < made s → length (cells_of s slot) ≡ slot_size s
