-- A history as it is kept: its entries, and for how many more there is room.
use Rattle.std.specs.Prelude.{ℕ, ◌^◌, List}
use Rattle.heap_model.specs.declared.calls.Entry.{Entry}

pub record Log : Type 0 where
  pub entries : List Entry
  pub spare : ℕ

-- A segment as it is kept: its entries, for how many more there is memory, and how many places it has altogether.
pub record SegmentLog : Type 0 where
  pub entries : List Entry
  pub spare : ℕ
  pub places : ℕ

-- how many entries a segment has, and how many segments and entries a history has at most
abbrev pub segment_entries : ℕ
segment_entries = 1024

abbrev pub most_segments : ℕ
most_segments = 2 ^ 27

abbrev pub most_entries : ℕ
most_entries = 2 ^ 37
