-- A segment: its entries, and the rows and whole entries that it keeps them in.
use Rattle.std.specs.Prelude.{◌≡◌, ◌<◌, ◌≤◌, true, if◌then◌else◌, length, vec_capacity}
use Rattle.std.specs.List.{AllByRecursion}
use Rattle.heap_model.specs.History.{SegmentLog, segment_entries}
use Rattle.heap_model.specs.Rows.{entries_in, IsWithin}
use Rattle.heap_model.specs.declared.segment.Segment.TheInside.{Inside}

abbrev pub segment_log : Inside → SegmentLog
segment_log a = record {
  entries = entries_in a.whole.items a.rows.items;
  spare = if a.reserved then 1 else 0;
  places = vec_capacity a.rows;
}

-- Each row has its entry, by itself or whole, and where a place is reserved there is one in either list.
pub record IsSegment (a : Inside) : Type 0 where
  pub within : AllByRecursion (IsWithin (length a.whole.items)) a.rows.items
  pub few : length a.whole.items ≤ length a.rows.items
  pub short : length a.rows.items ≤ vec_capacity a.rows
  pub most : vec_capacity a.rows ≤ segment_entries
  pub row_place : a.reserved ≡ true → length a.rows.items < vec_capacity a.rows
  pub whole_place : a.reserved ≡ true → length a.whole.items < vec_capacity a.whole
