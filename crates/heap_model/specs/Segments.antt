-- The segments that a history is kept in.
use Rattle.std.specs.Prelude.{◌≡◌, ◌+◌, ◌<◌, ◌≤◌, ◌⊎◌, List, ◌++◌, length, drop}
use Rattle.std.specs.List.{AllByRecursion, flat_map}
use Rattle.heap_model.specs.History.{Log, SegmentLog, segment_entries, most_segments}
use Rattle.heap_model.specs.declared.calls.Entry.{Entry}
use Rattle.heap_model.specs.declared.history.History.TheInside.{Inside}
use Rattle.heap_model.specs.declared.history.Entries.TheInside.{Inside as Rest}

abbrev pub entries_of : List SegmentLog → List Entry
entries_of full = flat_map (λ s. s.entries) full

-- a segment in which there is no place left
abbrev pub IsFull : SegmentLog → Type 0
IsFull s = length s.entries ≡ segment_entries

abbrev pub log_of : Inside → Log
log_of a = record { entries = entries_of a.full.items ++ a.last.entries; spare = a.last.spare }

-- The segment that takes the next entries is one of the full length, unless it was never made.
pub record IsSegmented (a : Inside) : Type 0 where
  pub full : AllByRecursion IsFull a.full.items
  pub few : length a.full.items + 1 ≤ most_segments
  pub short : length a.last.entries + a.last.spare ≤ a.last.places
  pub made : (a.last.places ≡ segment_entries) ⊎ (a.last.places ≡ 0)

-- the entries that are left
abbrev pub left_of : Rest → List Entry
left_of a = drop a.at (entries_of a.full.items ++ a.last.entries)

-- The next entry is in the first segment that is left.
pub record IsRest (a : Rest) : Type 0 where
  pub full : AllByRecursion IsFull a.full.items
  pub within : 0 < length a.full.items → a.at < segment_entries
  pub within_last : length a.full.items ≡ 0 → a.at ≤ length a.last.entries
