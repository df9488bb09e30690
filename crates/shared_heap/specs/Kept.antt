-- What the fields of a region stand for, and what is kept true of them.
use Rattle.heap_model.specs.Layouts.{layouts_of}
use Rattle.typed_heap.specs.Histories.{IsHeapOf}
use Rattle.shared_heap.specs.Regions.{Region}
use Rattle.shared_heap.specs.declared.region.HeldRegion.TheInside.{Inside}

abbrev pub region : Inside → Region
region a = record { number = a.heap.region; types = a.table.now; entries = a.history.entries }

-- The heap is that of the region's calls, also of which slots rest: those of the region's last deaths.
abbrev pub IsKept : Inside → Type 0
IsKept a = IsHeapOf (layouts_of a.table.now) a.heap a.heap.region a.history.entries
