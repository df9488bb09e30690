-- What is kept true of the heaps of the regions with their history.
use Rattle.std.specs.Prelude.{◌≡◌, ℕ, ◌≤◌, List, length}
use Rattle.heap_model.specs.Layouts.{Layouts, layouts_of}
use Rattle.heap_model.specs.Legal.{InRegions, IsWellNumbered, of_region, own}
use Rattle.heap_model.specs.State.{State}
use Rattle.heap_model.specs.declared.calls.Entry.{Entry}
use Rattle.lowfat_regions.specs.Regions.{last_region}
use Rattle.typed_heap.specs.Histories.{IsHeapOf}
use Rattle.region_heaps.specs.Entries.{StampsFrom}
use Rattle.region_heaps.specs.Numbers.{count_of}
use Rattle.region_heaps.specs.Regions.{heap_of}
use Rattle.region_heaps.specs.Seen.{Heaps}
use Rattle.region_heaps.specs.declared.heaps.RegionHeaps.TheInside.{Inside}

abbrev pub seen : Inside → Heaps
seen a = record { types = a.table.now; entries = a.history.entries }

-- Each region's heap is that of its entries, and each worker's count that of its entries.
pub record Keeps (layouts : Layouts) (heaps : List State) (counts : ℕ → ℕ) (history : List Entry) : Type 0 where
  pub count : length heaps ≡ last_region
  pub each : (region : ℕ) → 1 ≤ region → region ≤ last_region
      → IsHeapOf layouts (heap_of heaps region) region (of_region region history)
  pub counts_are : (worker : ℕ) → counts worker ≡ length (own history worker)
  pub numbered : IsWellNumbered history
  pub stamps : StampsFrom 1 history
  pub in_regions : InRegions history

abbrev pub IsKept : Inside → Type 0
IsKept a = Keeps (layouts_of a.table.now) a.heaps.items (count_of a.numbers) a.history.entries
