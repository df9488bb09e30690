-- Histories and their restrictions to regions, whoever numbered the calls.
use Rattle.std.specs.Prelude.{ℕ, ◌↔◌, List}
use Rattle.lowfat_regions.specs.Regions.{IsRegion}
use Rattle.heap_model.specs.Layouts.{Layouts}
use Rattle.heap_model.specs.Legal.{IsLegal, InRegions, of_region}
use Rattle.heap_model.specs.declared.calls.Entry.{Entry}

-- A history is legal exactly where each of its entries is of a region from 1 to 27 and its restriction to each of these
-- is legal.
abbrev pub RestrictionsLaw : Type 0
RestrictionsLaw =
    (layouts : Layouts) (history : List Entry)
    → (IsLegal layouts history
    ↔ (InRegions history × ((r : ℕ) → IsRegion r → IsLegal layouts (of_region r history))))
