-- The history that regions' histories and callers' orders have in common, ordered by stamps (after Lamport's clocks).
use Rattle.std.specs.Prelude.{ℕ, zero, suc, ◌≡◌, List, [], ◌++◌, IsPermutation}
use Rattle.lowfat_regions.specs.Regions.{last_region}
use Rattle.heap_model.specs.Layouts.{Layouts}
use Rattle.heap_model.specs.Order.{Rises, IsMerge, ArePasses, IsRecord}
use Rattle.heap_model.specs.declared.calls.Entry.{Entry}

-- the entries of the first regions, region by region
unfoldable pub entries_up_to : (ℕ → List Entry) → ℕ → List Entry
entries_up_to parts zero = []
entries_up_to parts (suc r) = entries_up_to parts r ++ parts (suc r)

-- the entries of all regions
abbrev pub all_entries : (ℕ → List Entry) → List Entry
all_entries parts = entries_up_to parts last_region

-- A history is the extension by stamps of the regions' histories and the callers' orders.
pub record IsExtension (layouts : Layouts) (parts passes : ℕ → List Entry) (history : List Entry) : Type 0 where
  -- it has each region's entries in their order, and rises by stamp and region
  pub merges : IsMerge parts history
  -- it is legal, well numbered and stamped, and has each caller's entries in their order
  pub recorded : IsRecord layouts passes history
  -- there is no other
  pub only : (other : List Entry) → IsMerge parts other → other ≡ history
  -- it is a rearrangement of the regions' entries, and each of these that rises is it
  pub rearranges : IsPermutation (all_entries parts) history
  pub sorted : (other : List Entry) → IsPermutation (all_entries parts) other → Rises other → other ≡ history

-- Whatever regions and callers keep has one common extension by stamps, and that is legal.
abbrev pub ExtensionLaw : Type 0
ExtensionLaw =
    (layouts : Layouts) (parts passes : ℕ → List Entry) → ArePasses layouts parts passes
    → (history : List Entry) × IsExtension layouts parts passes history
