-- What a merge of histories takes and gives.
use Rattle.std.specs.Prelude.{ℕ, ◌≢◌, List}
use Rattle.std.specs.List.{All, flat_map}
use Rattle.heap_model.specs.History.{Log}
use Rattle.heap_model.specs.Layouts.{Layouts}
use Rattle.heap_model.specs.Legal.{of_region, IsLegal}
use Rattle.heap_model.specs.Order.{ArePasses}
use Rattle.heap_model.specs.Extension.{IsExtension}
use Rattle.heap_model.specs.declared.calls.Entry.{Entry}

-- the entries of all parts, one part after another
abbrev pub entries_of : List Log → List Entry
entries_of parts = flat_map (λ p. p.entries) parts

-- the entries of each region, in the order of their part
abbrev pub by_region : List Log → ℕ → List Entry
by_region parts r = of_region r (entries_of parts)

-- no region has entries in both parts
abbrev pub AreApart : Log → Log → Type 0
AreApart p q = All (λ e. All (λ f. e.region ≢ f.region) q.entries) p.entries

-- where each region's entries are legal, the history is
abbrev pub KeepsLegal : (ℕ → List Entry) → List Entry → Type 0
KeepsLegal parts history = (layouts : Layouts) → ((r : ℕ) → IsLegal layouts (parts r)) → IsLegal layouts history

-- whatever orders of callers go with the regions' entries, the history is the extension of both
abbrev pub Extends : (ℕ → List Entry) → List Entry → Type 0
Extends parts history =
    (layouts : Layouts) (passes : ℕ → List Entry) → ArePasses layouts parts passes
    → IsExtension layouts parts passes history
