-- What is left once all passes are back.
use Rattle.std.specs.Prelude.{◌≡◌, ℕ, ◌==◌, cond, List, [], ◌∷◌}
use Rattle.heap_model.specs.History.{Log}
use Rattle.heap_model.specs.Layouts.{layouts_of}
use Rattle.heap_model.specs.Legal.{IsLegal}
use Rattle.heap_model.specs.declared.calls.Entry.{Entry}
use Rattle.region_lock.specs.Known.{Known}
use Rattle.shared_heap.specs.Regions.{Region}

-- what the pass of a number made, and nothing where there is no such pass
abbrev pub made_by : List Known → ℕ → List Entry
made_by [] w = []
made_by (p ∷ ps) w = cond (p.worker == w) p.list (made_by ps w)

-- the history has the calls of a region, which are legal
pub record IsHistoryOf (r : Region) (h : Log) : Type 0 where
  pub entries : h.entries ≡ r.entries
  pub legal : IsLegal (layouts_of r.types) h.entries

-- these are the histories of the regions, in their order
abbrev pub AreHistoriesOf : List Region → List Log → Type 0
AreHistoriesOf [] [] = Unit {0}
AreHistoriesOf [] (h ∷ hs) = ⊥
AreHistoriesOf (r ∷ rs) [] = ⊥
AreHistoriesOf (r ∷ rs) (h ∷ hs) = IsHistoryOf r h × AreHistoriesOf rs hs
