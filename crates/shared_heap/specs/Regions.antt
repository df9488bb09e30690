-- What is seen of a region of the shared heap, and which calls it takes.
use Rattle.std.specs.Prelude.{◌≡◌, ℕ, zero, suc, true, List, [], ◌∷◌, ◌++◌, Some}
use Rattle.lowfat_regions.specs.Regions.{last_region}
use Rattle.c_types.specs.Table.{Types}
use Rattle.heap_model.specs.Forms.{fits_call, region_for}
use Rattle.heap_model.specs.Layouts.{layouts_of}
use Rattle.heap_model.specs.Legal.{knows_types}
use Rattle.heap_model.specs.declared.calls.Call.{Call}
use Rattle.heap_model.specs.declared.calls.Entry.{Entry}
use Rattle.shared_heap.specs.declared.rules.Rules.{Rules}

-- a region, the types that calls name, and the calls that were made, with their replies
pub record Region : Type 0 where
  pub number : ℕ
  pub types : Types
  pub entries : List Entry

-- the rules of a region
abbrev pub rules_of : Region → Rules
rules_of r = record { region = r.number; table = r.types }

-- A call is one of the region, fits, and names types of the table.
pub record Allows (rules : Rules) (call : Call) : Type 0 where
  pub region : region_for call ≡ Some rules.region
  pub fits : fits_call call ≡ true
  pub types : knows_types (layouts_of rules.table) call ≡ true

-- a region on which no call was made
abbrev pub fresh : Types → ℕ → Region
fresh types number = record { number = number; types = types; entries = [] }

-- the first regions, on which no call was made
abbrev pub fresh_up_to : Types → ℕ → List Region
fresh_up_to types zero = []
fresh_up_to types (suc n) = fresh_up_to types n ++ fresh types (suc n) ∷ []

-- all regions
abbrev pub fresh_regions : Types → List Region
fresh_regions types = fresh_up_to types last_region
