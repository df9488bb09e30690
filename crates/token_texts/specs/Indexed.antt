-- What the fields of a table keep.
use Rattle.std.specs.Prelude.{◌≡◌, ℕ, false, List, Vec, Option, Some, None, slice_get}
use Rattle.std.specs.List.{list_any}
use Rattle.std.specs.Str.{bytes_eq}
use Rattle.std.specs.declared.alloc.Global.{Global}
use Rattle.std.specs.BTreeMap.{BTreeMap, get_by}
use Rattle.std.specs.Cmp.Lexicographic.{slice_cmp}
use Rattle.std.specs.Ordering.{nat_cmp}

abbrev pub number_in : BTreeMap (Vec ℕ Global) ℕ → List ℕ → Option ℕ
number_in numbers bytes = get_by (λ k. slice_cmp nat_cmp bytes k.items) numbers

-- the map has the number of what stands in the list, and of nothing else
pub record IsIndexed (numbers : BTreeMap (Vec ℕ Global) ℕ) (list : List (List ℕ)) : Type 0 where
  pub found : (bytes : List ℕ) (n : ℕ) → number_in numbers bytes ≡ Some n → slice_get list n ≡ Some bytes
  pub missing : (bytes : List ℕ) → number_in numbers bytes ≡ None → list_any (bytes_eq bytes) list ≡ false
