-- Names and their numbers in an ordered map.
use Rattle.std.specs.Prelude.{◌≡◌, ℕ, ◌+◌, ◌⊎◌, Vec, Option, Some, None, if◌then◌else◌}
use Rattle.std.specs.declared.alloc.Global.{Global}
use Rattle.std.specs.BTreeMap.{BTreeMap, get_by, btree_map_len}
use Rattle.std.specs.Cmp.Lexicographic.{slice_cmp}
use Rattle.std.specs.Ordering.{nat_cmp}
use Rattle.std.specs.Str.{bytes_eq}
use Rattle.c_tokens.specs.Names.{Name}

abbrev pub Known : Type 0
Known = BTreeMap (Vec ℕ Global) ℕ

-- the number of the name, if it has one
abbrev pub number_in : Known → Name → Option ℕ
number_in known name = get_by (λ k. slice_cmp nat_cmp name k.items) known

-- the name is known under this number, or new, and from now on known under the next
abbrev pub Finds : Known → Known → Name → ℕ → Type 0
Finds old new name number =
    ((number_in old name ≡ Some number) × (new ≡ old))
    ⊎ ((number_in old name ≡ None) × (number ≡ btree_map_len old) × (btree_map_len new ≡ btree_map_len old + 1)
    × ((other : Name) → number_in new other ≡ (if bytes_eq name other then Some number else number_in old other)))
