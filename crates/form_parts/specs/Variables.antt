-- Variables, and which of them a name means (C11 6.2.1). A name is its number among the names of the unit.
use Rattle.std.specs.Prelude.{ℕ, Bool, false, ◌||◌, List, Option, Some, None, nat_le, codes, slice_get, map}
use Rattle.std.specs.Str.{bytes_eq}
use Rattle.token_texts.specs.Texts.{Texts, name_of}
use Rattle.scoped_names.specs.Names.{last_place}
use Rattle.plain_meaning.specs.declared.tree.Pointer.{Pointer}
use Rattle.form_parts.specs.declared.sort.Sort.{Sort}
use Rattle.form_parts.specs.declared.sort.Sort.TheVariants as holds

-- a variable has a name, and holds a number or a pointer
abbrev pub Variable : Type 0
Variable = ℕ × Sort

abbrev pub names : List Variable → List ℕ
names scope = map (λ (v : Variable). v.0) scope

abbrev pub sorts : List Variable → List Sort
sorts scope = map (λ (v : Variable). v.1) scope

-- whether the place is one after so many
abbrev pub is_since : ℕ → Option ℕ → Bool
is_since start (Some place) = nat_le start place
is_since start None = false

-- the functions that a program is given, whose names it may not take
abbrev pub is_reserved : Texts → ℕ → Bool
is_reserved texts name = bytes_eq (name_of texts name) (codes "printf")
    || (bytes_eq (name_of texts name) (codes "malloc") || bytes_eq (name_of texts name) (codes "free"))

-- The name may not be declared in a block whose variables begin at `start`: it has one of that name already, or the name is
-- that of a function that a program is given.
abbrev pub is_taken : Texts → ℕ → List Variable → ℕ → Bool
is_taken texts start scope name = is_reserved texts name || is_since start (last_place (names scope) name)

abbrev pub with_sort : ℕ → Option Sort → Option (ℕ × Sort)
with_sort variable (Some sort) = Some (variable, sort)
with_sort variable None = None

abbrev pub meaning_at : List Sort → Option ℕ → Option (ℕ × Sort)
meaning_at sorts (Some variable) = with_sort variable (slice_get sorts variable)
meaning_at sorts None = None

-- Of the variables in scope, the outermost first, the name means the last one that has it. It has this place, and holds this.
unfoldable pub meaning : List Variable → ℕ → Option (ℕ × Sort)
meaning scope name = meaning_at (sorts scope) (last_place (names scope) name)

abbrev pub number_by : Option (ℕ × Sort) → Option ℕ
number_by (Some (variable, holds.Number)) = Some variable
number_by _ = None

-- the variable that the name means, if it holds a number
unfoldable pub number_of : List Variable → ℕ → Option ℕ
number_of scope name = number_by (meaning scope name)

abbrev pub pointer_by : Option (ℕ × Sort) → Option Pointer
pointer_by (Some (variable, holds.Pointer target)) = Some (record { variable = variable; target = target })
pointer_by _ = None

-- the variable that the name means, if it holds a pointer
unfoldable pub pointer_of : List Variable → ℕ → Option Pointer
pointer_of scope name = pointer_by (meaning scope name)
