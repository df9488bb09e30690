-- Types by their numbers in a table. The numbers 1 to 9 are those of the nine types that each table begins with: void,
-- char, unsigned char, short, unsigned short, int, unsigned int, long, unsigned long.
use Rattle.std.specs.Prelude.{ℕ, ◌==◌, ℤ, Bool, true, false, ◌&&◌, ◌||◌, nat_le, ◌-◌, List, [], ◌∷◌, slice_index_or, Option, Some, None, is_some, if◌then◌else◌}
use Rattle.c_types.specs.declared.kinds.CType.{CType}
use Rattle.c_types.specs.declared.kinds.CType.TheVariants.{Pointer, Array, Flexible, Struct, Union}
use Rattle.c_types.specs.Shapes.{is_complete}
use Rattle.c_types.specs.Table.{Types, kind_of, shape_of}
use Rattle.whole_numbers.specs.Types as w
use Rattle.whole_numbers.specs.declared.types.Width.{Width}
use Rattle.whole_numbers.specs.declared.types.Width.TheVariants.{One, Two, Four, Eight}
use Rattle.whole_numbers.specs.declared.types.WholeType.{WholeType}

-- ---- whole numbers (C11 6.2.5p17)

abbrev pub is_whole : ℕ → Bool
is_whole n = nat_le 2 n && nat_le n 9

abbrev pub whole : Width → Bool → WholeType
whole width signed = record { width = width; signed = signed }

-- those of the numbers 2 to 9, in the order of their ranks
abbrev pub whole_types : List WholeType
whole_types =
    whole One true ∷ whole One false ∷ whole Two true ∷ whole Two false
    ∷ whole Four true ∷ whole Four false ∷ whole Eight true ∷ whole Eight false ∷ []

-- the whole-number type of a number from 2 to 9
abbrev pub whole_type : ℕ → WholeType
whole_type n = slice_index_or whole_types (n - 2) w.int

abbrev pub by_sign : Bool → ℕ → ℕ → ℕ
by_sign true signed unsigned = signed
by_sign false signed unsigned = unsigned

abbrev pub number_by : Width → Bool → ℕ
number_by One signed = by_sign signed 2 3
number_by Two signed = by_sign signed 4 5
number_by Four signed = by_sign signed 6 7
number_by Eight signed = by_sign signed 8 9

abbrev pub number_of : WholeType → ℕ
number_of kind = number_by kind.width kind.signed

-- C11 6.3.1.1p2
unfoldable pub promoted : ℕ → ℕ
promoted n = number_of (w.promoted (whole_type n))

-- the usual conversions of two whole numbers (C11 6.3.1.8)
unfoldable pub usual : ℕ → ℕ → ℕ
usual a b = number_of (w.common (whole_type a) (whole_type b))

-- a number as one of a whole-number type (C11 6.3.1.3)
unfoldable pub wrapped : ℕ → ℤ → ℤ
wrapped n value = w.wrapped (whole_type n) value

-- ---- the other types of a table

abbrev pub target_by : Option CType → Option ℕ
target_by (Some (Pointer to)) = Some to
target_by _ = None

-- what a pointer type points to (C11 6.2.5p20)
unfoldable pub target : Types → ℕ → Option ℕ
target types n = target_by (kind_of types n)

abbrev pub element_by : Option CType → Option ℕ
element_by (Some (Array of count)) = Some of
element_by (Some (Flexible of)) = Some of
element_by _ = None

-- the type of the elements of an array, also of one that is open at its end
unfoldable pub element : Types → ℕ → Option ℕ
element types n = element_by (kind_of types n)

abbrev pub aggregate_by : Option CType → Bool
aggregate_by (Some (Struct tag)) = true
aggregate_by (Some (Union tag)) = true
aggregate_by _ = false

-- a struct or a union
unfoldable pub is_aggregate : Types → ℕ → Bool
is_aggregate types n = aggregate_by (kind_of types n)

-- C11 6.2.5p21
unfoldable pub is_scalar : Types → ℕ → Bool
is_scalar types n = is_whole n || is_some (target types n)

-- a type of the table that has a size
unfoldable pub has_size : Types → ℕ → Bool
has_size types n = is_some (kind_of types n) && is_complete (shape_of types n)

abbrev pub sized_by : Types → Option ℕ → Option ℕ
sized_by types (Some to) = if has_size types to then Some to else None
sized_by types None = None

-- the target of a pointer type, where it has a size (C11 6.5.6p2)
unfoldable pub sized_target : Types → ℕ → Option ℕ
sized_target types n = sized_by types (target types n)

abbrev pub void_by : Option ℕ → Bool
void_by (Some to) = to == 1
void_by None = false

unfoldable pub is_void_pointer : Types → ℕ → Bool
is_void_pointer types n = void_by (target types n)
