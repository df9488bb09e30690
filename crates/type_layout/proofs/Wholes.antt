-- Each run of an object of a type of a table is of a type that has a size, with its number in the table.
use Rattle.std.proofs.Common.{◌≡◌, ℕ, zero, suc, ◌+◌, ◌-◌, ◌*◌, ◌/◌, ◌<◌, ◌≤◌, List, [], ◌∷◌, ◌++◌, length, map, get_or, true, cond, Some, None, ap, ◌∙◌, refl, arith, subst, Bool, false}
use Rattle.std.specs.Prelude.{Option, nat_le, if◌then◌else◌}
use Rattle.c_types.specs.declared.kinds.CType.{CType}
use Rattle.c_types.specs.declared.kinds.CType.TheVariants as k
use Rattle.c_types.specs.declared.kinds.Field.{Field}
use Rattle.c_types.specs.Shapes.{Shape, Members, Void, Whole, Pointer, Array, Open, Struct, Union, Incomplete, None_left, Member, Flexible, size, next_offset, number_of, is_complete, flexible_member}
use Rattle.c_types.specs.Table.{Types, Tag, IsNumber, HasSize, shape_of, shape_of_kind, shape_within, kind_of, tagged, fields_of}
use Rattle.c_types.specs.Holds.{IsTable, IsWhole, AreWhole, IsTreeOf}
use Rattle.type_layout.specs.declared.object_runs.Run.{Run}
use Rattle.type_layout.specs.Runs.{ShapeRun, end_of, each, runs_with, inside, inside_struct, inside_union, runs_of, runs_by, runs_of_object, flexible_of, with_number}
use Rattle.type_layout.specs.Search.{run_in, IsRunWithin}
use Rattle.type_layout.proofs.Within.{Within, object_within}

-- ---- numbers of trees

number_of_tagged : (whole : Members → Shape) (shape : ℕ → Shape) (n : ℕ) (fields : List Field) →
    ((members : Members) → number_of (whole members) ≡ n) →
    number_of (tagged whole shape n fields) ≡ n
number_of_tagged whole shape n [] h = refl
number_of_tagged whole shape n (f ∷ fields) h = h _

number_of_kind : (tags : List Tag) (shape : ℕ → Shape) (n : ℕ) (kind : Option CType) →
    number_of (shape_of_kind tags shape n kind) ≡ n
number_of_kind tags shape n (Some k.Void) = refl
number_of_kind tags shape n (Some (k.Num width signed)) = refl
number_of_kind tags shape n (Some (k.Pointer to)) = refl
number_of_kind tags shape n (Some (k.Array of count)) = refl
number_of_kind tags shape n (Some (k.Flexible of)) = refl
number_of_kind tags shape n (Some (k.Struct tag)) =
    number_of_tagged (Struct n) shape n (fields_of tags tag) (λ members. refl)
number_of_kind tags shape n (Some (k.Union tag)) =
    number_of_tagged (Union n) shape n (fields_of tags tag) (λ members. refl)
number_of_kind tags shape n None = refl

-- the tree of a number has that number
pub number : (types : Types) (n : ℕ) → number_of (shape_of types n) ≡ n
unfolding shape_of
number types n = number_of_kind types.tags (shape_within (length types.kinds) types) n (kind_of types n)

pub tree : (types : Types) (shape : Shape) → IsWhole types shape → IsTreeOf types shape
tree types (Void n) w = absurd w
tree types (Whole n width signed) w = w.0
tree types (Pointer n to) w = w.0
tree types (Array n of count) w = w.0
tree types (Open n of) w = absurd w
tree types (Struct n members) w = w.0
tree types (Union n members) w = w.0
tree types (Incomplete n) w = absurd w

pub complete : (types : Types) (shape : Shape) → IsWhole types shape → is_complete shape ≡ true
complete types (Void n) w = absurd w
complete types (Whole n width signed) w = refl
complete types (Pointer n to) w = refl
complete types (Array n of count) w = complete types of w.1
complete types (Open n of) w = absurd w
complete types (Struct n members) w = refl
complete types (Union n members) w = refl
complete types (Incomplete n) w = absurd w

-- a number of a type with a size
pub has_size : (types : Types) (n : ℕ) → IsWhole types (shape_of types n) → HasSize types n
has_size types n w = (
  subst (λ m. IsNumber types m) (number types n) (tree types (shape_of types n) w).0,
  complete types
      (shape_of types n) w,
)

pub number_has_size : (types : Types) (shape : Shape) → IsWhole types shape → HasSize types (number_of shape)
number_has_size types shape w = ((tree types shape w).0, ap is_complete (tree types shape w).1 ∙ complete types shape w)

pub sized : (types : Types) (n : ℕ) → IsTable types → HasSize types n → 0 < size (shape_of types n)
sized types n t h = let s = t.sized n h.1 in omega (arith, s.0)

-- ---- runs of types with a size

abbrev pub AllWhole : Types → List ShapeRun → Type 0
AllWhole types [] = Unit {0}
AllWhole types (run ∷ runs) = IsWhole types run.kind × AllWhole types runs

pub whole_append : (types : Types) (a b : List ShapeRun) → AllWhole types a → AllWhole types b → AllWhole types (a ++ b)
whole_append types [] b h i = i
whole_append types (run ∷ a) b h i = (h.0, whole_append types a b h.1 i)

each_whole : (types : Types) (f : ℕ → List ShapeRun) (count : ℕ) → ((i : ℕ) → AllWhole types (f i)) →
    AllWhole types (each count f)
each_whole types f zero h = tt
each_whole types f (suc n) h = whole_append types _ _ (each_whole types f n h) (h n)

runs_whole : (types : Types) (kind : Shape) (f : ℕ → List ShapeRun) (lo count : ℕ) → IsWhole types kind →
    ((at : ℕ) → AllWhole types (f at)) →
    AllWhole types (runs_with kind f lo count)
runs_whole types kind f lo count w h =
    (w, each_whole types (λ i. f (lo + i * size kind)) count (λ i. h (lo + i * size kind)))

mutual
  pub inside_whole : (types : Types) (kind : Shape) (at : ℕ) → IsWhole types kind → AllWhole types (inside kind at)
  inside_whole types (Void n) at w = tt
  inside_whole types (Whole n width signed) at w = tt
  inside_whole types (Pointer n to) at w = tt
  inside_whole types (Array n of count) at w =
      runs_whole types of (inside of) at count w.1 (λ a. inside_whole types of a w.1)
  inside_whole types (Open n of) at w = tt
  inside_whole types (Struct n members) at w = struct_whole types members 0 at w.1
  inside_whole types (Union n members) at w = union_whole types members at w.1
  inside_whole types (Incomplete n) at w = tt

  struct_whole : (types : Types) (members : Members) (end at : ℕ) → AreWhole types members →
      AllWhole types (inside_struct members end at)
  struct_whole types None_left end at w = tt
  struct_whole types (Member first rest) end at w =
      whole_append types (runs_with first (inside first) (at + next_offset first end) 1)
      (inside_struct rest (next_offset first end + size first) at)
      (runs_whole types first (inside first) (at + next_offset first end) 1 w.0 (λ a. inside_whole types first a w.0))
      (struct_whole types rest (next_offset first end + size first) at w.2)
  struct_whole types (Flexible n of) end at w = tt

  union_whole : (types : Types) (members : Members) (at : ℕ) → AreWhole types members →
      AllWhole types (inside_union members at)
  union_whole types None_left at w = tt
  union_whole types (Member first rest) at w =
      whole_append types (runs_with first (inside first) at 1) (inside_union rest at)
      (runs_whole types first (inside first) at 1 w.0 (λ a. inside_whole types first a w.0))
      (union_whole types rest at w.2)
  union_whole types (Flexible n of) at w = tt

pub runs_of_whole : (types : Types) (kind : Shape) (lo count : ℕ) → IsWhole types kind →
    AllWhole types (runs_of kind lo count)
runs_of_whole types kind lo count w =
    runs_whole types kind (inside kind) lo count w (λ at. inside_whole types kind at w)

-- ---- the flexible member

abbrev pub IsWholeTail : Types → Option (ℕ × Shape) → Type 0
IsWholeTail types None = Unit {0}
IsWholeTail types (Some (offset, of)) = IsWhole types of

member_whole : (types : Types) (members : Members) (end : ℕ) → AreWhole types members →
    IsWholeTail types (flexible_member members end)
member_whole types None_left end w = tt
member_whole types (Member first rest) end w = member_whole types rest (next_offset first end + size first) w.2
member_whole types (Flexible n of) end w = w.1

pub tail_whole : (types : Types) (shape : Shape) → IsWhole types shape → IsWholeTail types (flexible_of shape)
tail_whole types (Void n) w = tt
tail_whole types (Whole n width signed) w = tt
tail_whole types (Pointer n to) w = tt
tail_whole types (Array n of count) w = tt
tail_whole types (Open n of) w = tt
tail_whole types (Struct n members) w = member_whole types members 0 w.1
tail_whole types (Union n members) w = tt
tail_whole types (Incomplete n) w = tt

whole_if : (types : Types) (runs : List ShapeRun) (b : Bool) → AllWhole types runs → AllWhole types (cond b runs [])
whole_if types runs true h = h
whole_if types runs false h = tt

by_whole : (types : Types) (flexible : Option (ℕ × Shape)) (elem : Shape) (bytes : ℕ) → IsWhole types elem →
    IsWholeTail types flexible →
    AllWhole types (runs_by flexible elem bytes)
by_whole types None elem bytes w t = runs_of_whole types elem 0 (bytes / size elem) w
by_whole types (Some (offset, of)) elem bytes w t =
    whole_append types (runs_of elem 0 (if nat_le (size elem) bytes then 1 else 0))
    (if nat_le offset bytes then runs_of of offset ((bytes - offset) / size of) else [])
    (runs_of_whole types elem 0 (if nat_le (size elem) bytes then 1 else 0) w)
    (whole_if types (runs_of of offset ((bytes - offset) / size of)) (nat_le offset bytes)
    (runs_of_whole types of offset ((bytes - offset) / size of) t))

pub object_whole : (types : Types) (elem : Shape) (bytes : ℕ) → IsWhole types elem →
    AllWhole types (runs_of_object elem bytes)
unfolding runs_of_object
object_whole types elem bytes w = by_whole types (flexible_of elem) elem bytes w (tail_whole types elem w)

-- ---- runs with numbers and with trees

pub with_trees : (types : Types) (runs : List ShapeRun) → AllWhole types runs →
    map (run_in types) (map with_number runs) ≡ runs
with_trees types [] w = refl
with_trees types (run ∷ runs) w = rw ((tree types run.kind w.0).1, with_trees types runs w.1) refl

pub with_numbers : (types : Types) (runs : List Run) → map with_number (map (run_in types) runs) ≡ runs
with_numbers types [] = refl
with_numbers types (run ∷ runs) = rw (number types run.kind, with_numbers types runs) refl

run_within : (types : Types) (bytes : ℕ) (run : ShapeRun) → IsTable types → IsWhole types run.kind →
    end_of run ≤ bytes →
    IsRunWithin types bytes (with_number run)
run_within types bytes run t w h = record {
  known = number_has_size types run.kind w;
  sized = sized types (number_of run.kind) t (number_has_size types run.kind w);
  within = rw (tree types run.kind w).1 h;
}

runs_within : (types : Types) (bytes : ℕ) (runs : List ShapeRun) (at : ℕ) (d : Run) → IsTable types →
    AllWhole types runs → Within bytes runs →
    at < length (map with_number runs) → IsRunWithin types bytes (get_or (map with_number runs) at d)
runs_within types bytes [] at d t w h l = absurd (omega arith)
runs_within types bytes (run ∷ runs) zero d t w h l = run_within types bytes run t w.0 h.0
runs_within types bytes (run ∷ runs) (suc at) d t w h l = runs_within types bytes runs at d t w.1 h.1 (omega arith)

-- ---- an object of a table

module _ (types : Types) (elem bytes : ℕ) (t : IsTable types) (h : HasSize types elem) where
  object_runs_whole : AllWhole types (runs_of_object (shape_of types elem) bytes)
  object_runs_whole = object_whole types (shape_of types elem) bytes (t.whole elem h.1)

  module _ (runs : List Run) (is : runs ≡ map with_number (runs_of_object (shape_of types elem) bytes)) where
    pub with_types : map (run_in types) runs ≡ runs_of_object (shape_of types elem) bytes
    with_types =
        ap (map (run_in types)) is ∙ with_trees types (runs_of_object (shape_of types elem) bytes) object_runs_whole

    pub all_within : (at : ℕ) (d : Run) → at < length runs → IsRunWithin types bytes (get_or runs at d)
    all_within at d l =
        rw is
        (runs_within types bytes (runs_of_object (shape_of types elem) bytes) at d t object_runs_whole
        (object_within (shape_of types elem) bytes) (rw is at l))
