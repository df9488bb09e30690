-- Runs: how an object is made of consecutive values of one type.
use Rattle.std.specs.Prelude.{ℕ, zero, suc, ◌+◌, ◌-◌, ◌*◌, ◌/◌, List, [], ◌∷◌, ◌++◌, Option, Some, None, nat_le, if◌then◌else◌}
use Rattle.c_types.specs.Shapes.{Shape, Members, Void, Whole, Pointer, Array, Open, Struct, Union, Incomplete, None_left, Member, Flexible, size, next_offset, flexible_member, number_of}
use Rattle.type_layout.specs.declared.object_runs.Run.{Run}

-- A run is so many consecutive values of a type, from an offset.
pub record ShapeRun : Type 0 where
  pub kind : Shape
  pub lo : ℕ
  pub count : ℕ

-- where a run ends
abbrev pub end_of : ShapeRun → ℕ
end_of run = run.lo + run.count * size run.kind

-- ---- runs of a type

-- what there is for each number below n
abbrev pub each : ℕ → (ℕ → List ShapeRun) → List ShapeRun
each zero f = []
each (suc n) f = each n f ++ f n

-- A run, and after it what is inside each of its values. An argument says what is inside a value at an offset.
abbrev pub runs_with : Shape → (ℕ → List ShapeRun) → ℕ → ℕ → List ShapeRun
runs_with kind inside lo count =
    record { kind = kind; lo = lo; count = count } ∷ each count (λ i. inside (lo + i * size kind))

-- What is inside a value at an offset: of an array the run of its elements, of a struct or a union a run of each member
-- but a flexible one, in order. Inside a scalar is nothing.
abbrev mutual
  pub inside : Shape → ℕ → List ShapeRun
  inside (Void n) at = []
  inside (Whole n width signed) at = []
  inside (Pointer n to) at = []
  inside (Array n of count) at = runs_with of (inside of) at count
  inside (Open n of) at = []
  inside (Struct n members) at = inside_struct members 0 at
  inside (Union n members) at = inside_union members at
  inside (Incomplete n) at = []

  -- the members before them reach to an end
  pub inside_struct : Members → ℕ → ℕ → List ShapeRun
  inside_struct None_left end at = []
  inside_struct (Member first rest) end at =
      runs_with first (inside first) (at + next_offset first end) 1 ++ inside_struct rest (next_offset first end + size first) at
  inside_struct (Flexible n of) end at = []

  pub inside_union : Members → ℕ → List ShapeRun
  inside_union None_left at = []
  inside_union (Member first rest) at = runs_with first (inside first) at 1 ++ inside_union rest at
  inside_union (Flexible n of) at = []

-- so many values of a type, from an offset
abbrev pub runs_of : Shape → ℕ → ℕ → List ShapeRun
runs_of kind lo count = runs_with kind (inside kind) lo count

-- ---- runs of an object

-- the flexible member of a type: its offset and the type of its elements
abbrev pub flexible_of : Shape → Option (ℕ × Shape)
flexible_of (Void n) = None
flexible_of (Whole n width signed) = None
flexible_of (Pointer n to) = None
flexible_of (Array n of count) = None
flexible_of (Open n of) = None
flexible_of (Struct n members) = flexible_member members 0
flexible_of (Union n members) = None
flexible_of (Incomplete n) = None

-- An object is as many values of its type as it has room for. One with a flexible member is one value at most, and then
-- as many elements from the member on as it has room for.
abbrev pub runs_by : Option (ℕ × Shape) → Shape → ℕ → List ShapeRun
runs_by None elem bytes = runs_of elem 0 (bytes / size elem)
runs_by (Some (offset, of)) elem bytes =
    runs_of elem 0 (if nat_le (size elem) bytes then 1 else 0) ++
    (if nat_le offset bytes then runs_of of offset ((bytes - offset) / size of) else [])

unfoldable pub runs_of_object : Shape → ℕ → List ShapeRun
runs_of_object elem bytes = runs_by (flexible_of elem) elem bytes

-- a run with the number of its type
abbrev pub with_number : ShapeRun → Run
with_number run = record { kind = number_of run.kind; lo = run.lo; count = run.count }
