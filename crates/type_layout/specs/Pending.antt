-- What is still to come while the runs of an object are listed, which only private contracts cite.
use Rattle.std.specs.Prelude.{◌≡◌, ℕ, ◌+◌, ◌-◌, ◌*◌, ◌^◌, ◌<◌, ◌≤◌, List, [], ◌∷◌, ◌++◌, drop, Option, Some, None, slice_get, if◌then◌else◌}
use Rattle.c_types.specs.Shapes.{Shape, Members, Void, Whole, Pointer, Array, Open, Struct, Union, Incomplete, None_left, Member, Flexible, size, next_offset, is_open}
use Rattle.c_types.specs.declared.kinds.Member as row
use Rattle.c_types.specs.Table.{Types, HasSize, members, shape_of}
use Rattle.type_layout.specs.declared.object_runs.Run.{Run}
use Rattle.type_layout.specs.declared.opening.Frame.{Frame}
use Rattle.type_layout.specs.Runs.{ShapeRun, end_of, each, inside, runs_of}
use Rattle.type_layout.specs.Search.{run_in}

-- ---- the parts of a value

abbrev pub struct_parts : Members → ℕ → ℕ → List ShapeRun
struct_parts None_left end at = []
struct_parts (Member first rest) end at =
    record { kind = first; lo = at + next_offset first end; count = 1 } ∷
    struct_parts rest (next_offset first end + size first) at
struct_parts (Flexible n of) end at = []

abbrev pub union_parts : Members → ℕ → List ShapeRun
union_parts None_left at = []
union_parts (Member first rest) at = record { kind = first; lo = at; count = 1 } ∷ union_parts rest at
union_parts (Flexible n of) at = []

-- The runs that a value at an offset is made of at once: an array of its elements, a struct or a union of each member
-- but a flexible one. A scalar has no parts.
abbrev pub parts : Shape → ℕ → List ShapeRun
parts (Void n) at = []
parts (Whole n width signed) at = []
parts (Pointer n to) at = []
parts (Array n of count) at = record { kind = of; lo = at; count = count } ∷ []
parts (Open n of) at = []
parts (Struct n members) at = struct_parts members 0 at
parts (Union n members) at = union_parts members at
parts (Incomplete n) at = []

-- the part that a member is, if it is not flexible
abbrev pub member_part : (ℕ → Shape) → ℕ → Option row.Member → Option ShapeRun
member_part shape at None = None
member_part shape at (Some m) =
    if is_open (shape m.kind) then None else Some (record { kind = shape m.kind; lo = at + m.offset; count = 1 })

-- parts with what is inside them, one after the other
abbrev pub opened : List ShapeRun → List ShapeRun
opened [] = []
opened (run ∷ runs) = runs_of run.kind run.lo run.count ++ opened runs

-- what is inside so many values
abbrev pub inside_values : Shape → ℕ → ℕ → List ShapeRun
inside_values kind lo count = each count (λ i. inside kind (lo + i * size kind))

-- ---- by numbers of a table

abbrev pub runs_in : Types → Run → List ShapeRun
runs_in types run = runs_of (shape_of types run.kind) run.lo run.count

abbrev pub inside_in : Types → Run → List ShapeRun
inside_in types run = inside_values (shape_of types run.kind) run.lo run.count

abbrev pub parts_in : Types → Run → List ShapeRun
parts_in types run = parts (shape_of types run.kind) run.lo

-- the part that a member of the first value is
abbrev pub member_in : Types → Run → ℕ → Option ShapeRun
member_in types values part = member_part (shape_of types) values.lo (slice_get (members types values.kind) part)

-- ---- frames

-- a run of a type that has a size, which ends at a number of 64 bits
pub record IsRun (types : Types) (run : Run) : Type 0 where
  pub known : HasSize types run.kind
  pub fits : end_of (run_in types run) < 2 ^ 64

-- A frame: some values, and the next part of the first of them.
pub record IsFrame (types : Types) (frame : Frame) : Type 0 where
  pub values : IsRun types frame.values
  pub some : 1 ≤ frame.values.count
  pub few : frame.part < 2 ^ 64 - 1
  pub next : IsRun types frame.next
  pub here : slice_get (parts_in types frame.values) frame.part ≡ Some (run_in types frame.next)

-- what a frame stands for: the parts of its first value from the next one on, and what is inside the other values
abbrev pub to_come : Types → Frame → List ShapeRun
to_come types frame =
    opened (drop frame.part (parts_in types frame.values)) ++
    inside_values (shape_of types frame.values.kind) (frame.values.lo + size (shape_of types frame.values.kind))
    (frame.values.count - 1)

abbrev pub if_to_come : Types → Option Frame → List ShapeRun
if_to_come types None = []
if_to_come types (Some frame) = to_come types frame

-- what a stack of frames stands for, the last of them first
abbrev pub pending : Types → List Frame → List ShapeRun
pending types [] = []
pending types (frame ∷ frames) = pending types frames ++ to_come types frame

abbrev pub AreFrames : Types → List Frame → Type 0
AreFrames types [] = Unit {0}
AreFrames types (frame ∷ frames) = IsFrame types frame × AreFrames types frames
