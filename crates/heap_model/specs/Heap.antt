-- Heaps of objects. N is the type of their names and P that of pointer values.
use Rattle.std.specs.Prelude.{ℕ, ◌+◌, min, Bool, true, false, not, ◌||◌, ◌==◌, if◌then◌else◌, List, [], ◌∷◌, ◌++◌, map, length, filter, find, take, ◌&&◌, option_map, Option, Some, None}
use Rattle.std.specs.Bool.{beq}
use Rattle.std.specs.List.{list_any}
use Rattle.slot_headers.specs.Cells.{Cell}
use Rattle.heap_model.specs.Cells.{Act, Outcome, Did, Refused, access_outcome}
use Rattle.heap_model.specs.declared.calls.AccessKind.{AccessKind}
use Rattle.heap_model.specs.declared.calls.ReportKind.TheVariants.{Free, BadFree, DoubleFree}
use Rattle.free_slots.specs.Slots.{rest_limit}
use Rattle.lowfat_regions.specs.Regions.{slots}
use Rattle.heap_model.specs.Objects.{max_objects}

-- what a live object is, but for its name. Its size is the number of its cells
pub record Body (P : Type 0) : Type 0 where
  pub elem : ℕ
  pub fixed : Bool
  pub cells : List (Cell P)

pub record Object (N P : Type 0) : Type 0 where
  pub name : N
  pub body : Body P

-- the live objects in the order in which they were made, and the names of the dead ones, the last to die first.
-- Nothing but the name of a dead object is ever asked for again
pub record Heap (N P : Type 0) : Type 0 where
  pub live : List (Object N P)
  pub dead : List N

abbrev pub empty : {N P : Type 0} → Heap N P
empty = record { live = []; dead = [] }

-- the live object whose name passes
abbrev pub live_body : {N P : Type 0} → (N → Bool) → Heap N P → Option (Body P)
live_body is h = option_map (λ o. o.body) (find (λ o. is o.name) h.live)

-- whether the name of a dead object passes
abbrev pub has_dead : {N P : Type 0} → (N → Bool) → Heap N P → Bool
has_dead is h = list_any is h.dead

-- how many objects whose names pass live, and are dead
abbrev pub live_count : {N P : Type 0} → (N → Bool) → Heap N P → ℕ
live_count is h = length (filter (λ o. is o.name) h.live)

abbrev pub dead_count : {N P : Type 0} → (N → Bool) → Heap N P → ℕ
dead_count is h = length (filter is h.dead)

abbrev pub made_count : {N P : Type 0} → (N → Bool) → Heap N P → ℕ
made_count is h = live_count is h + dead_count is h

abbrev pub is_of : {N : Type 0} → (N → ℕ) → ℕ → N → Bool
is_of region r n = region n == r

-- how many slots of a region rest, where as many objects or more died in it
abbrev pub rest : ℕ → ℕ
rest r = rest_limit (slots r)

-- the names of the objects whose slots rest: of those that died last in a region, the last to die first
abbrev pub resting : {N P : Type 0} → (N → ℕ) → ℕ → Heap N P → List N
resting region r h = take (rest r) (filter (is_of region r) h.dead)

-- a region has no room: its live objects and its resting slots are as many as its slots, or as many objects were made as
-- versions can tell apart
unfoldable pub is_full : {N P : Type 0} → (N → ℕ) → Heap N P → ℕ → Bool
is_full region h r =
    (live_count (is_of region r) h + min (rest r) (dead_count (is_of region r) h) == slots r)
    || (made_count (is_of region r) h == max_objects)

-- ---- what is done at one object, if there is a live one that is named

-- a free of what is not null, by its offset, and by whether a dead object is named
abbrev pub free_outcome : {P : Type 0} → ℕ → Bool → Option (Body P) → Bool → Outcome P
free_outcome k fixed None false = Refused DoubleFree
free_outcome k fixed None true = if k == 0 then Refused DoubleFree else Refused BadFree
free_outcome k fixed (Some o) dead = if (k == 0) && beq fixed o.fixed then Did else Refused BadFree

abbrev pub access_at : {P : Type 0} → Bool → ℕ → AccessKind → Act P → Option (Body P) → Outcome P
access_at inside k kind act None = Refused Free
access_at inside k kind act (Some o) = access_outcome inside k kind act o.cells

-- ---- the next heap

-- a further object
abbrev pub with_new : {N P : Type 0} → Object N P → Heap N P → Heap N P
with_new o h = record { live = h.live ++ o ∷ []; dead = h.dead }

-- the objects whose names pass die
abbrev pub with_dead : {N P : Type 0} → (N → Bool) → Heap N P → Heap N P
with_dead is h =
    record {
      live = filter (λ o. not (is o.name)) h.live;
      dead = map (λ o. o.name) (filter (λ o. is o.name) h.live) ++ h.dead;
    }

abbrev pub with_cells_if : {N P : Type 0} → (N → Bool) → (List (Cell P) → List (Cell P)) → Object N P → Object N P
with_cells_if is f o = record { name = o.name; body = record { elem = o.body.elem; fixed = o.body.fixed; cells = if is o.name then f o.body.cells else o.body.cells } }

-- the cells of the objects whose names pass change
abbrev pub with_cells : {N P : Type 0} → (N → Bool) → (List (Cell P) → List (Cell P)) → Heap N P → Heap N P
with_cells is f h = record { live = map (with_cells_if is f) h.live; dead = h.dead }

-- the part of a heap whose names pass
abbrev pub part : {N P : Type 0} → (N → Bool) → Heap N P → Heap N P
part p h = record { live = filter (λ o. p o.name) h.live; dead = filter p h.dead }
