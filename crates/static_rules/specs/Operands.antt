-- What an expression gives where its value is wanted (C11 6.3.2.1), and how it is converted (C11 6.3).
use Rattle.std.specs.Prelude.{ℕ, ◌==◌, ℤ, pos, Bool, true, false, ◌&&◌, ◌||◌, List, Option, Some, None, is_some, if◌then◌else◌}
use Rattle.std.specs.Ordering.{int_eq}
use Rattle.c_types.specs.declared.kinds.CType.TheVariants as t
use Rattle.c_types.specs.Table.{Types}
use Rattle.c_types.specs.Adding.{added}
use Rattle.c_tree.specs.declared.values.Place.{Place}
use Rattle.c_tree.specs.declared.values.Place.TheOpen.{Value-F}
use Rattle.c_tree.specs.declared.values.Value.{Value, out-Value}
use Rattle.c_tree.specs.declared.values.Value.TheVariants as v
use Rattle.c_tree.specs.declared.operators.Written.{Written}
use Rattle.c_tree.specs.declared.operators.Written.TheVariants as written
use Rattle.static_rules.specs.declared.judged.Judged.{Judged}
use Rattle.static_rules.specs.declared.judged.Operand.{Operand}
use Rattle.static_rules.specs.declared.judged.Known.{Known}
use Rattle.static_rules.specs.declared.judged.Known.TheVariants as known
use Rattle.static_rules.specs.declared.judged.Tree.{Tree}
use Rattle.static_rules.specs.declared.judged.Tree.TheVariants as tree
use Rattle.static_rules.specs.declared.plans.Change.{Change}
use Rattle.static_rules.specs.declared.plans.Change.TheVariants as change
use Rattle.static_rules.specs.declared.plans.Seen.{Seen}
use Rattle.well_typed.specs.Kinds.{is_whole, target, element, is_scalar, has_size}
use Rattle.well_typed.specs.Surroundings.{ValueLayer, at}
use Rattle.static_rules.specs.Constants.{known_as}
use Rattle.static_rules.specs.States.{with_types}
use Rattle.static_rules.specs.declared.states.State.{State}
use Rattle.static_rules.specs.declared.states.Made.TheVariants as m
use Rattle.static_rules.specs.declared.states.Made.{Made}

abbrev pub operand : Value → ℕ → Known → Operand
operand value kind known = record { value = value; kind = kind; known = known }

-- an operand of which nothing is known
abbrev pub unknown : Value → ℕ → Operand
unknown value kind = operand value kind known.Nothing

abbrev pub value : Operand → Judged
value x = record { tree = tree.Value x.value; kind = x.kind; known = x.known }

abbrev pub place : Place → ℕ → Judged
place p kind = record { tree = tree.Place p; kind = kind; known = known.Nothing }

-- ---- types that are added

abbrev pub in_types : State → ℕ × Types → ℕ × State
in_types s r = (r.0, with_types s r.1)

unfoldable pub pointer_to : State → ℕ → ℕ × State
pointer_to s to = in_types s (added (t.Pointer to) s.types)

-- the number of what specifiers and a declarator make, where the table may have it: 0 for a function
unfoldable pub in_table : State → Made → ℕ × State
in_table s (m.Known kind) = (kind, s)
in_table s (m.Array of count) = in_types s (added (t.Array of count) s.types)
in_table s (m.Open of) = in_types s (added (t.Flexible of) s.types)
in_table s (m.Function signature) = (0, s)

-- ---- what a place gives where its value is wanted

-- an array is the address of its first element (C11 6.3.2.1p3)
abbrev pub decayed : ℕ → Place → ℕ × State → Operand × State
decayed line p r = (unknown (v.Decay (at line r.0) p) r.0, r.1)

-- a scalar is loaded (C11 6.3.2.1p2); of a struct or union, which nothing reads, the place is evaluated
abbrev pub read : Bool → ℕ → Place → ℕ → Operand
read true line p kind = unknown (v.Load (at line kind) p) kind
read false line p kind = unknown (v.Mention (at line kind) p) kind

abbrev pub of_place : ℕ → Place → ℕ → State → Option ℕ → Operand × State
of_place line p kind s (Some of) = decayed line p (pointer_to s of)
of_place line p kind s None = (read (is_scalar s.types kind) line p kind, s)

abbrev pub of_tree : ℕ → ℕ → Known → State → Tree → Operand × State
of_tree line kind known s (tree.Place p) = of_place line p kind s (element s.types kind)
of_tree line kind known s (tree.Value x) = (operand x kind known, s)

-- the value of an expression, and the state with the type that it may need
unfoldable pub valued : ℕ → State → Judged → Operand × State
valued line s j = of_tree line j.kind j.known s j.tree

-- ---- what a rule sees of an operand

abbrev pub allocates_at : ValueLayer → Bool
allocates_at (Value-F.Allocate a of size) = true
allocates_at (Value-F.AllocateMany a of count size) = true
allocates_at _ = false

abbrev pub seen : Operand → Seen
seen x = record { kind = x.kind; known = x.known; allocates = allocates_at (out-Value x.value) }

abbrev pub is_null_by : Known → Bool
is_null_by (known.Number n) = int_eq n (pos 0)
is_null_by known.NullPointer = true
is_null_by known.Traps = false
is_null_by known.Nothing = false

-- a null pointer constant (C11 6.3.2.3p3)
abbrev pub is_null : Seen → Bool
is_null x = is_null_by x.known

-- ---- conversions as by assignment (C11 6.5.16.1)

abbrev pub to_whole : ℕ → Seen → Change
to_whole to x = if x.kind == to then change.Stay else change.Whole to

abbrev pub some_if : {A : Type 0} → Bool → A → Option A
some_if true x = Some x
some_if false x = None

-- A `void *` becomes any pointer. What `malloc` and `calloc` make has the type of its elements from the conversion at once, and
-- that type has a size (C11 7.22.3p1).
abbrev pub from_void : Types → ℕ → ℕ → Seen → Option Change
from_void types to wanted x =
    if x.allocates then some_if (has_size types wanted) (change.Allocate to wanted) else Some (change.Check to)

-- of two pointer types that differ one is `void *`
abbrev pub between_pointers : Types → ℕ → ℕ → Seen → Option ℕ → Option Change
between_pointers types to wanted x (Some has) =
    if has == 1 then from_void types to wanted x else some_if (wanted == 1) (change.Keep to)
between_pointers types to wanted x None = None

abbrev pub to_pointer : Types → ℕ → Seen → Option ℕ → Option Change
to_pointer types to x (Some wanted) =
    if is_null x then Some (change.Null to)
    else if x.kind == to then Some change.Stay else between_pointers types to wanted x (target types x.kind)
to_pointer types to x None = None

-- Between whole numbers, between equal pointer types, between `void *` and any pointer, and from a null pointer constant; others
-- are a mismatch.
unfoldable pub conversion : Types → ℕ → Seen → Option Change
conversion types to x =
    if is_whole to then some_if (is_whole x.kind) (to_whole to x) else to_pointer types to x (target types to)

-- ---- converted operands

-- a call of `malloc` or `calloc` that makes elements of a type, as a pointer of another type
abbrev pub allocation_at : ℕ → ℕ → Value → ValueLayer → Value
allocation_at to element x (Value-F.Allocate a of size) = v.Allocate (at a.line to) element size
allocation_at to element x (Value-F.AllocateMany a of count size) = v.AllocateMany (at a.line to) element count size
allocation_at to element x _ = x

abbrev pub allocation : ℕ → ℕ → Value → Value
allocation to element x = allocation_at to element x (out-Value x)

unfoldable pub changed : ℕ → Change → Operand → Operand
changed line change.Stay x = x
changed line (change.Whole to) x = operand (v.Convert (at line to) written.Implicit x.value) to (known_as to x.known)
changed line (change.Null to) x = unknown (v.NullPointer (at line to) written.Implicit x.value) to
changed line (change.Keep to) x = unknown (v.KeepPointer (at line to) written.Implicit x.value) to
changed line (change.Check to) x = unknown (v.CheckPointer (at line to) written.Implicit x.value) to
changed line (change.Allocate to element) x = unknown (allocation to element x.value) to

abbrev pub changed_if : ℕ → Operand → Option Change → Option Operand
changed_if line x (Some how) = Some (changed line how x)
changed_if line x None = None

-- an operand as one of a type, nothing where that is a mismatch
unfoldable pub converted : Types → ℕ → ℕ → Operand → Option Operand
converted types line to x = changed_if line x (conversion types to (seen x))
