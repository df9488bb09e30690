-- Casts (C11 6.5.4). What a cast converts is a node of its own, also where nothing changes.
use Rattle.std.specs.Prelude.{ℕ, ◌==◌, Bool, true, false, ◌&&◌, Option, Some, None, is_some, Result, Ok, Err, if◌then◌else◌}
use Rattle.c_types.specs.Table.{Types}
use Rattle.c_tree.specs.declared.operators.Written.TheVariants as written
use Rattle.c_tree.specs.declared.values.Value.{Value}
use Rattle.c_tree.specs.declared.values.Value.TheVariants as v
use Rattle.static_rules.specs.declared.faults.CheckKind.{CheckKind}
use Rattle.static_rules.specs.declared.faults.CheckKind.TheVariants as why
use Rattle.static_rules.specs.declared.faults.Feature.TheVariants as feature
use Rattle.static_rules.specs.declared.judged.Operand.{Operand}
use Rattle.static_rules.specs.declared.judged.Known.{Known}
use Rattle.static_rules.specs.declared.judged.Known.TheVariants as known
use Rattle.static_rules.specs.declared.plans.Casting.{Casting}
use Rattle.static_rules.specs.declared.plans.Casting.TheVariants as casting
use Rattle.static_rules.specs.declared.plans.Seen.{Seen}
use Rattle.well_typed.specs.Kinds.{is_whole, target, has_size}
use Rattle.well_typed.specs.Surroundings.{at}
use Rattle.static_rules.specs.Answers.{Answer, ◌>>=◌, fault}
use Rattle.static_rules.specs.Constants.{known_as}
use Rattle.static_rules.specs.Operands.{operand, seen, is_null, allocation}

-- ---- what the types decide

-- what a cast does, or why there is none
abbrev pub Planned : Type 0
Planned = Result Casting CheckKind

-- between a pointer and a whole number
abbrev pub left_out : Planned
left_out = Err (why.LeftOut feature.PointerNumber)

abbrev pub mismatch : Planned
mismatch = Err why.TypeMismatch

abbrev pub to_whole : Types → Seen → Planned
to_whole types x = if is_whole x.kind then Ok casting.Whole else if is_some (target types x.kind) then left_out else mismatch

-- What `malloc` and `calloc` make has the type of its elements from the cast, and that type has a size (C11 7.22.3p1).
abbrev pub from_pointer : Types → ℕ → Seen → (has : ℕ) → Planned
from_pointer types wanted x has =
    if wanted == 1 then Ok casting.Keep
    else if (has == 1) && x.allocates then (if has_size types wanted then Ok (casting.Allocate wanted) else mismatch)
    else Ok casting.Check

abbrev pub from_pointer_by : Types → ℕ → Seen → Option ℕ → Planned
from_pointer_by types wanted x (Some has) = from_pointer types wanted x has
from_pointer_by types wanted x None = if is_whole x.kind then left_out else mismatch

abbrev pub to_pointer_by : Types → Seen → Option ℕ → Planned
to_pointer_by types x (Some wanted) = if is_null x then Ok casting.Null else from_pointer_by types wanted x (target types x.kind)
to_pointer_by types x None = mismatch

-- To void any value, to a whole number one, to a pointer a null pointer constant and any pointer.
unfoldable pub planned_cast : Types → ℕ → Seen → Planned
planned_cast types to x =
    if to == 1 then Ok casting.Discard else if is_whole to then to_whole types x else to_pointer_by types x (target types to)

-- ---- the node

-- C11 6.3.2.3p3: 0 as a `void *` is a null pointer constant itself; `NULL` as one is not
abbrev pub known_null : Option ℕ → ℕ → Known
known_null (Some wanted) kind = if is_whole kind && (wanted == 1) then known.NullPointer else known.Nothing
known_null None kind = known.Nothing

abbrev pub known_cast : Types → ℕ → Casting → Operand → Known
known_cast types to casting.Whole x = known_as to x.known
known_cast types to casting.Null x = known_null (target types to) x.kind
known_cast types to _ x = known.Nothing

abbrev pub cast_value : ℕ → ℕ → Casting → Value → Value
cast_value line to casting.Discard x = v.Discard (at line to) x
cast_value line to casting.Whole x = v.Convert (at line to) written.Cast x
cast_value line to casting.Null x = v.NullPointer (at line to) written.Cast x
cast_value line to casting.Keep x = v.KeepPointer (at line to) written.Cast x
cast_value line to (casting.Allocate element) x = v.Allocated (at line to) (allocation to element x)
cast_value line to casting.Check x = v.CheckPointer (at line to) written.Cast x

abbrev pub cast_by : Types → ℕ → ℕ → ℕ → Operand → Planned → Answer Operand
cast_by types line here to x (Ok how) = Ok (operand (cast_value line to how x.value) to (known_cast types to how x))
cast_by types line here to x (Err kind) = fault kind here

-- `(type)value`
unfoldable pub cast : Types → ℕ → ℕ → ℕ → Operand → Answer Operand
cast types line here to x = cast_by types line here to x (planned_cast types to (seen x))
