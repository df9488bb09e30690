-- What an operator makes of the values of two operands (C11 6.5.5 to 6.5.14): the types decide, then a node is built.
use Rattle.std.specs.Prelude.{ℕ, ◌==◌, Bool, true, false, ◌&&◌, ◌||◌, Option, Some, None, is_some, if◌then◌else◌}
use Rattle.c_types.specs.Table.{Types}
use Rattle.c_tree.specs.declared.operators.Operator.{Operator}
use Rattle.c_tree.specs.declared.operators.Operator.TheVariants as o
use Rattle.c_tree.specs.declared.operators.Comparison.{Comparison}
use Rattle.c_tree.specs.declared.operators.LogicalOperator.{LogicalOperator}
use Rattle.c_tree.specs.declared.values.At.{At}
use Rattle.c_tree.specs.declared.values.Value.{Value}
use Rattle.c_tree.specs.declared.values.Value.TheVariants as v
use Rattle.static_rules.specs.declared.judged.Operand.{Operand}
use Rattle.static_rules.specs.declared.judged.Known.{Known}
use Rattle.static_rules.specs.declared.judged.Known.TheVariants as known
use Rattle.static_rules.specs.declared.plans.Change.{Change}
use Rattle.static_rules.specs.declared.plans.Change.TheVariants as change
use Rattle.static_rules.specs.declared.plans.Joint.{Joint}
use Rattle.static_rules.specs.declared.plans.Joint.TheVariants as joint
use Rattle.static_rules.specs.declared.plans.Plan.{Plan}
use Rattle.static_rules.specs.declared.plans.Seen.{Seen}
use Rattle.well_typed.specs.Kinds.{is_whole, promoted, usual, target, sized_target, is_void_pointer, is_scalar}
use Rattle.static_rules.specs.Constants.{known_as, known_binary, known_comparison, known_logical}
use Rattle.well_typed.specs.Surroundings.{at}
use Rattle.static_rules.specs.Operands.{operand, to_whole, is_null, seen, changed, some_if}
use Rattle.static_rules.specs.Sorts.{Sort, Arithmetic, Shift, Sum, Difference, Equality, Order, Logical}

abbrev pub plan : Change → Change → Joint → ℕ → Known → Plan
plan left right joint kind known = record { left = left; right = right; joint = joint; kind = kind; known = known }

-- ---- whole numbers

abbrev pub both_whole : Seen → Seen → Bool
both_whole a b = is_whole a.kind && is_whole b.kind

-- operands as ones of these types, and a result of the left one's
unfoldable pub computed : Operator → ℕ → ℕ → Seen → Seen → Plan
computed operator left right a b =
    plan (to_whole left a) (to_whole right b) (joint.Binary operator) left
    (known_binary operator left (known_as left a.known) (known_as right b.known))

unfoldable pub compared : Comparison → ℕ → Seen → Seen → Plan
compared comparison kind a b =
    plan (to_whole kind a) (to_whole kind b) (joint.Compare comparison) 6
    (known_comparison comparison kind (known_as kind a.known) (known_as kind b.known))

-- C11 6.3.1.8
abbrev pub in_common : Operator → Seen → Seen → Plan
in_common operator a b = computed operator (usual a.kind b.kind) (usual a.kind b.kind) a b

-- C11 6.5.7p3
abbrev pub shifted : Operator → Seen → Seen → Plan
shifted operator a b = computed operator (promoted a.kind) (promoted b.kind) a b

-- ---- pointers

-- a pointer whose target has a size
abbrev pub is_sized : Types → Seen → Bool
is_sized types a = is_some (sized_target types a.kind)

abbrev pub is_pointer : Types → Seen → Bool
is_pointer types a = is_some (target types a.kind)

abbrev pub same_type : Seen → Seen → Bool
same_type a b = a.kind == b.kind

abbrev pub moved : Joint → ℕ → Plan
moved joint kind = plan change.Stay change.Stay joint kind known.Nothing

abbrev pub pointers : Comparison → Change → Change → Plan
pointers comparison left right = plan left right (joint.ComparePointers comparison) 6 known.Nothing

-- C11 6.5.6p2
unfoldable pub sum : Types → Seen → Seen → Option Plan
sum types a b =
    if both_whole a b then Some (in_common o.Add a b)
    else if is_sized types a && is_whole b.kind then Some (moved joint.Advance a.kind)
    else some_if (is_whole a.kind && is_sized types b) (moved joint.AdvanceFirst b.kind)

-- C11 6.5.6p3: what two pointers are apart is a long
unfoldable pub difference : Types → Seen → Seen → Option Plan
difference types a b =
    if both_whole a b then Some (in_common o.Subtract a b)
    else if is_sized types a && is_whole b.kind then Some (moved joint.Retreat a.kind)
    else some_if (is_sized types a && same_type a b) (moved joint.Difference 8)

-- C11 6.5.9p2: two pointers of one type, or one of the two a null pointer constant or a `void *`
unfoldable pub equal_pointers : Types → Comparison → Seen → Seen → Option Plan
equal_pointers types comparison a b =
    if is_pointer types a && same_type a b then Some (pointers comparison change.Stay change.Stay)
    else if is_pointer types a && is_null b then Some (pointers comparison change.Stay (change.Null a.kind))
    else if is_null a && is_pointer types b then Some (pointers comparison (change.Null b.kind) change.Stay)
    else if is_void_pointer types a.kind && is_pointer types b then Some (pointers comparison change.Stay (change.Keep a.kind))
    else some_if (is_pointer types a && is_void_pointer types b.kind) (pointers comparison (change.Keep b.kind) change.Stay)

unfoldable pub equal : Types → Comparison → Seen → Seen → Option Plan
equal types comparison a b =
    if both_whole a b then Some (compared comparison (usual a.kind b.kind) a b) else equal_pointers types comparison a b

-- C11 6.5.8p2
unfoldable pub ordered : Types → Comparison → Seen → Seen → Option Plan
ordered types comparison a b =
    if both_whole a b then Some (compared comparison (usual a.kind b.kind) a b)
    else some_if (is_sized types a && same_type a b) (pointers comparison change.Stay change.Stay)

-- C11 6.5.13p2, 6.5.14p2: numbers or pointers
abbrev pub both_scalar : Types → Seen → Seen → Bool
both_scalar types a b = is_scalar types a.kind && is_scalar types b.kind

unfoldable pub logical : LogicalOperator → Seen → Seen → Plan
logical operator a b = plan change.Stay change.Stay (joint.Logical operator) 6 (known_logical operator a.known b.known)

-- What an operator makes of two values by their types, nothing where they are a mismatch.
unfoldable pub planned : Types → Sort → Seen → Seen → Option Plan
planned types (Arithmetic operator) a b = some_if (both_whole a b) (in_common operator a b)
planned types (Shift operator) a b = some_if (both_whole a b) (shifted operator a b)
planned types Sum a b = sum types a b
planned types Difference a b = difference types a b
planned types (Equality comparison) a b = equal types comparison a b
planned types (Order comparison) a b = ordered types comparison a b
planned types (Logical operator) a b = some_if (both_scalar types a b) (logical operator a b)

-- ---- the node

abbrev pub node : At → Joint → Value → Value → Value
node a (joint.Binary operator) x y = v.Binary a operator x y
node a (joint.Compare comparison) x y = v.Compare a comparison x y
node a (joint.ComparePointers comparison) x y = v.ComparePointers a comparison x y
node a joint.Advance x y = v.Advance a x y
node a joint.AdvanceFirst x y = v.AdvanceFirst a x y
node a joint.Retreat x y = v.Retreat a x y
node a joint.Difference x y = v.Difference a x y
node a (joint.Logical operator) x y = v.Logical a operator x y

unfoldable pub built : ℕ → Plan → Operand → Operand → Operand
built line p x y =
    operand (node (at line p.kind) p.joint (changed line p.left x).value (changed line p.right y).value) p.kind p.known

abbrev pub built_if : ℕ → Operand → Operand → Option Plan → Option Operand
built_if line x y (Some p) = Some (built line p x y)
built_if line x y None = None

unfoldable pub joined : Types → ℕ → Sort → Operand → Operand → Option Operand
joined types line sort x y = built_if line x y (planned types sort (seen x) (seen y))
