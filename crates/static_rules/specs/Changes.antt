-- What changes a place: assignments (C11 6.5.16), `++` and `--` (6.5.2.4, 6.5.3.1). Types come before places: a mismatch is told
-- where both are wrong. The initialiser of an object of the whole text has none of them.
use Rattle.std.specs.Prelude.{ℕ, ◌==◌, Bool, true, false, ◌&&◌, ◌||◌, not, Option, Some, None, is_some, Result, Ok, Err, if◌then◌else◌}
use Rattle.c_types.specs.Table.{Types}
use Rattle.c_tree.specs.declared.operators.Fixity.{Fixity}
use Rattle.c_tree.specs.declared.operators.Operator.{Operator}
use Rattle.c_tree.specs.declared.operators.Step.{Step}
use Rattle.c_tree.specs.declared.values.Place.{Place}
use Rattle.c_tree.specs.declared.values.Value.{Value}
use Rattle.c_tree.specs.declared.values.Value.TheVariants as v
use Rattle.static_rules.specs.declared.faults.CheckKind.TheVariants as why
use Rattle.static_rules.specs.declared.judged.Judged.{Judged}
use Rattle.static_rules.specs.declared.judged.Operand.{Operand}
use Rattle.static_rules.specs.declared.judged.Tree.{Tree}
use Rattle.static_rules.specs.declared.judged.Tree.TheVariants as tree
use Rattle.static_rules.specs.declared.plans.Seen.{Seen}
use Rattle.static_rules.specs.declared.plans.Stepping.{Stepping}
use Rattle.static_rules.specs.declared.plans.Stepping.TheVariants as stepping
use Rattle.static_rules.specs.declared.plans.Updating.{Updating}
use Rattle.static_rules.specs.declared.plans.Updating.TheVariants as updating
use Rattle.well_typed.specs.Kinds.{is_whole, promoted, usual, sized_target, is_aggregate, has_size}
use Rattle.well_typed.specs.Surroundings.{at, is_shift}
use Rattle.static_rules.specs.Answers.{Answer, ◌>>=◌, fault, or_fault, or_mismatch}
use Rattle.static_rules.specs.Operands.{unknown, valued, seen, to_whole, changed, converted, some_if}
use Rattle.static_rules.specs.Sorts.{step_of}
use Rattle.static_rules.specs.declared.states.State.{State}
use Rattle.static_rules.specs.declared.states.Where.{Where}

abbrev pub as_place : Tree → Option Place
as_place (tree.Place q) = Some q
as_place (tree.Value x) = None

abbrev pub wanted_place : ℕ → Tree → Answer Place
wanted_place here x = or_fault why.NotAPlace here (as_place x)

-- a value that no initialiser of an object of the whole text has
abbrev pub allowed : {A : Type 0} → Where → Option A → Option A
allowed w found = if w.constant then None else found

-- ---- a struct or a union from a place of its own type (C11 6.5.16.1p1)

abbrev pub copied_from : Types → ℕ → Judged → Option Place
copied_from types kind right = if (kind == right.kind) && has_size types kind then as_place right.tree else None

abbrev pub copy : Where → ℕ → State → Judged → Judged → Answer (Operand × State)
copy w here s left right =
    or_mismatch here (allowed w (copied_from s.types left.kind right)) >>= λ from. wanted_place here left.tree >>= λ to.
    Ok (unknown (v.Copy (at w.line left.kind) to from) left.kind, s)

-- ---- scalars: the value is converted to the type of the place

abbrev pub store : Where → ℕ → Judged → Operand × State → Answer (Operand × State)
store w here left x =
    or_mismatch here (allowed w (converted x.1.types w.line left.kind x.0)) >>= λ y. wanted_place here left.tree >>= λ to.
    Ok (unknown (v.Assign (at w.line left.kind) to y.value) left.kind, x.1)

-- `place = value`
unfoldable pub assigned : Where → ℕ → State → Judged → Judged → Answer (Operand × State)
assigned w here s left right =
    if is_aggregate s.types left.kind then copy w here s left right else store w here left (valued w.line s right)

-- ---- with an operator (C11 6.5.16.2)

-- a number of a type: it is computed in the common type, at a shift in the promoted one
abbrev pub number_updating : Operator → ℕ → Seen → Updating
number_updating operator kind x =
    if is_shift operator then updating.Number operator (promoted kind) (to_whole (promoted x.kind) x)
    else updating.Number operator (usual kind x.kind) (to_whole (usual kind x.kind) x)

abbrev pub pointer_updating : Option Step → Option Updating
pointer_updating (Some step) = Some (updating.Pointer step)
pointer_updating None = None

-- two whole numbers, or a pointer that a whole number moves
unfoldable pub updating_of : Types → Operator → ℕ → Seen → Option Updating
updating_of types operator kind x =
    if is_whole kind && is_whole x.kind then Some (number_updating operator kind x)
    else if is_some (sized_target types kind) && is_whole x.kind then pointer_updating (step_of operator)
    else None

abbrev pub updated_value : ℕ → ℕ → Updating → Operand → Place → Value
updated_value line kind (updating.Number operator computing right) x to =
    v.Update (at line kind) operator computing to (changed line right x).value
updated_value line kind (updating.Pointer step) x to = v.UpdatePointer (at line kind) step to x.value

-- `place op= value`
unfoldable pub updated : Where → ℕ → Operator → Judged → Operand × State → Answer (Operand × State)
updated w here operator left x =
    or_mismatch here (allowed w (updating_of x.1.types operator left.kind (seen x.0))) >>= λ how. wanted_place here left.tree >>= λ to.
    Ok (unknown (updated_value w.line left.kind how x.0 to) left.kind, x.1)

-- ---- `++` and `--`, before and behind a place (C11 6.5.2.4p1, 6.5.3.1p1)

unfoldable pub stepping_of : Types → ℕ → Option Stepping
stepping_of types kind =
    if is_whole kind then Some (stepping.Number (promoted kind)) else some_if (is_some (sized_target types kind)) stepping.Pointer

abbrev pub stepped_value : ℕ → ℕ → Step → Fixity → Stepping → Place → Value
stepped_value line kind step fixity (stepping.Number computing) to = v.Step (at line kind) step fixity computing to
stepped_value line kind step fixity stepping.Pointer to = v.StepPointer (at line kind) step fixity to

unfoldable pub stepped : Where → ℕ → Step → Fixity → State → Judged → Answer (Operand × State)
stepped w here step fixity s left =
    or_mismatch here (allowed w (stepping_of s.types left.kind)) >>= λ how. wanted_place here left.tree >>= λ to.
    Ok (unknown (stepped_value w.line left.kind step fixity how to) left.kind, s)
