-- `sizeof`, operators before one operand, and `?:`. `line` is that of the statement, for the tree; `here` that of the node, for
-- faults.
use Rattle.std.specs.Prelude.{ℕ, ◌==◌, pos, Bool, true, false, ◌&&◌, ◌||◌, not, Option, Some, None, is_some, Result, Ok, Err, if◌then◌else◌}
use Rattle.c_types.specs.Shapes.{size}
use Rattle.c_types.specs.Table.{Types, shape_of}
use Rattle.c_tree.specs.declared.operators.UnaryOperator.{UnaryOperator}
use Rattle.c_tree.specs.declared.values.Value.TheVariants as v
use Rattle.static_rules.specs.declared.faults.CheckKind.{CheckKind}
use Rattle.static_rules.specs.declared.faults.CheckKind.TheVariants as why
use Rattle.static_rules.specs.declared.faults.Feature.TheVariants as feature
use Rattle.static_rules.specs.declared.judged.Judged.{Judged}
use Rattle.static_rules.specs.declared.judged.Operand.{Operand}
use Rattle.static_rules.specs.declared.judged.Known.{Known}
use Rattle.static_rules.specs.declared.judged.Known.TheVariants as known
use Rattle.static_rules.specs.declared.plans.Change.{Change}
use Rattle.static_rules.specs.declared.plans.Change.TheVariants as change
use Rattle.static_rules.specs.declared.plans.Choice.{Choice}
use Rattle.static_rules.specs.declared.plans.Seen.{Seen}
use Rattle.well_typed.specs.Kinds.{is_whole, promoted, usual, target, is_aggregate, is_scalar, is_void_pointer, has_size}
use Rattle.well_typed.specs.Surroundings.{at}
use Rattle.static_rules.specs.Answers.{Answer, ◌>>=◌, fault, or_mismatch}
use Rattle.static_rules.specs.Constants.{known_as, known_unary, known_not, known_conditional}
use Rattle.static_rules.specs.Operands.{operand, seen, is_null, to_whole, changed, conversion, some_if}
use Rattle.static_rules.specs.Primaries.{constant}
use Rattle.static_rules.specs.declared.states.State.{State}

-- ---- `sizeof` (C11 6.5.3.4)

abbrev pub sized : ℕ → ℕ → State → ℕ → Answer (Judged × State)
sized line here s kind =
    if has_size s.types kind then Ok (constant line 9 (pos (size (shape_of s.types kind))), s) else fault why.TypeMismatch here

-- ---- operators before one operand (C11 6.5.3.3)

abbrev pub unary_node : ℕ → UnaryOperator → ℕ → Operand → Operand
unary_node line operator kind x = operand (v.Unary (at line kind) operator x.value) kind (known_unary operator kind x.known)

-- of a whole number, which is promoted
unfoldable pub unary : ℕ → UnaryOperator → Operand → Option Operand
unary line operator x =
    if is_whole x.kind
    then Some (unary_node line operator (promoted x.kind) (changed line (to_whole (promoted x.kind) (seen x)) x)) else None

-- of a number or a pointer
unfoldable pub negated : Types → ℕ → Operand → Option Operand
negated types line x =
    if is_scalar types x.kind then Some (operand (v.Not (at line 6) x.value) 6 (known_not x.known)) else None

-- ---- `?:` (C11 6.5.15)

abbrev pub ok_or_mismatch : {A : Type 0} → Option A → Result A CheckKind
ok_or_mismatch (Some x) = Ok x
ok_or_mismatch None = Err why.TypeMismatch

-- the type of the whole, to which both are converted: of two numbers, two of type void, two pointers of one type, a pointer and a
-- null pointer constant, a `void *` and another pointer
unfoldable pub common : Types → Seen → Seen → Option ℕ
common types a b =
    if is_whole a.kind && is_whole b.kind then Some (usual a.kind b.kind)
    else if (a.kind == b.kind) && ((a.kind == 1) || is_some (target types a.kind)) then Some a.kind
    else if is_some (target types a.kind) && is_null b then Some a.kind
    else if is_null a && is_some (target types b.kind) then Some b.kind
    else if is_void_pointer types a.kind && is_some (target types b.kind) then Some a.kind
    else some_if (is_some (target types a.kind) && is_void_pointer types b.kind) b.kind

-- an operand that has the type stays as it is
abbrev pub to_common : Types → ℕ → Seen → Option Change
to_common types kind x = if x.kind == kind then Some change.Stay else conversion types kind x

abbrev pub known_changed : Change → Seen → Known
known_changed (change.Whole kind) x = known_as kind x.known
known_changed change.Stay x = x.known
known_changed _ x = known.Nothing

abbrev pub choice_of : ℕ → Known → Seen → Seen → Option Change → Option Change → Option Choice
choice_of kind test a b (Some left) (Some right) = Some (record {
  kind = kind;
  left = left;
  right = right;
  known = known_conditional test (known_changed left a) (known_changed right b);
})
choice_of kind test a b _ _ = None

abbrev pub choice_by : Types → Known → Seen → Seen → Option ℕ → Option Choice
choice_by types test a b (Some kind) = choice_of kind test a b (to_common types kind a) (to_common types kind b)
choice_by types test a b None = None

-- A number or a pointer decides between two operands; a struct or union among these is left out.
unfoldable pub planned_choice : Types → Seen → Seen → Seen → Result Choice CheckKind
planned_choice types test a b =
    if not (is_scalar types test.kind) then Err why.TypeMismatch
    else if is_aggregate types a.kind || is_aggregate types b.kind then Err (why.LeftOut feature.StructValue)
    else ok_or_mismatch (choice_by types test.known a b (common types a b))

abbrev pub chosen : ℕ → Choice → Operand → Operand → Operand → Operand
chosen line choice test a b =
    operand (v.Conditional (at line choice.kind) test.value (changed line choice.left a).value (changed line choice.right b).value)
    choice.kind choice.known

abbrev pub conditional_by : ℕ → ℕ → Operand → Operand → Operand → Result Choice CheckKind → Answer Operand
conditional_by line here test a b (Ok choice) = Ok (chosen line choice test a b)
conditional_by line here test a b (Err kind) = fault kind here

-- `test ? then : otherwise`
unfoldable pub conditional : ℕ → ℕ → Types → Operand → Operand → Operand → Answer Operand
conditional line here types test a b = conditional_by line here test a b (planned_choice types (seen test) (seen a) (seen b))
