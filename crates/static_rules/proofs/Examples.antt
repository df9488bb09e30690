-- Worked examples of the rules: what they decide for operands of given types. Type 10 of this table is `int *`, 11 is `void *`, and
-- 12 is `char *`.
use Rattle.std.proofs.Common.{◌≡◌, refl, ℕ, List, [], ◌∷◌, ◌++◌}
use Rattle.std.specs.Prelude.{ℤ, pos, negsuc, Bool, true, false, Option, Some, None, Ok, Err}
use Rattle.c_types.specs.Table.{Types, basic_kinds, kind_of}
use Rattle.c_types.specs.declared.kinds.CType.TheVariants as t
use Rattle.c_tree.specs.declared.operators.Comparison.TheVariants as c
use Rattle.c_tree.specs.declared.operators.Fixity.TheVariants as fixity
use Rattle.c_tree.specs.declared.operators.LogicalOperator.TheVariants as l
use Rattle.c_tree.specs.declared.operators.Operator.TheVariants as o
use Rattle.c_tree.specs.declared.operators.Step.TheVariants as step
use Rattle.c_tree.specs.declared.operators.Written.TheVariants as written
use Rattle.c_tree.specs.declared.values.Value.TheVariants as v
use Rattle.static_rules.specs.declared.faults.CheckKind.TheVariants as why
use Rattle.static_rules.specs.declared.faults.Feature.TheVariants as feature
use Rattle.static_rules.specs.declared.judged.Arguments.{Arguments}
use Rattle.static_rules.specs.declared.judged.Judged.{Judged}
use Rattle.static_rules.specs.declared.judged.Known.{Known}
use Rattle.static_rules.specs.declared.judged.Known.TheVariants as known
use Rattle.static_rules.specs.declared.judged.Operand.{Operand}
use Rattle.static_rules.specs.declared.plans.Change.TheVariants as change
use Rattle.static_rules.specs.declared.plans.Joint.TheVariants as joint
use Rattle.static_rules.specs.declared.plans.Seen.{Seen}
use Rattle.well_typed.specs.Kinds.{promoted, usual, wrapped, target, sized_target, has_size, is_scalar, is_void_pointer, is_aggregate}
use Rattle.well_typed.specs.Surroundings.{at}
use Rattle.static_rules.specs.Answers.{Answer, fault}
use Rattle.static_rules.specs.Calls.{answered}
use Rattle.static_rules.specs.Casts.{cast, planned_cast}
use Rattle.static_rules.specs.Changes.{assigned, stepped, stepping_of}
use Rattle.static_rules.specs.Constants.{known_binary, known_comparison, known_logical, known_conditional, known_unary}
use Rattle.static_rules.specs.Operands.{operand, value, conversion, converted, changed, valued}
use Rattle.static_rules.specs.Operators.{sized, unary, conditional, common}
use Rattle.static_rules.specs.Places.{address}
use Rattle.static_rules.specs.Plans.{planned, plan, sum, difference, equal, equal_pointers, ordered, computed, compared, logical}
use Rattle.static_rules.specs.Sorts.{Arithmetic, Shift, Sum, Difference, Equality, Order, Logical}
use Rattle.static_rules.specs.declared.states.State.{State}
use Rattle.whole_numbers.specs.Operators.{outcome, unary_outcome}
use Rattle.whole_numbers.specs.Types as w
use Rattle.c_types.specs.Table.{shape_of}
use Rattle.static_rules.specs.declared.states.Where.{Where}

abbrev types : Types
types = record { kinds = basic_kinds ++ t.Pointer 6 ∷ t.Pointer 1 ∷ t.Pointer 2 ∷ []; tags = [] }

abbrev state : State
state = record {
  types = types;
  symbols = [];
  tags = [];
  functions = [];
  globals = [];
  defined = 0;
  variables = [];
  block = [];
  open_element = 0;
  literals = [];
  bytes = 0;
}

abbrev in_function : Where
in_function = record { line = 3; names_before = 0; tags_before = 0; unevaluated = false; constant = false; in_function = true }

-- an operand of a type
abbrev a : ℕ → Seen
a kind = record { kind = kind; known = known.Nothing; allocates = false }

-- a constant of a type
abbrev is : ℕ → ℤ → Seen
is kind n = record { kind = kind; known = known.Number n; allocates = false }

-- ---- whole numbers

-- `1 + 2` is 3
sum_of_constants : planned types Sum (is 6 (pos 1)) (is 6 (pos 2)) ≡
    Some (plan change.Stay change.Stay (joint.Binary o.Add) 6 (known.Number (pos 3)))
unfolding planned sum computed usual wrapped known_binary outcome w.common w.wrapped
sum_of_constants = refl

-- a char is promoted
sum_with_char : planned types Sum (a 2) (a 6) ≡ Some (plan (change.Whole 6) change.Stay (joint.Binary o.Add) 6 known.Nothing)
unfolding planned sum computed usual known_binary w.common
sum_with_char = refl

-- an int beside an unsigned int becomes one: `1u - 2` is 4294967295
wraps : planned types Difference (is 7 (pos 1)) (is 6 (pos 2)) ≡
    Some (plan change.Stay (change.Whole 7) (joint.Binary o.Subtract) 7 (known.Number (pos 4294967295)))
unfolding planned difference computed usual wrapped known_binary outcome w.common w.wrapped
wraps = refl

-- a long has all numbers of an unsigned int
long_with_unsigned : planned types (Arithmetic o.Multiply) (a 7) (a 8) ≡
    Some (plan (change.Whole 8) change.Stay (joint.Binary o.Multiply) 8 known.Nothing)
unfolding planned computed usual known_binary w.common
long_with_unsigned = refl

-- `1 / 0` has no value
division_traps : planned types (Arithmetic o.Divide) (is 6 (pos 1)) (is 6 (pos 0)) ≡
    Some (plan change.Stay change.Stay (joint.Binary o.Divide) 6 known.Traps)
unfolding planned computed usual wrapped known_binary outcome w.common w.wrapped
division_traps = refl

-- each operand of a shift is promoted by itself
shift_of_long : planned types (Shift o.ShiftLeft) (a 8) (a 2) ≡
    Some (plan change.Stay (change.Whole 6) (joint.Binary o.ShiftLeft) 8 known.Nothing)
unfolding planned computed promoted known_binary
shift_of_long = refl

-- `-1 < 1u` is 0
signs_mix : planned types (Order c.Less) (is 6 (negsuc 0)) (is 7 (pos 1)) ≡
    Some (plan (change.Whole 7) change.Stay (joint.Compare c.Less) 6 (known.Number (pos 0)))
unfolding planned ordered compared usual wrapped known_comparison outcome w.common w.wrapped
signs_mix = refl

-- `1 || 1 / 0` is 1, and `0 || 1 / 0` has no value
left_decides : known_logical l.Or (known.Number (pos 1)) known.Traps ≡ known.Number (pos 1)
unfolding known_logical
left_decides = refl

right_traps : known_logical l.Or (known.Number (pos 0)) known.Traps ≡ known.Traps
unfolding known_logical
right_traps = refl

-- a part of `?:` that is not evaluated does not trap, but an object there is no constant
other_part : known_conditional (known.Number (pos 0)) known.Traps (known.Number (pos 2)) ≡ known.Number (pos 2)
unfolding known_conditional
other_part = refl

no_constant : known_conditional (known.Number (pos 0)) known.Nothing (known.Number (pos 2)) ≡ known.Nothing
unfolding known_conditional
no_constant = refl

-- ---- pointers

-- `p + 1` and `1 + p`
pointer_first : planned types Sum (a 10) (a 6) ≡ Some (plan change.Stay change.Stay joint.Advance 10 known.Nothing)
unfolding planned sum sized_target target has_size shape_of
pointer_first = refl

index_first : planned types Sum (a 6) (a 10) ≡ Some (plan change.Stay change.Stay joint.AdvanceFirst 10 known.Nothing)
unfolding planned sum sized_target target has_size shape_of
index_first = refl

-- what two pointers are apart is a long
apart : planned types Difference (a 10) (a 10) ≡ Some (plan change.Stay change.Stay joint.Difference 8 known.Nothing)
unfolding planned difference sized_target target has_size shape_of
apart = refl

-- a `void *` is not moved
void_stays : planned types Sum (a 11) (a 6) ≡ None
unfolding planned sum sized_target target has_size shape_of
void_stays = refl

-- `p == 0`
null_compared : planned types (Equality c.Equal) (a 10) (is 6 (pos 0)) ≡
    Some (plan change.Stay (change.Null 10) (joint.ComparePointers c.Equal) 6 known.Nothing)
unfolding planned equal equal_pointers target
null_compared = refl

-- an `int *` beside a `void *`, and beside a `char *`
void_compared : planned types (Equality c.NotEqual) (a 10) (a 11) ≡
    Some (plan (change.Keep 11) change.Stay (joint.ComparePointers c.NotEqual) 6 known.Nothing)
unfolding planned equal equal_pointers target is_void_pointer
void_compared = refl

others_differ : planned types (Equality c.Equal) (a 10) (a 12) ≡ None
unfolding planned equal equal_pointers target is_void_pointer
others_differ = refl

-- `p < 0`
no_order_with_null : planned types (Order c.Less) (a 10) (is 6 (pos 0)) ≡ None
unfolding planned ordered sized_target target has_size shape_of
no_order_with_null = refl

-- ---- conversions as by assignment to `int *`

from_void_pointer : conversion types 10 (a 11) ≡ Some (change.Check 10)
unfolding conversion target
from_void_pointer = refl

from_malloc : conversion types 10 (record { kind = 11; known = known.Nothing; allocates = true }) ≡ Some (change.Allocate 10 6)
unfolding conversion target has_size shape_of
from_malloc = refl

from_zero : conversion types 10 (is 6 (pos 0)) ≡ Some (change.Null 10)
unfolding conversion target
from_zero = refl

from_other_pointer : conversion types 10 (a 12) ≡ None
unfolding conversion target
from_other_pointer = refl

from_one : conversion types 10 (is 6 (pos 1)) ≡ None
unfolding conversion target
from_one = refl

-- ---- nodes

abbrev number : ℕ → ℕ → Operand
number kind n = operand (v.Number (at 3 kind) (pos n)) kind (known.Number (pos n))

-- `(void *)0` is a null pointer constant, `(int *)0` a pointer alone
null_as_void : cast types 3 4 11 (number 6 0) ≡ Ok (operand (v.NullPointer (at 3 11) written.Cast (v.Number (at 3 6) (pos 0))) 11 known.NullPointer)
unfolding cast planned_cast target
null_as_void = refl

null_as_pointer : cast types 3 4 10 (number 6 0) ≡ Ok (operand (v.NullPointer (at 3 10) written.Cast (v.Number (at 3 6) (pos 0))) 10 known.Nothing)
unfolding cast planned_cast target
null_as_pointer = refl

-- `(int *)1`
number_as_pointer : cast types 3 4 10 (number 6 1) ≡ fault (why.LeftOut feature.PointerNumber) 4
unfolding cast planned_cast target
number_as_pointer = refl

-- `sizeof (int *)` is 8 of type unsigned long, and void has no size
size_of_pointer : sized 3 4 state 10 ≡ Ok (value (number 9 8), state)
unfolding sized has_size shape_of
size_of_pointer = refl

no_size_of_void : sized 3 4 state 1 ≡ fault why.TypeMismatch 4
unfolding sized has_size shape_of
no_size_of_void = refl

-- `++1`
no_place_to_step : stepped in_function 4 step.Increment fixity.Prefix state (value (number 6 1)) ≡ fault why.NotAPlace 4
unfolding stepped stepping_of
no_place_to_step = refl

-- `&1`
no_place_to_address : address 3 4 state (value (number 6 1)) ≡ fault why.NotAPlace 4
unfolding address
no_place_to_address = refl

-- a wrong argument comes before a wrong number of them
misfit_first : answered in_function 4 state (record { values = []; misfit = true; as_many = false }) ≡ fault why.TypeMismatch 4
misfit_first = refl

wrong_number : answered in_function 4 state (record { values = []; misfit = false; as_many = false }) ≡ fault why.BadCall 4
wrong_number = refl
