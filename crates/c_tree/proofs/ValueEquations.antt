-- The nodes of a place or a value are itself and those of its parts: an equation for each variant.
use Rattle.std.proofs.Common.{◌≡◌, ℕ, ℤ, ◌+◌, List, sym, ap, ◌∙◌}
use Rattle.std.proofs.lemmas.List.Sums.{sum-map}
use Rattle.c_print.specs.declared.parts.Part.{Part}
use Rattle.c_tree.specs.declared.operators.Operator.{Operator}
use Rattle.c_tree.specs.declared.operators.Comparison.{Comparison}
use Rattle.c_tree.specs.declared.operators.LogicalOperator.{LogicalOperator}
use Rattle.c_tree.specs.declared.operators.UnaryOperator.{UnaryOperator}
use Rattle.c_tree.specs.declared.operators.Step.{Step}
use Rattle.c_tree.specs.declared.operators.Fixity.{Fixity}
use Rattle.c_tree.specs.declared.operators.Written.{Written}
use Rattle.c_tree.specs.declared.values.At.{At}
use Rattle.c_tree.specs.declared.values.Place.{Place, Place-F, roll-Place, map-Place, fold-roll-Place}
use Rattle.c_tree.specs.declared.values.Place.TheVariants as p
use Rattle.c_tree.specs.declared.values.Value.{Value, Value-F, roll-Value, map-Value, fold-roll-Value}
use Rattle.c_tree.specs.declared.values.Value.TheVariants as v
use Rattle.c_tree.specs.Counts.{place_step, value_step, nodes_of_conversion, count_of_place, count_of_value, nodes_of_place, nodes_of_value, nodes_of_values}

-- ---- any layer

place_is : (x : Place-F Place Value) (one : Place) → roll-Place x ≡ one →
    nodes_of_place one ≡ place_step 0 (map-Place Place Value ℕ ℕ nodes_of_place nodes_of_value x)
unfolding count_of_place count_of_value
place_is x one is = ap nodes_of_place (sym is) ∙ fold-roll-Place ℕ ℕ (place_step 0) (value_step 0) x

value_is : (x : Value-F Place Value) (one : Value) → roll-Value x ≡ one →
    nodes_of_value one ≡ value_step 0 (map-Value Place Value ℕ ℕ nodes_of_place nodes_of_value x)
unfolding count_of_place count_of_value
value_is x one is = ap nodes_of_value (sym is) ∙ fold-roll-Value ℕ ℕ (place_step 0) (value_step 0) x

-- ---- places

pub place_variable : (at : At) (number : ℕ) → nodes_of_place (p.Variable at number) ≡ 1
place_variable at number = place_is _ _ (p.rolls-Variable at number)

pub place_global : (at : At) (number : ℕ) → nodes_of_place (p.Global at number) ≡ 1
place_global at number = place_is _ _ (p.rolls-Global at number)

pub place_literal : (at : At) (number : ℕ) → nodes_of_place (p.Literal at number) ≡ 1
place_literal at number = place_is _ _ (p.rolls-Literal at number)

pub place_dereference : (at : At) (pointer : Value) →
    nodes_of_place (p.Dereference at pointer) ≡ 1 + nodes_of_value pointer
place_dereference at pointer = place_is _ _ (p.rolls-Dereference at pointer)

pub place_index : (at : At) (pointer : Value) (index : Value) →
    nodes_of_place (p.Index at pointer index) ≡ 1 + nodes_of_value pointer + nodes_of_value index
place_index at pointer index = place_is _ _ (p.rolls-Index at pointer index)

pub place_index_first : (at : At) (index : Value) (pointer : Value) →
    nodes_of_place (p.IndexFirst at index pointer) ≡ 1 + nodes_of_value index + nodes_of_value pointer
place_index_first at index pointer = place_is _ _ (p.rolls-IndexFirst at index pointer)

pub place_member : (at : At) (place : Place) (offset : ℕ) →
    nodes_of_place (p.Member at place offset) ≡ 1 + nodes_of_place place
place_member at place offset = place_is _ _ (p.rolls-Member at place offset)

pub place_arrow : (at : At) (pointer : Value) (offset : ℕ) →
    nodes_of_place (p.Arrow at pointer offset) ≡ 1 + nodes_of_value pointer
place_arrow at pointer offset = place_is _ _ (p.rolls-Arrow at pointer offset)

pub place_element : (at : At) (place : Place) (before : ℕ) →
    nodes_of_place (p.Element at place before) ≡ 0 + nodes_of_place place
place_element at place before = place_is _ _ (p.rolls-Element at place before)

-- ---- values

pub value_number : (at : At) (number : ℤ) → nodes_of_value (v.Number at number) ≡ 1
value_number at number = value_is _ _ (v.rolls-Number at number)

pub value_null : (at : At) → nodes_of_value (v.Null at) ≡ 1
value_null at = value_is _ _ (v.rolls-Null at)

pub value_load : (at : At) (place : Place) → nodes_of_value (v.Load at place) ≡ 0 + nodes_of_place place
value_load at place = value_is _ _ (v.rolls-Load at place)

pub value_decay : (at : At) (place : Place) → nodes_of_value (v.Decay at place) ≡ 0 + nodes_of_place place
value_decay at place = value_is _ _ (v.rolls-Decay at place)

pub value_address : (at : At) (place : Place) → nodes_of_value (v.Address at place) ≡ 1 + nodes_of_place place
value_address at place = value_is _ _ (v.rolls-Address at place)

pub value_mention : (at : At) (place : Place) → nodes_of_value (v.Mention at place) ≡ 0 + nodes_of_place place
value_mention at place = value_is _ _ (v.rolls-Mention at place)

pub value_convert : (at : At) (how : Written) (value : Value) →
    nodes_of_value (v.Convert at how value) ≡ nodes_of_conversion how + nodes_of_value value
value_convert at how value = value_is _ _ (v.rolls-Convert at how value)

pub value_null_pointer : (at : At) (how : Written) (value : Value) →
    nodes_of_value (v.NullPointer at how value) ≡ nodes_of_conversion how + nodes_of_value value
value_null_pointer at how value = value_is _ _ (v.rolls-NullPointer at how value)

pub value_keep_pointer : (at : At) (how : Written) (value : Value) →
    nodes_of_value (v.KeepPointer at how value) ≡ nodes_of_conversion how + nodes_of_value value
value_keep_pointer at how value = value_is _ _ (v.rolls-KeepPointer at how value)

pub value_check_pointer : (at : At) (how : Written) (value : Value) →
    nodes_of_value (v.CheckPointer at how value) ≡ nodes_of_conversion how + nodes_of_value value
value_check_pointer at how value = value_is _ _ (v.rolls-CheckPointer at how value)

pub value_discard : (at : At) (value : Value) → nodes_of_value (v.Discard at value) ≡ 1 + nodes_of_value value
value_discard at value = value_is _ _ (v.rolls-Discard at value)

pub value_unary : (at : At) (operator : UnaryOperator) (value : Value) →
    nodes_of_value (v.Unary at operator value) ≡ 1 + nodes_of_value value
value_unary at operator value = value_is _ _ (v.rolls-Unary at operator value)

pub value_binary : (at : At) (operator : Operator) (left : Value) (right : Value) →
    nodes_of_value (v.Binary at operator left right) ≡ 1 + nodes_of_value left + nodes_of_value right
value_binary at operator left right = value_is _ _ (v.rolls-Binary at operator left right)

pub value_compare : (at : At) (comparison : Comparison) (left : Value) (right : Value) →
    nodes_of_value (v.Compare at comparison left right) ≡ 1 + nodes_of_value left + nodes_of_value right
value_compare at comparison left right = value_is _ _ (v.rolls-Compare at comparison left right)

pub value_compare_pointers : (at : At) (comparison : Comparison) (left : Value) (right : Value) →
    nodes_of_value (v.ComparePointers at comparison left right) ≡ 1 + nodes_of_value left + nodes_of_value right
value_compare_pointers at comparison left right = value_is _ _ (v.rolls-ComparePointers at comparison left right)

pub value_advance : (at : At) (pointer : Value) (index : Value) →
    nodes_of_value (v.Advance at pointer index) ≡ 1 + nodes_of_value pointer + nodes_of_value index
value_advance at pointer index = value_is _ _ (v.rolls-Advance at pointer index)

pub value_advance_first : (at : At) (index : Value) (pointer : Value) →
    nodes_of_value (v.AdvanceFirst at index pointer) ≡ 1 + nodes_of_value index + nodes_of_value pointer
value_advance_first at index pointer = value_is _ _ (v.rolls-AdvanceFirst at index pointer)

pub value_retreat : (at : At) (pointer : Value) (index : Value) →
    nodes_of_value (v.Retreat at pointer index) ≡ 1 + nodes_of_value pointer + nodes_of_value index
value_retreat at pointer index = value_is _ _ (v.rolls-Retreat at pointer index)

pub value_difference : (at : At) (left : Value) (right : Value) →
    nodes_of_value (v.Difference at left right) ≡ 1 + nodes_of_value left + nodes_of_value right
value_difference at left right = value_is _ _ (v.rolls-Difference at left right)

pub value_not : (at : At) (value : Value) → nodes_of_value (v.Not at value) ≡ 1 + nodes_of_value value
value_not at value = value_is _ _ (v.rolls-Not at value)

pub value_logical : (at : At) (operator : LogicalOperator) (left : Value) (right : Value) →
    nodes_of_value (v.Logical at operator left right) ≡ 1 + nodes_of_value left + nodes_of_value right
value_logical at operator left right = value_is _ _ (v.rolls-Logical at operator left right)

pub value_conditional : (at : At) (test : Value) (first : Value) (second : Value) →
    nodes_of_value (v.Conditional at test first second)
    ≡ 1 + nodes_of_value test + nodes_of_value first + nodes_of_value second
value_conditional at test first second = value_is _ _ (v.rolls-Conditional at test first second)

pub value_comma : (at : At) (parts : List Value) → nodes_of_value (v.Comma at parts) ≡ 1 + nodes_of_values parts
value_comma at parts = value_is _ _ (v.rolls-Comma at parts) ∙ ap (λ n. 1 + n) (sum-map nodes_of_value parts)

pub value_assign : (at : At) (place : Place) (value : Value) →
    nodes_of_value (v.Assign at place value) ≡ 1 + nodes_of_place place + nodes_of_value value
value_assign at place value = value_is _ _ (v.rolls-Assign at place value)

pub value_copy : (at : At) (to : Place) (from : Place) →
    nodes_of_value (v.Copy at to from) ≡ 1 + nodes_of_place to + nodes_of_place from
value_copy at to from = value_is _ _ (v.rolls-Copy at to from)

pub value_update : (at : At) (operator : Operator) (kind : ℕ) (place : Place) (value : Value) →
    nodes_of_value (v.Update at operator kind place value) ≡ 1 + nodes_of_place place + nodes_of_value value
value_update at operator kind place value = value_is _ _ (v.rolls-Update at operator kind place value)

pub value_update_pointer : (at : At) (step : Step) (place : Place) (index : Value) →
    nodes_of_value (v.UpdatePointer at step place index) ≡ 1 + nodes_of_place place + nodes_of_value index
value_update_pointer at step place index = value_is _ _ (v.rolls-UpdatePointer at step place index)

pub value_single_step : (at : At) (step : Step) (fixity : Fixity) (kind : ℕ) (place : Place) →
    nodes_of_value (v.Step at step fixity kind place) ≡ 1 + nodes_of_place place
value_single_step at step fixity kind place = value_is _ _ (v.rolls-Step at step fixity kind place)

pub value_step_pointer : (at : At) (step : Step) (fixity : Fixity) (place : Place) →
    nodes_of_value (v.StepPointer at step fixity place) ≡ 1 + nodes_of_place place
value_step_pointer at step fixity place = value_is _ _ (v.rolls-StepPointer at step fixity place)

pub value_call : (at : At) (function : ℕ) (arguments : List Value) →
    nodes_of_value (v.Call at function arguments) ≡ 1 + nodes_of_values arguments
value_call at function arguments =
    value_is _ _ (v.rolls-Call at function arguments) ∙ ap (λ n. 1 + n) (sum-map nodes_of_value arguments)

pub value_allocate : (at : At) (element : ℕ) (size : Value) →
    nodes_of_value (v.Allocate at element size) ≡ 1 + nodes_of_value size
value_allocate at element size = value_is _ _ (v.rolls-Allocate at element size)

pub value_allocate_many : (at : At) (element : ℕ) (many : Value) (size : Value) →
    nodes_of_value (v.AllocateMany at element many size) ≡ 1 + nodes_of_value many + nodes_of_value size
value_allocate_many at element many size = value_is _ _ (v.rolls-AllocateMany at element many size)

pub value_allocated : (at : At) (allocation : Value) →
    nodes_of_value (v.Allocated at allocation) ≡ 1 + nodes_of_value allocation
value_allocated at allocation = value_is _ _ (v.rolls-Allocated at allocation)

pub value_free : (at : At) (pointer : Value) → nodes_of_value (v.Free at pointer) ≡ 1 + nodes_of_value pointer
value_free at pointer = value_is _ _ (v.rolls-Free at pointer)

pub value_copy_bytes : (at : At) (to : Value) (from : Value) (size : Value) →
    nodes_of_value (v.CopyBytes at to from size) ≡ 1 + nodes_of_value to + nodes_of_value from + nodes_of_value size
value_copy_bytes at to from size = value_is _ _ (v.rolls-CopyBytes at to from size)

pub value_fill_bytes : (at : At) (to : Value) (byte : Value) (size : Value) →
    nodes_of_value (v.FillBytes at to byte size) ≡ 1 + nodes_of_value to + nodes_of_value byte + nodes_of_value size
value_fill_bytes at to byte size = value_is _ _ (v.rolls-FillBytes at to byte size)

pub value_string_length : (at : At) (text : Value) → nodes_of_value (v.StringLength at text) ≡ 1 + nodes_of_value text
value_string_length at text = value_is _ _ (v.rolls-StringLength at text)

pub value_print_line : (at : At) (text : Value) → nodes_of_value (v.PrintLine at text) ≡ 1 + nodes_of_value text
value_print_line at text = value_is _ _ (v.rolls-PrintLine at text)

pub value_print_byte : (at : At) (byte : Value) → nodes_of_value (v.PrintByte at byte) ≡ 1 + nodes_of_value byte
value_print_byte at byte = value_is _ _ (v.rolls-PrintByte at byte)

pub value_fetch_add : (at : At) (pointer : Value) (value : Value) →
    nodes_of_value (v.FetchAdd at pointer value) ≡ 1 + nodes_of_value pointer + nodes_of_value value
value_fetch_add at pointer value = value_is _ _ (v.rolls-FetchAdd at pointer value)

pub value_print : (at : At) (parts : List Part) (arguments : List Value) →
    nodes_of_value (v.Print at parts arguments) ≡ 2 + nodes_of_values arguments
value_print at parts arguments =
    value_is _ _ (v.rolls-Print at parts arguments) ∙ ap (λ n. 2 + n) (sum-map nodes_of_value arguments)
