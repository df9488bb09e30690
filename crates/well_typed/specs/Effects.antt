-- Calls, assignments, `++` and `--` in a tree, which the initialiser of a global may not have.
--
-- Places and values lead to one another. A step looks at one layer, in which each part is whether it has one.
use Rattle.std.specs.Prelude.{Bool, true, false, ◌||◌, List, [], ◌∷◌}
use Rattle.c_tree.specs.declared.statements.Initial.{Initial}
use Rattle.c_tree.specs.declared.statements.Initial.TheVariants as initial
use Rattle.c_tree.specs.declared.values.Place.{Place, Place-F, fold-Place}
use Rattle.c_tree.specs.declared.values.Value.{Value, Value-F, fold-Value}

abbrev pub any_of : List Bool → Bool
any_of [] = false
any_of (one ∷ rest) = one || any_of rest

abbrev pub place_acts : Place-F Bool Bool → Bool
place_acts (Place-F.Variable at number) = false
place_acts (Place-F.Global at number) = false
place_acts (Place-F.Literal at number) = false
place_acts (Place-F.Dereference at pointer) = pointer
place_acts (Place-F.Index at pointer index) = pointer || index
place_acts (Place-F.IndexFirst at index pointer) = index || pointer
place_acts (Place-F.Member at place offset) = place
place_acts (Place-F.Arrow at pointer offset) = pointer
place_acts (Place-F.Element at place before) = place

abbrev pub value_acts : Value-F Bool Bool → Bool
value_acts (Value-F.Number at number) = false
value_acts (Value-F.Null at) = false
value_acts (Value-F.Load at place) = place
value_acts (Value-F.Decay at place) = place
value_acts (Value-F.Address at place) = place
value_acts (Value-F.Mention at place) = place
value_acts (Value-F.Convert at how value) = value
value_acts (Value-F.NullPointer at how value) = value
value_acts (Value-F.KeepPointer at how value) = value
value_acts (Value-F.CheckPointer at how value) = value
value_acts (Value-F.Discard at value) = value
value_acts (Value-F.Unary at operator value) = value
value_acts (Value-F.Binary at operator left right) = left || right
value_acts (Value-F.Compare at comparison left right) = left || right
value_acts (Value-F.ComparePointers at comparison left right) = left || right
value_acts (Value-F.Advance at pointer index) = pointer || index
value_acts (Value-F.AdvanceFirst at index pointer) = index || pointer
value_acts (Value-F.Retreat at pointer index) = pointer || index
value_acts (Value-F.Difference at left right) = left || right
value_acts (Value-F.Not at value) = value
value_acts (Value-F.Logical at operator left right) = left || right
value_acts (Value-F.Conditional at test one other) = test || one || other
value_acts (Value-F.Comma at parts) = any_of parts
-- assignments (C11 6.5.16), `++` and `--` (6.5.2.4, 6.5.3.1)
value_acts (Value-F.Assign at place value) = true
value_acts (Value-F.Copy at to from) = true
value_acts (Value-F.Update at operator kind place value) = true
value_acts (Value-F.UpdatePointer at step place index) = true
value_acts (Value-F.Step at step fixity kind place) = true
value_acts (Value-F.StepPointer at step fixity place) = true
-- calls (C11 6.5.2.2)
value_acts (Value-F.Call at function arguments) = true
value_acts (Value-F.Allocate at element size) = true
value_acts (Value-F.AllocateMany at element count size) = true
value_acts (Value-F.Allocated at allocation) = true
value_acts (Value-F.Free at pointer) = true
value_acts (Value-F.CopyBytes at to from size) = true
value_acts (Value-F.FillBytes at to byte size) = true
value_acts (Value-F.StringLength at text) = true
value_acts (Value-F.PrintLine at text) = true
value_acts (Value-F.PrintByte at byte) = true
value_acts (Value-F.FetchAdd at pointer value) = true
value_acts (Value-F.Print at parts arguments) = true

unfoldable pub acts_in_place : Place → Bool
acts_in_place = fold-Place Bool Bool place_acts value_acts

unfoldable pub acts_in_value : Value → Bool
acts_in_value = fold-Value Bool Bool place_acts value_acts

abbrev pub acts_in_initial : Initial → Bool
acts_in_initial (initial.Value place value) = acts_in_place place || acts_in_value value
acts_in_initial (initial.Copy place from) = acts_in_place place || acts_in_place from
acts_in_initial (initial.Bytes place bytes) = acts_in_place place
