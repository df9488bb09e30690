-- What stands in a declarator, and the type that its parts make (C11 6.7.6).
use Rattle.std.specs.Prelude.{ℕ, nat_lt, Bool, true, false, List, [], ◌∷◌, ◌++◌, length, map, reverse, Option, Some, None, is_some, Ok}
use Rattle.std.specs.Prelude.{if◌then◌else◌}
use Rattle.c_types.specs.declared.kinds.TypeError.TheVariants as e
use Rattle.c_types.specs.Shapes.{is_open}
use Rattle.c_types.specs.Table.{Types, shape_of}
use Rattle.c_types.specs.Adding.{array_fault, open_fault}
use Rattle.c_tree.specs.declared.limits.TheConstants.{MAX_PARAMETERS}
use Rattle.c_tree.specs.declared.program.Variable.{Variable}
use Rattle.well_typed.specs.Kinds.{element, is_aggregate, has_size}
use Rattle.static_rules.specs.declared.faults.CheckKind.TheVariants as why
use Rattle.static_rules.specs.declared.faults.Feature.TheVariants as feature
use Rattle.static_rules.specs.Answers.{Answer, ◌>>=◌, fault, unless_bad}
use Rattle.static_rules.specs.Operands.{pointer_to, in_table}
use Rattle.static_rules.specs.declared.states.State.{State}
use Rattle.static_rules.specs.declared.states.Made.TheVariants as m
use Rattle.static_rules.specs.declared.states.Made.{Made}
use Rattle.declaration_rules.specs.declared.parts.Around.{Around}
use Rattle.declaration_rules.specs.declared.parts.ParameterList.{ParameterList}
use Rattle.declaration_rules.specs.declared.parts.Part.{Part}
use Rattle.declaration_rules.specs.declared.parts.Part.TheVariants as part

-- ---- what stands in a declarator

abbrev pub around : Part → Around → Around
around one inner = record { name = inner.name; parts = inner.parts ++ one ∷ [] }

abbrev pub list_of : Part → Option ParameterList
list_of (part.Function line list) = Some list
list_of (part.Pointer line) = None
list_of (part.Array line count) = None
list_of (part.OpenArray line) = None

-- the list of parameters directly behind the name
abbrev pub own_list : List Part → Option ParameterList
own_list [] = None
own_list (first ∷ rest) = list_of first

-- the parts declare a function (C11 6.7.6.3), or are none around a function type
abbrev pub declares_function : List Part → Made → Bool
declares_function [] (m.Function signature) = true
declares_function [] (m.Known kind) = false
declares_function [] (m.Array of count) = false
declares_function [] (m.Open of) = false
declares_function (first ∷ rest) base = is_some (list_of first)

-- ---- types that are made

abbrev pub as_known : ℕ × State → Made × State
as_known r = (m.Known r.0, r.1)

-- C11 6.7.6.1
abbrev pub pointed : ℕ × State → Made × State
pointed of = as_known (pointer_to of.1 of.0)

-- C11 6.7.6.2p1: elements have a size
abbrev pub array_of : ℕ → ℕ → ℕ × State → Answer (Made × State)
array_of here count of = unless_bad here (array_fault (shape_of of.1.types of.0) count) (m.Array of.0 count, of.1)

abbrev pub open_array_of : ℕ → ℕ × State → Answer (Made × State)
open_array_of here of = unless_bad here (open_fault (shape_of of.1.types of.0)) (m.Open of.0, of.1)

abbrev pub kinds_of : List Variable → List ℕ
kinds_of variables = map (λ (variable : Variable). variable.kind) variables

-- A function gives no array (C11 6.7.6.3p1), here no struct or union, and takes at most 16 parameters.
abbrev pub function_of : ℕ → ParameterList → State → ℕ → Answer (Made × State)
function_of here list s kind =
    if is_some (element s.types kind) then fault why.TypeMismatch here
    else if is_aggregate s.types kind then fault (why.LeftOut feature.StructValue) here
    else if nat_lt MAX_PARAMETERS (length list.variables) then fault why.Limit here
    else Ok (m.Function (record { result = kind; parameters = kinds_of list.variables }), s)

-- A part around what the parts outside it make. No pointer leads to a function here, and there are no arrays of
-- functions and no functions that give functions (C11 6.7.6.2p1, 6.7.6.3p1).
unfoldable pub made_by : State → Part → Made → Answer (Made × State)
made_by s (part.Pointer here) (m.Function signature) = fault (why.LeftOut feature.FunctionPointer) here
made_by s (part.Pointer here) of = Ok (pointed (in_table s of))
made_by s (part.Array here count) (m.Function signature) = fault why.TypeMismatch here
made_by s (part.Array here count) of = array_of here count (in_table s of)
made_by s (part.OpenArray here) (m.Function signature) = fault why.TypeMismatch here
made_by s (part.OpenArray here) of = open_array_of here (in_table s of)
made_by s (part.Function here list) (m.Known kind) = function_of here list s kind
made_by s (part.Function here list) (m.Array of count) = fault why.TypeMismatch here
made_by s (part.Function here list) (m.Open of) = fault why.TypeMismatch here
made_by s (part.Function here list) (m.Function signature) = fault why.TypeMismatch here

abbrev pub made_from : State → List Part → Made → Answer (Made × State)
made_from s [] base = Ok (base, s)
made_from s (outer ∷ inner) base = made_by s outer base >>= λ r. made_from r.1 inner r.0

-- The type of a name is made from the outside to the name. The outermost type is in no table yet where it is an array.
unfoldable pub made : State → List Part → Made → Answer (Made × State)
made s parts base = made_from s (reverse parts) base

-- ---- types of parameters (C11 6.7.6.3p7 and p8): an array is a pointer, and functions, structs and unions are left
-- out

-- a parameter has a size
abbrev pub sized_parameter : ℕ → State → ℕ → Answer (ℕ × State)
sized_parameter here s kind =
    if is_aggregate s.types kind then fault (why.LeftOut feature.StructValue) here
    else if has_size s.types kind then Ok (kind, s) else fault (why.BadType e.Incomplete) here

abbrev pub adjusted_by : ℕ → State → ℕ → Option ℕ → Answer (ℕ × State)
adjusted_by here s kind (Some of) = Ok (pointer_to s of)
adjusted_by here s kind None = sized_parameter here s kind

unfoldable pub adjusted : ℕ → State → Made → Answer (ℕ × State)
adjusted here s (m.Function signature) = fault (why.LeftOut feature.FunctionPointer) here
adjusted here s (m.Array of count) = Ok (pointer_to s of)
adjusted here s (m.Open of) = Ok (pointer_to s of)
adjusted here s (m.Known kind) = adjusted_by here s kind (element s.types kind)

-- ---- arrays without a size

abbrev pub element_if_open : Types → ℕ → Option ℕ
element_if_open types kind = if is_open (shape_of types kind) then element types kind else None

-- the type of the elements, of an array without a size alone
unfoldable pub open_element : Types → Made → Option ℕ
open_element types (m.Open of) = Some of
open_element types (m.Known kind) = element_if_open types kind
open_element types (m.Array of count) = None
open_element types (m.Function signature) = None
