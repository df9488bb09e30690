-- Declarations of one function or one object of the whole text (C11 6.2.2, 6.2.7): they agree, and one at most defines
-- it.
use Rattle.std.specs.Prelude.{ℕ, suc, ◌+◌, ◌==◌, Bool, true, false, ◌&&◌, ◌||◌, not, List, [], ◌∷◌, ◌++◌, length}
use Rattle.std.specs.Prelude.{Option, Some, None, is_some, Ok, Err, if◌then◌else◌}
use Rattle.c_types.specs.Shapes.{is_open}
use Rattle.c_types.specs.Table.{Types, shape_of}
use Rattle.well_typed.specs.Kinds.{element}
use Rattle.scoped_meanings.specs.Meanings.{meaning_placed, put_at}
use Rattle.static_rules.specs.declared.faults.CheckKind.TheVariants as why
use Rattle.static_rules.specs.Answers.{Answer, ◌>>=◌, fault, fault_if}
use Rattle.static_rules.specs.Predefined.{is_given}
use Rattle.static_rules.specs.Source.{Source}
use Rattle.static_rules.specs.States.{symbol_here}
use Rattle.static_rules.specs.declared.states.State.{State}
use Rattle.declaration_rules.specs.declared.declarations.Introduced.{Introduced}
use Rattle.static_rules.specs.States.{with_symbol}
use Rattle.static_rules.specs.declared.states.DeclaredFunction.{DeclaredFunction}
use Rattle.static_rules.specs.declared.states.GlobalSoFar.{GlobalSoFar}
use Rattle.static_rules.specs.declared.states.Made.TheVariants as m
use Rattle.static_rules.specs.declared.states.Made.{Made}
use Rattle.static_rules.specs.declared.states.Symbol.TheVariants as means
use Rattle.static_rules.specs.declared.states.Symbol.{Symbol}
use Rattle.static_rules.specs.declared.states.Where.{Where}
use Rattle.well_typed.specs.declared.signatures.Signature.{Signature}

-- ---- what a name was declared as before, in any scope

-- the function of a name, and its number in the order of first declarations
abbrev pub function_named : State → ℕ → Option (ℕ × DeclaredFunction)
function_named s name = meaning_placed s.functions name

-- the object of the whole text of a name, and its number
abbrev pub global_named : State → ℕ → Option (ℕ × GlobalSoFar)
global_named s name = meaning_placed s.globals name

-- in the innermost scope a name means nothing, or a function
abbrev pub only_function : Option Symbol → Bool
only_function None = true
only_function (Some (means.Function number)) = true
only_function (Some other) = false

abbrev pub only_global : Option Symbol → Bool
only_global None = true
only_global (Some (means.Global number)) = true
only_global (Some other) = false

-- With a fault in its type a declaration agrees with no earlier one.
abbrev pub agreeing : {A : Type 0} → Bool → ℕ → Answer A → Answer A
agreeing true here (Err reason) = fault why.Redefined here
agreeing true here (Ok found) = Ok found
agreeing false here answer = answer

-- ---- functions

abbrev pub same_kinds : List ℕ → List ℕ → Bool
same_kinds [] [] = true
same_kinds [] (other ∷ others) = false
same_kinds (kind ∷ kinds) [] = false
same_kinds (kind ∷ kinds) (other ∷ others) = (kind == other) && same_kinds kinds others

-- C11 6.7.6.3p15
abbrev pub same_signature : Signature → Signature → Bool
same_signature first second = (first.result == second.result) && same_kinds first.parameters second.parameters

-- the type of a function, where a declarator declares one
abbrev pub signature_of : ℕ → Made × State → Answer (Signature × State)
signature_of here (m.Function signature, s) = Ok (signature, s)
signature_of here (other, s) = fault why.TypeMismatch here

-- the place of a name among those of the functions that the text defines: that of its first definition
abbrev pub number_from : ℕ → List ℕ → ℕ → Option ℕ
number_from n [] name = None
number_from n (first ∷ rest) name = if first == name then Some n else number_from (n + 1) rest name

module _ (source : Source) (defined : List ℕ) where
  abbrev pub repeated_function : Introduced → ℕ → Signature → Signature × State → Answer (ℕ × State)
  repeated_function d number earlier (signature, s) =
      fault_if (not (same_signature signature earlier)) why.Redefined d.here >>= λ fine.
      Ok (number, with_symbol s d.name (means.Function number))

  abbrev pub with_function : Introduced → Signature → State → State
  with_function d signature s = record s {
    functions = s.functions ++ (
      d.name,
      record { signature = signature; number = number_from 0 defined d.name; defined = false },
    ) ∷ [];
  }

  abbrev pub first_function : Introduced → Signature × State → ℕ × State
  first_function d (signature, s) =
      (length s.functions, with_symbol (with_function d signature s) d.name (means.Function (length s.functions)))

  abbrev pub function_by : State → Introduced → Answer (Signature × State) → Option (ℕ × DeclaredFunction) → Answer (ℕ × State)
  function_by s d type (Some (number, earlier)) =
      agreeing true d.here type >>= repeated_function d number earlier.signature
  function_by s d type None =
      fault_if (is_some (global_named s d.name)) why.Redefined d.here >>= λ new. type >>= λ found.
      Ok (first_function d found)

  -- A function is declared, once more where the types agree: its number. (The type is an answer, since a name that may
  -- not be declared there is told before a fault of its type.)
  unfoldable pub function : Where → State → Introduced → Answer (Signature × State) → Answer (ℕ × State)
  function w s d type =
      fault_if (is_given source d.name || not (only_function (symbol_here w s d.name))) why.Redefined d.here >>= λ fine.
      function_by s d type (function_named s d.name)

-- ---- objects of the whole text

abbrev pub same_element : Option ℕ → Option ℕ → Bool
same_element (Some of) (Some other) = of == other
same_element (Some of) None = false
same_element None other = false

abbrev pub lacks_size : Types → ℕ → Bool
lacks_size types kind = is_open (shape_of types kind)

-- Types of one object are equal, or those of arrays of one element type, of which one lacks its size (C11 6.2.7p1,
-- 6.7.6.2p6).
unfoldable pub same_object : Types → ℕ → ℕ → Bool
same_object types kind other =
    (kind == other)
    || (lacks_size types kind || lacks_size types other) && same_element (element types kind) (element types other)

-- the size that one of them has is that of the object (C11 6.2.7p3)
abbrev pub composite : Types → ℕ → ℕ → ℕ
composite types kind other = if lacks_size types kind then other else kind

abbrev pub order_of : Bool → ℕ → Option ℕ → Option ℕ
order_of true next before = Some next
order_of false next before = before

abbrev pub more_defined : Bool → ℕ → ℕ
more_defined true n = suc n
more_defined false n = n

abbrev pub line_if : Bool → ℕ → ℕ → ℕ
line_if true line before = line
line_if false line before = before

-- one more declaration of an object: the line of the declaration that defines it counts
abbrev pub declared_again : Where → State → Bool → ℕ → GlobalSoFar → GlobalSoFar
declared_again w s defines kind earlier = record earlier {
  kind = kind;
  line = line_if defines w.line earlier.line;
  order = order_of defines s.defined earlier.order;
}

abbrev pub declared_first : Where → State → Bool → Introduced → ℕ → GlobalSoFar
declared_first w s defines d kind = record {
  kind = kind;
  line = w.line;
  named_at = d.here;
  order = order_of defines s.defined None;
  initial = [];
}

abbrev pub with_globals : State → Bool → List (ℕ × GlobalSoFar) → State
with_globals s defines globals = record s { globals = globals; defined = more_defined defines s.defined }

abbrev pub with_meaning : State → ℕ → ℕ → ℕ × State
with_meaning s name number = (number, with_symbol s name (means.Global number))

abbrev pub repeated_global : Where → Bool → Introduced → ℕ → GlobalSoFar → ℕ → State → ℕ × State
repeated_global w defines d number earlier kind s =
    let globals = put_at s.globals number (declared_again w s defines kind earlier) in
    with_meaning (with_globals s defines globals) d.name number

abbrev pub first_global : Where → Bool → Introduced → ℕ → State → ℕ × State
first_global w defines d kind s =
    let globals = s.globals ++ (d.name, declared_first w s defines d kind) ∷ [] in
    with_meaning (with_globals s defines globals) d.name (length s.globals)
