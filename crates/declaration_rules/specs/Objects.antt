-- Objects that declarations make: variables of a function, and objects of the whole text, with their initialisers (C11
-- 6.7, 6.9.2).
use Rattle.std.specs.Prelude.{ℕ, ◌==◌, Bool, true, false, ◌&&◌, ◌||◌, not, List, [], ◌∷◌, ◌++◌, length, Option, Some}
use Rattle.std.specs.Prelude.{None, is_some, Ok, slice_get, slice_set}
use Rattle.c_grammar.specs.declared.limits.TheConstants.{MAX_DEPTH}
use Rattle.c_grammar.specs.declared.phrases.Expression.{Expression}
use Rattle.c_grammar.specs.declared.statements.Initialiser.{Initialiser}
use Rattle.c_types.specs.declared.kinds.CType.TheVariants as c
use Rattle.c_types.specs.declared.kinds.TypeError.TheVariants as e
use Rattle.c_types.specs.Shapes.{size}
use Rattle.c_types.specs.Table.{Types, shape_of}
use Rattle.c_types.specs.Adding.{added, with_array}
use Rattle.c_tree.specs.declared.program.Variable.{Variable}
use Rattle.c_tree.specs.declared.statements.Initial.{Initial}
use Rattle.c_tree.specs.declared.values.Place.TheVariants as p
use Rattle.well_typed.specs.Kinds.{element, has_size}
use Rattle.scoped_meanings.specs.Meanings.{declared_at, put_at}
use Rattle.static_rules.specs.declared.faults.CheckKind.TheVariants as why
use Rattle.static_rules.specs.declared.judged.Judged.{Judged}
use Rattle.static_rules.specs.declared.judged.Operand.{Operand}
use Rattle.static_rules.specs.Answers.{Answer, ◌>>=◌, fault_if, or_bad_type}
use Rattle.static_rules.specs.Operands.{in_types, in_table}
use Rattle.static_rules.specs.Predefined.{is_given}
use Rattle.static_rules.specs.Source.{Source}
use Rattle.static_rules.specs.States.{symbol_here, with_symbol}
use Rattle.static_rules.specs.declared.states.State.{State}
use Rattle.declaration_rules.specs.Parts.{open_element}
use Rattle.declaration_rules.specs.Readers.{Readers}
use Rattle.declaration_rules.specs.declared.declarations.Introduced.{Introduced}
use Rattle.declaration_rules.specs.declared.stores.Unfit.TheVariants as unfits
use Rattle.declaration_rules.specs.Declarators.{is_taken}
use Rattle.declaration_rules.specs.Stores.{at, placed, Found}
use Rattle.declaration_rules.specs.Initialisers.{initial, counted}
use Rattle.declaration_rules.specs.Agreement.{function_named, global_named, only_global, agreeing}
use Rattle.declaration_rules.specs.Agreement.{same_element, same_object, composite, repeated_global, first_global}
use Rattle.static_rules.specs.declared.states.GlobalSoFar.{GlobalSoFar}
use Rattle.static_rules.specs.declared.states.Made.{Made}
use Rattle.static_rules.specs.declared.states.Symbol.TheVariants as means
use Rattle.static_rules.specs.declared.states.Where.{Where}

-- What a declarator gives beside names: the stores in a variable, whether what initialises it does not fit, which is
-- told at the end of the declaration, and the bytes of an object of the whole text that is initialised.
pub record Outcome : Type 0 where
  pub initial : List Initial
  pub mismatch : Bool
  pub bytes : ℕ

abbrev pub no_outcome : Outcome
no_outcome = record { initial = []; mismatch = false; bytes = 0 }

abbrev pub mismatched : Outcome
mismatched = record { initial = []; mismatch = true; bytes = 0 }

-- ---- an array without a size, and the initialiser from which it takes one

abbrev pub element_and : Option Initialiser → Option ℕ → Option (ℕ × Initialiser)
element_and (Some one) (Some of) = Some (of, one)
element_and (Some one) None = None
element_and None found = None

-- the type of its elements, and the initialiser, if there is one
abbrev pub to_count : Types → Made → Option Initialiser → Option (ℕ × Initialiser)
to_count types type value = element_and value (open_element types type)

-- Its type is complete behind the initialiser (C11 6.7.9p22). One that takes no size from it stays without one.
unfoldable pub completed_array : ℕ → ℕ → State → Option ℕ → Answer (ℕ × State)
completed_array here of s (Some count) = or_bad_type here (with_array s.types of count) >>= λ r. Ok (in_types s r)
completed_array here of s None = Ok (in_types s (added (c.Flexible of) s.types))

abbrev pub with_open : ℕ → State → State
with_open of s = record s { open_element = of }

-- ---- variables of a function

abbrev pub with_kind_of : ℕ → ℕ → Option Variable → State → State
with_kind_of number kind (Some variable) s =
    record s { variables = slice_set s.variables number (record variable { kind = kind }) }
with_kind_of number kind None s = s

abbrev pub with_variable_kind : ℕ → ℕ → State → State
with_variable_kind number kind s = with_kind_of number kind (slice_get s.variables number) s

-- a new variable of the function and of its innermost block
abbrev pub with_variable : Where → ℕ → State → State
with_variable w kind s = record s {
  variables = s.variables ++ record { kind = kind; line = w.line; addressed = false } ∷ [];
  block = s.block ++ length s.variables ∷ [];
}

-- Its name is known in its own initialiser (C11 6.2.1p7).
unfoldable pub new_variable : Where → Introduced → ℕ → State → State
new_variable w d kind s = with_symbol (with_variable w kind s) d.name (means.Variable (length s.variables))

abbrev pub variable_outcome : Where → ℕ → ℕ → Found → Outcome
variable_outcome w number kind found = record {
  initial = placed w.line (p.Variable (at w.line kind) number) found.stores;
  mismatch = is_some found.unfit;
  bytes = 0;
}

-- ---- objects of the whole text

abbrev pub with_global_of : ℕ → ℕ → List Initial → Option GlobalSoFar → State → State
with_global_of number kind initial (Some global) s =
    record s { globals = put_at s.globals number (record global { kind = kind; initial = initial }) }
with_global_of number kind initial None s = s

abbrev pub with_initial : ℕ → ℕ → List Initial → State → State
with_initial number kind initial s = with_global_of number kind initial (declared_at s.globals number) s

abbrev pub global_outcome : Where → ℕ → ℕ → Found → State → Outcome × State
global_outcome w number kind found s = (
  record { initial = []; mismatch = is_some found.unfit; bytes = size (shape_of s.types kind) },
  with_initial number kind (placed w.line (p.Global (at w.line kind) number) found.stores) s,
)

-- One that is defined has a size. One that is declared may get it later in the text, but `void` never does.
abbrev pub lacks_needed_size : Types → Bool → ℕ → Bool
lacks_needed_size types true kind = not (has_size types kind)
lacks_needed_size types false kind = kind == 1

-- a call, an assignment, `++` and `--` have no place in its initialiser
abbrev pub in_constant : Where → Where
in_constant w = record w { constant = true }

module _ (source : Source) (readers : Readers)
    (valued : ℕ → State → Judged → Operand × State) (converted : Types → ℕ → ℕ → Operand → Option Operand)
    (literal : Where → State → Expression → Option (Answer (List ℕ × State)))
  where
    abbrev pub found_in : Where → State → ℕ → Initialiser → Answer (Found × State)
    found_in w s kind one = initial readers.expression valued converted literal MAX_DEPTH unfits.Mismatch w s [] kind one

    abbrev pub counted_in : Where → State → ℕ → Initialiser → Answer ((Option ℕ × Found) × State)
    counted_in w s of one = counted readers.expression valued converted literal MAX_DEPTH w s of one

    -- ---- variables

    abbrev pub initial_variable : Where → ℕ → ℕ → Option Initialiser → State → Answer (Outcome × State)
    initial_variable w number kind (Some one) s =
        found_in w s kind one >>= λ r. Ok (variable_outcome w number kind r.0, r.1)
    initial_variable w number kind None s = Ok (no_outcome, s)

    abbrev pub sized_variable : Where → Introduced → Option Initialiser → ℕ × State → Answer (Outcome × State)
    sized_variable w d value (kind, s) =
        fault_if (not (has_size s.types kind)) (why.BadType e.Incomplete) d.here >>= λ fine.
        initial_variable w (length s.variables) kind value (new_variable w d kind s)

    abbrev pub closed_variable : Where → ℕ → Found → ℕ × State → Outcome × State
    closed_variable w number found (kind, s) =
        (variable_outcome w number kind found, with_open 0 (with_variable_kind number kind s))

    -- While its initialiser is read an array without a size has none.
    abbrev pub counted_variable : Where → Introduced → ℕ → Initialiser → State → Answer (Outcome × State)
    counted_variable w d of one s =
        counted_in w (with_open of (new_variable w d 0 s)) of one >>= λ r. completed_array d.here of r.1 r.0.0 >>= λ kind.
        Ok (closed_variable w (length s.variables) r.0.1 kind)

    abbrev pub variable_by : Where → Introduced → Option Initialiser → Made × State → Option (ℕ × Initialiser) →
        Answer (Outcome × State)
    variable_by w d value (type, s) (Some (of, one)) = counted_variable w d of one s
    variable_by w d value (type, s) None = sized_variable w d value (in_table s type)

    -- A variable: its name is new in its scope, and its type has a size.
    unfoldable pub variable : Where → State → Introduced → Option Initialiser → Answer (Made × State) →
        Answer (Outcome × State)
    variable w s d value type =
        fault_if (is_taken source w s d.name) why.Redefined d.here >>= λ new. type >>= λ found.
        variable_by w d value found (to_count found.1.types found.0 value)

    -- ---- objects of the whole text

    abbrev pub initial_global : Where → ℕ → Option Initialiser → ℕ × State → Answer (Outcome × State)
    initial_global w kind (Some one) (number, s) =
        found_in (in_constant w) s kind one >>= λ r. Ok (global_outcome w number kind r.0 r.1)
    initial_global w kind None (number, s) = Ok (no_outcome, s)

    abbrev pub sized_global : Where → Bool → Introduced → Option Initialiser → ℕ → ℕ × State → Answer (Outcome × State)
    sized_global w defines d value kind (number, s) =
        fault_if (lacks_needed_size s.types defines kind) (why.BadType e.Incomplete) d.here >>= λ fine.
        initial_global w kind value (number, s)

    -- the first declaration of it
    abbrev pub first_object : Where → Bool → Introduced → Option Initialiser → ℕ × State → Answer (Outcome × State)
    first_object w defines d value (kind, s) = sized_global w defines d value kind (first_global w defines d kind s)

    abbrev pub first_counted : Where → Introduced → ℕ → Initialiser → State → Answer (Outcome × State)
    first_counted w d of one s =
        let new = first_global w true d 0 s in
        counted_in (in_constant w) (with_open of new.1) of one >>= λ r. completed_array d.here of r.1 r.0.0 >>= λ kind.
        Ok (global_outcome w new.0 kind.0 r.0.1 (with_open 0 kind.1))

    abbrev pub first_by : Where → Bool → Introduced → Option Initialiser → Made × State → Option (ℕ × Initialiser) →
        Answer (Outcome × State)
    first_by w defines d value (type, s) (Some (of, one)) = first_counted w d of one s
    first_by w defines d value (type, s) None = first_object w defines d value (in_table s type)

    -- A later declaration of it agrees, and defines it where none did before.
    abbrev pub later_object : Where → Bool → Introduced → Option Initialiser → ℕ → GlobalSoFar → ℕ × State →
        Answer (Outcome × State)
    later_object w defines d value number earlier (kind, s) =
        fault_if (not (same_object s.types kind earlier.kind) || defines && is_some earlier.order) why.Redefined d.here
        >>= λ fine.
        let whole = composite s.types earlier.kind kind in
        sized_global w defines d value whole (repeated_global w defines d number earlier whole s)

    -- It keeps its earlier type in its initialiser, and the type that it takes from that agrees as well.
    abbrev pub later_counted : Where → Introduced → ℕ → Initialiser → ℕ → GlobalSoFar → State → Answer (Outcome × State)
    later_counted w d of one number earlier s =
        let other = not (same_element (element s.types earlier.kind) (Some of)) in
        fault_if (other || is_some earlier.order) why.Redefined d.here >>= λ fine.
        counted_in (in_constant w) (repeated_global w true d number earlier earlier.kind s).1 of one >>= λ r.
        agreeing true d.here (completed_array d.here of r.1 r.0.0) >>= λ kind.
        fault_if (not (same_object kind.1.types kind.0 earlier.kind)) why.Redefined d.here >>= λ agrees.
        Ok (global_outcome w number (composite kind.1.types earlier.kind kind.0) r.0.1 kind.1)

    abbrev pub later_by : Where → Bool → Introduced → Option Initialiser → ℕ → GlobalSoFar → Made × State →
        Option (ℕ × Initialiser) → Answer (Outcome × State)
    later_by w defines d value number earlier (type, s) (Some (of, one)) = later_counted w d of one number earlier s
    later_by w defines d value number earlier (type, s) None =
        later_object w defines d value number earlier (in_table s type)

    abbrev pub object_by : Where → State → Bool → Introduced → Option Initialiser → Answer (Made × State) →
        Option (ℕ × GlobalSoFar) → Answer (Outcome × State)
    object_by w s defines d value type (Some (number, earlier)) =
        agreeing true d.here type >>= λ found.
        later_by w defines d value number earlier found (to_count found.1.types found.0 value)
    object_by w s defines d value type None =
        fault_if (is_some (function_named s d.name)) why.Redefined d.here >>= λ new. type >>= λ found.
        first_by w defines d value found (to_count found.1.types found.0 value)

    -- An object of the whole text, which is defined there or declared alone.
    unfoldable pub object : Where → State → Bool → Introduced → Option Initialiser → Answer (Made × State) →
        Answer (Outcome × State)
    object w s defines d value type =
        fault_if (is_given source d.name || not (only_global (symbol_here w s d.name))) why.Redefined d.here >>= λ fine.
        object_by w s defines d value type (global_named s d.name)
