-- Calls (C11 6.5.2.2): of functions of the text, and of those that each text has. Arguments are converted one by one as they are
-- read; what does not fit is told behind the last one.
use Rattle.std.specs.Prelude.{ℕ, ◌==◌, Bool, true, false, ◌&&◌, ◌||◌, not, List, [], ◌∷◌, ◌++◌, Option, Some, None, is_some, Ok, Err, if◌then◌else◌, slice_get}
use Rattle.c_types.specs.Table.{Types}
use Rattle.c_print.specs.declared.parts.Part.{Part}
use Rattle.c_print.specs.declared.parts.Part.TheVariants as part
use Rattle.c_tree.specs.declared.values.At.{At}
use Rattle.c_tree.specs.declared.values.Value.{Value}
use Rattle.c_tree.specs.declared.values.Value.TheVariants as v
use Rattle.static_rules.specs.declared.faults.CheckKind.TheVariants as why
use Rattle.static_rules.specs.declared.judged.Arguments.{Arguments}
use Rattle.static_rules.specs.declared.judged.Operand.{Operand}
use Rattle.static_rules.specs.declared.symbols.BuiltIn.{BuiltIn}
use Rattle.static_rules.specs.declared.symbols.BuiltIn.TheVariants as given
use Rattle.well_typed.specs.Kinds.{is_whole, promoted, target}
use Rattle.well_typed.specs.Surroundings.{at}
use Rattle.static_rules.specs.Answers.{Answer, ◌>>=◌, fault, or_mismatch}
use Rattle.static_rules.specs.Operands.{unknown, pointer_to, seen, to_whole, changed, converted}
use Rattle.static_rules.specs.declared.states.State.{State}
use Rattle.static_rules.specs.declared.states.Where.{Where}

-- ---- arguments

-- what a parameter takes: a type of the table, or a pointer to a type, which the table may not have yet
pub data Taken : Type 0 where
  Kind : (kind : ℕ) → Taken
  Pointer_to : (to : ℕ) → Taken

abbrev pub kind_taken : State → Taken → ℕ × State
kind_taken s (Kind kind) = (kind, s)
kind_taken s (Pointer_to to) = pointer_to s to

abbrev pub no_more : Bool → Arguments
no_more as_many = record { values = []; misfit = false; as_many = as_many }

abbrev pub before : Option Operand → Arguments → Arguments
before (Some x) rest = record rest { values = x.value ∷ rest.values }
before None rest = record rest { misfit = true }

-- What a call answers: a wrong argument comes before a wrong number of them, and neither stands in the initialiser of an object of
-- the whole text.
abbrev pub answered : Where → ℕ → State → Arguments → Answer (List Value)
answered w here s arguments =
    if w.constant || arguments.misfit then fault why.TypeMismatch here
    else if arguments.as_many then Ok arguments.values else fault why.BadCall here

-- ---- the functions that each text has, but for `printf` and `atomic_fetch_add`, and their types (C11 7.21.7.8, 7.21.7.9, 7.22.3, 7.24)

abbrev pub taken_by : BuiltIn → List Taken
taken_by given.Malloc = Kind 9 ∷ []
taken_by given.Calloc = Kind 9 ∷ Kind 9 ∷ []
taken_by given.Free = Pointer_to 1 ∷ []
taken_by given.Memcpy = Pointer_to 1 ∷ Pointer_to 1 ∷ Kind 9 ∷ []
taken_by given.Memset = Pointer_to 1 ∷ Kind 6 ∷ Kind 9 ∷ []
taken_by given.Strlen = Pointer_to 2 ∷ []
taken_by given.Puts = Pointer_to 2 ∷ []
taken_by given.Putchar = Kind 6 ∷ []
taken_by given.Printf = []
taken_by given.AtomicFetchAdd = []

-- the node of such a call, nothing where the number of arguments is another
abbrev pub node_of : (line any : ℕ) → BuiltIn → List Value → Option Operand
node_of line any given.Malloc (size ∷ []) = Some (unknown (v.Allocate (at line any) 2 size) any)
node_of line any given.Calloc (count ∷ size ∷ []) = Some (unknown (v.AllocateMany (at line any) 2 count size) any)
node_of line any given.Free (pointer ∷ []) = Some (unknown (v.Free (at line 1) pointer) 1)
node_of line any given.Memcpy (to ∷ from ∷ size ∷ []) = Some (unknown (v.CopyBytes (at line any) to from size) any)
node_of line any given.Memset (to ∷ byte ∷ size ∷ []) = Some (unknown (v.FillBytes (at line any) to byte size) any)
node_of line any given.Strlen (text ∷ []) = Some (unknown (v.StringLength (at line 9) text) 9)
node_of line any given.Puts (text ∷ []) = Some (unknown (v.PrintLine (at line 6) text) 6)
node_of line any given.Putchar (byte ∷ []) = Some (unknown (v.PrintByte (at line 6) byte) 6)
node_of line any _ _ = None

-- those whose result is a `void *`
abbrev pub gives_any : BuiltIn → Bool
gives_any given.Malloc = true
gives_any given.Calloc = true
gives_any given.Memcpy = true
gives_any given.Memset = true
gives_any _ = false

abbrev pub result_type : State → BuiltIn → ℕ × State
result_type s which = if gives_any which then pointer_to s 1 else (0, s)

abbrev pub node_or_bad : ℕ → State → Option Operand → Answer (Operand × State)
node_or_bad here s (Some x) = Ok (x, s)
node_or_bad here s None = fault why.BadCall here

abbrev pub given_node : Where → ℕ → BuiltIn → List Value → ℕ × State → Answer (Operand × State)
given_node w here which values r = node_or_bad here r.1 (node_of w.line r.0 which values)

-- ---- `printf` (C11 7.21.6.1, 7.21.6.3)

-- a whole number is promoted (C11 6.5.2.2p6), a pointer stays
abbrev pub promoted_argument : ℕ → Operand → Operand
promoted_argument line x = if is_whole x.kind then changed line (to_whole (promoted x.kind) (seen x)) x else x

abbrev pub is_text_by : Option ℕ → Bool
is_text_by (Some to) = (to == 2) || (to == 3)
is_text_by None = false

-- a number has the width that `l` says, a string is a pointer to characters
abbrev pub prints : Types → Part → ℕ → Bool
prints types (part.Plain text) kind = false
prints types (part.Number letter flag width true) kind = (kind == 8) || (kind == 9)
prints types (part.Number letter flag width false) kind = (kind == 6) || (kind == 7)
prints types (part.Str flag width) kind = is_text_by (target types kind)

-- each part that is not plain prints the next argument, and none is left
abbrev pub fit : Types → List Part → List Operand → Bool
fit types [] [] = true
fit types [] (x ∷ xs) = false
fit types (part.Plain text ∷ parts) xs = fit types parts xs
fit types (first ∷ parts) [] = false
fit types (first ∷ parts) (x ∷ xs) = prints types first x.kind && fit types parts xs

abbrev pub values_of : List Operand → List Value
values_of [] = []
values_of (x ∷ xs) = x.value ∷ values_of xs

abbrev pub printed : Where → ℕ → State → List Operand → Option (List Part) → Answer (Operand × State)
printed w here s xs (Some parts) =
    if w.constant || not (fit s.types parts xs) then fault why.TypeMismatch here
    else Ok (unknown (v.Print (at w.line 6) parts (values_of xs)) 6, s)
printed w here s xs None = fault why.TypeMismatch here

-- ---- `atomic_fetch_add` (C11 7.17.7.5): a pointer to a whole number, and a number of that type

abbrev pub whole_by : Option ℕ → Option ℕ
whole_by (Some to) = if is_whole to then Some to else None
whole_by None = None

abbrev pub whole_target : Types → ℕ → Option ℕ
whole_target types kind = whole_by (target types kind)

abbrev pub added_by : ℕ → ℕ → Operand → Option Operand → Option Operand
added_by line kind x (Some y) = Some (unknown (v.FetchAdd (at line kind) x.value y.value) kind)
added_by line kind x None = None

abbrev pub fetch_add_of : Types → ℕ → Operand → Operand → Option ℕ → Option Operand
fetch_add_of types line x y (Some kind) = added_by line kind x (converted types line kind y)
fetch_add_of types line x y None = None

-- whether an argument that has a parameter does not fit it
abbrev pub fetch_add_misfits : Types → ℕ → List Operand → Bool
fetch_add_misfits types line [] = false
fetch_add_misfits types line (x ∷ []) = not (is_some (whole_target types x.kind))
fetch_add_misfits types line (x ∷ y ∷ rest) = not (is_some (fetch_add_of types line x y (whole_target types x.kind)))

abbrev pub fetch_add_node : Types → ℕ → List Operand → Option Operand
fetch_add_node types line (x ∷ y ∷ []) = fetch_add_of types line x y (whole_target types x.kind)
fetch_add_node types line _ = None

unfoldable pub fetch_added : Where → ℕ → State → List Operand → Answer (Operand × State)
fetch_added w here s xs =
    if w.constant || fetch_add_misfits s.types w.line xs then fault why.TypeMismatch here
    else node_or_bad here s (fetch_add_node s.types w.line xs)
