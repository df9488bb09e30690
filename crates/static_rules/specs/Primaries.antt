-- Primary expressions (C11 6.5.1): constants, names and string literals. `line` is that of the statement, for the tree; `here` that
-- of the node, for faults.
use Rattle.std.specs.Prelude.{ℕ, ◌+◌, ◌==◌, nat_lt, ℤ, Bool, true, false, ◌&&◌, not, List, [], ◌∷◌, ◌++◌, length, Option, Some, None, Ok, if◌then◌else◌, slice_get}
use Rattle.c_tokens.specs.declared.kind.NumType.{NumType}
use Rattle.c_tokens.specs.declared.kind.NumType.TheVariants as number
use Rattle.c_types.specs.Adding.{with_array}
use Rattle.c_tree.specs.declared.limits.TheConstants.{MAX_INITIALISED_BYTES}
use Rattle.c_tree.specs.declared.program.Variable.{Variable}
use Rattle.c_tree.specs.declared.values.Place.TheVariants as p
use Rattle.c_tree.specs.declared.values.Value.TheVariants as v
use Rattle.scoped_meanings.specs.Meanings.{declared_at}
use Rattle.static_rules.specs.declared.faults.CheckKind.TheVariants as why
use Rattle.static_rules.specs.declared.faults.Feature.TheVariants as feature
use Rattle.static_rules.specs.declared.judged.Judged.{Judged}
use Rattle.static_rules.specs.declared.judged.Known.TheVariants as known
use Rattle.well_typed.specs.Surroundings.{at}
use Rattle.static_rules.specs.Answers.{Answer, ◌>>=◌, fault, fault_if, or_bad_type}
use Rattle.static_rules.specs.Operands.{operand, place, value, pointer_to, in_table}
use Rattle.static_rules.specs.States.{symbol_of, with_types}
use Rattle.static_rules.specs.declared.states.State.{State}
use Rattle.static_rules.specs.declared.states.GlobalSoFar.{GlobalSoFar}
use Rattle.static_rules.specs.declared.states.Made.TheVariants as m
use Rattle.static_rules.specs.declared.states.Symbol.TheVariants as means
use Rattle.static_rules.specs.declared.states.Symbol.{Symbol}
use Rattle.static_rules.specs.declared.states.Where.{Where}

-- ---- constants and names

-- C11 6.4.4.1
abbrev pub constant_type : NumType → ℕ
constant_type number.Int = 6
constant_type number.UInt = 7
constant_type number.Long = 8
constant_type number.ULong = 9

abbrev pub constant : ℕ → ℕ → ℤ → Judged
constant line kind n = value (operand (v.Number (at line kind) n) kind (known.Number n))

-- An array without a size is an open array in its own initialiser: that is its type, once it is wanted.
abbrev pub kind_by_now : State → ℕ → ℕ × State
kind_by_now s kind = if kind == 0 then in_table s (m.Open s.open_element) else (kind, s)

abbrev pub variable_place : ℕ → ℕ → ℕ × State → Judged × State
variable_place line n r = (place (p.Variable (at line r.0) n) r.0, r.1)

abbrev pub variable_by : ℕ → ℕ → ℕ → State → Option Variable → Answer (Judged × State)
variable_by line here n s (Some x) = Ok (variable_place line n (kind_by_now s x.kind))
variable_by line here n s None = fault why.Unknown here

abbrev pub global_place : ℕ → ℕ → ℕ × State → Judged × State
global_place line n r = (place (p.Global (at line r.0) n) r.0, r.1)

abbrev pub global_by : ℕ → ℕ → ℕ → State → Option GlobalSoFar → Answer (Judged × State)
global_by line here n s (Some g) = Ok (global_place line n (kind_by_now s g.kind))
global_by line here n s None = fault why.Unknown here

-- `NULL`, of type `void *` (C11 7.19p3)
abbrev pub null : ℕ → ℕ × State → Judged × State
null line r = (value (operand (v.Null (at line r.0)) r.0 known.NullPointer), r.1)

abbrev pub named_by : ℕ → ℕ → State → Option Symbol → Answer (Judged × State)
named_by line here s (Some (means.Variable n)) = variable_by line here n s (slice_get s.variables n)
named_by line here s (Some (means.Global n)) = global_by line here n s (declared_at s.globals n)
named_by line here s (Some (means.Function n)) = fault (why.LeftOut feature.FunctionPointer) here
named_by line here s (Some (means.Given which)) = fault (why.LeftOut feature.FunctionPointer) here
named_by line here s (Some means.Null) = Ok (null line (pointer_to s 1))
named_by line here s (Some (means.Constant n)) = Ok (constant line 6 n, s)
-- the grammar lets no type stand here
named_by line here s (Some (means.Typedef t)) = fault why.TypeMismatch here
named_by line here s None = fault why.Unknown here

-- A name is a variable, an object of the whole text, an enumeration constant or `NULL` (C11 6.5.1p2, 6.4.4.3).
unfoldable pub named : ℕ → ℕ → State → ℕ → Answer (Judged × State)
named line here s name = named_by line here s (symbol_of s name)

-- ---- string literals (C11 6.4.5)

-- the type `char[n]` of the bytes and a zero byte
unfoldable pub string_type : ℕ → State → List ℕ → Answer (ℕ × State)
string_type here s bytes =
    or_bad_type here (with_array s.types 2 (length bytes + 1)) >>= λ r. Ok (r.0, with_types s r.1)

abbrev pub literal_made : ℕ → List ℕ → ℕ × State → Judged × State
literal_made line bytes r = (
  place (p.Literal (at line r.0) (length r.1.literals)) r.0,
  record r.1 {
    literals = r.1.literals ++ record { kind = r.0; line = line; bytes = bytes ++ 0 ∷ [] } ∷ [];
    bytes = r.1.bytes + (length bytes + 1);
  },
)

-- one that makes an object finds no room: all that are initialised have 1,048,576 bytes at most
abbrev pub has_no_room : Where → State → List ℕ → Bool
has_no_room w s bytes = not w.unevaluated && nat_lt MAX_INITIALISED_BYTES (s.bytes + (length bytes + 1))

abbrev pub literal_by : Where → List ℕ → ℕ × State → Judged × State
literal_by w bytes r = if w.unevaluated then (place (p.Literal (at w.line r.0) 0) r.0, r.1) else literal_made w.line bytes r

-- Under `sizeof` a literal makes no object.
unfoldable pub string : Where → ℕ → State → List ℕ → Answer (Judged × State)
string w here s bytes =
    fault_if (has_no_room w s bytes) why.Limit here >>= λ fits. string_type here s bytes >>= λ r. Ok (literal_by w bytes r)
