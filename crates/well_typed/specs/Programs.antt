-- Programs that are well typed (C11 6.9): whatever is declared in them is, each part by its own rule.
use Rattle.std.specs.Prelude.{◌≡◌, ◌⊎◌, ℕ, zero, suc, ◌+◌, ◌<◌, ◌≤◌, ◌==◌, nat_le, nat_lt, ◌&&◌, Bool, true, false, List, [], ◌∷◌, ◌++◌, length, map, take, Option, Some, None, if◌then◌else◌, IsTrue, IsFalse, All}
use Rattle.std.specs.List.{IsDistinct}
use Rattle.c_types.specs.declared.kinds.CType.TheVariants.{Array}
use Rattle.c_types.specs.Table.{Types, IsNumber, kind_of}
use Rattle.c_tree.specs.declared.statements.Initial.{Initial}
use Rattle.c_tree.specs.declared.program.Variable.{Variable}
use Rattle.c_tree.specs.declared.program.Function.{Function}
use Rattle.c_tree.specs.declared.program.GlobalVariable.{GlobalVariable}
use Rattle.c_tree.specs.declared.program.Literal.{Literal}
use Rattle.c_tree.specs.declared.program.Meaning.{Meaning}
use Rattle.c_tree.specs.declared.program.Meaning.TheVariants as meaning
use Rattle.c_tree.specs.declared.program.Named.{Named}
use Rattle.c_tree.specs.declared.program.Program.{Program}
use Rattle.c_tree.specs.Limits.{IsWithinLimits}
use Rattle.well_typed.specs.Kinds.{is_aggregate, is_scalar, has_size, wrapped}
use Rattle.well_typed.specs.Surroundings.{Surroundings}
use Rattle.well_typed.specs.declared.signatures.Signature.{Signature}
use Rattle.well_typed.specs.Effects.{acts_in_initial}
use Rattle.well_typed.specs.Initialisers.{Global, AreInitials}
use Rattle.well_typed.specs.Statements.{Position, IsBlock, variables_in_block}

-- ---- what a program declares

abbrev pub kind_of_variable : Variable → ℕ
kind_of_variable variable = variable.kind

abbrev pub parameters_of : Function → List Variable
parameters_of function = take function.parameters function.variables

abbrev pub signature_of : Function → Signature
signature_of function = record { result = function.result; parameters = map kind_of_variable (parameters_of function) }

-- the type of the global of a number
abbrev pub global_kind : List GlobalVariable → ℕ → Option ℕ
global_kind [] number = None
global_kind (global ∷ rest) number = if global.number == number then Some global.kind else global_kind rest number

abbrev pub kind_of_literal : Literal → ℕ
kind_of_literal literal = literal.kind

abbrev pub number_of_global : GlobalVariable → ℕ
number_of_global global = global.number

-- from 0 on
abbrev pub numbers_below : ℕ → List ℕ
numbers_below zero = []
numbers_below (suc n) = numbers_below n ++ n ∷ []

-- outside functions
abbrev pub around_globals : Program → Surroundings
around_globals program = record {
  types = program.types;
  functions = map signature_of program.functions;
  variables = [];
  scope = [];
  globals = global_kind program.globals;
  literals = map kind_of_literal program.literals;
}

-- around the body of a function, where the parameters are in scope
abbrev pub around_body : Program → Function → Surroundings
around_body program function =
    record (around_globals program) { variables = function.variables; scope = numbers_below function.parameters }

abbrev pub position_of_body : Program → Function → Position
position_of_body program function = record {
  around = around_body program function;
  result = function.result;
  own = [];
  may_break = false;
  may_continue = false;
  switch_type = None;
}

-- ---- functions (C11 6.9.1)

abbrev pub count_if : Bool → ℕ
count_if true = 1
count_if false = 0

abbrev pub how_often : ℕ → List ℕ → ℕ
how_often n [] = 0
how_often n (first ∷ rest) = count_if (first == n) + how_often n rest

-- a variable that is no parameter
abbrev pub is_own : Function → ℕ → Bool
is_own function n = nat_le function.parameters n && nat_lt n (length function.variables)

abbrev pub IsScalarVariable : Types → Variable → Type 0
IsScalarVariable types variable = IsTrue (is_scalar types variable.kind)

abbrev pub IsSizedVariable : Types → Variable → Type 0
IsSizedVariable types variable = IsTrue (has_size types variable.kind)

pub record IsFunction (program : Program) (function : Function) : Type 0 where
  -- the parameters are the first variables, and scalars (6.7.6.3p4 and p7)
  pub parameters : function.parameters ≤ length function.variables
  pub scalars : All (IsScalarVariable program.types) (parameters_of function)
  -- 6.7p7
  pub sizes : All (IsSizedVariable program.types) function.variables
  -- 6.9.1p3, without structs and unions
  pub result : (function.result ≡ 1) ⊎ IsTrue (is_scalar program.types function.result)
  -- each variable but the parameters is one of exactly one block or `for`
  pub once : (n : ℕ) → how_often n (variables_in_block function.body) ≡ count_if (is_own function n)
  pub body : IsBlock (position_of_body program function) function.body

-- ---- objects of file scope (C11 6.9.2)

abbrev pub DoesNotAct : Initial → Type 0
DoesNotAct store = IsFalse (acts_in_initial store)

pub record IsGlobal (program : Program) (global : GlobalVariable) : Type 0 where
  pub number : global.number < length program.globals
  pub size : IsTrue (has_size program.types global.kind)
  pub initial : AreInitials (around_globals program) (Global global.number) global.initial
  -- no call, no assignment, no `++` and no `--`
  pub quiet : All DoesNotAct global.initial

-- ---- string literals (C11 6.4.5p6)

-- an array of its bytes, the last of which is zero
pub record IsLiteral (types : Types) (literal : Literal) : Type 0 where
  pub array : kind_of types literal.kind ≡ Some (Array 2 (length literal.bytes))
  pub before : List ℕ
  pub ends : literal.bytes ≡ before ++ 0 ∷ []

-- ---- names of file scope (C11 6.2.3)

abbrev pub IsMeaning : Types → Meaning → Type 0
IsMeaning types (meaning.Typedef kind) = IsNumber types kind
IsMeaning types meaning.FunctionTypedef = Unit {0}
IsMeaning types (meaning.Tag kind) = IsTrue (is_aggregate types kind)
IsMeaning types meaning.EnumTag = Unit {0}
IsMeaning types (meaning.Constant number) = wrapped 6 number ≡ number

abbrev pub IsNamed : Types → Named → Type 0
IsNamed types named = IsMeaning types named.meaning

-- ---- programs

-- A program is well typed.
pub record WellTyped (program : Program) : Type 0 where
  pub functions : All (IsFunction program) program.functions
  pub globals : All (IsGlobal program) program.globals
  -- so each number below their count is that of exactly one
  pub numbers : IsDistinct ◌==◌ (map number_of_global program.globals)
  pub literals : All (IsLiteral program.types) program.literals
  pub names : All (IsNamed program.types) program.names
  pub limits : IsWithinLimits program
