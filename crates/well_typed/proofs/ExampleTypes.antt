-- A table of types for examples, and what is asked of it.
use Rattle.std.proofs.Common.{◌≡◌, ℕ, pos, true, false, List, [], ◌∷◌, ◌++◌, Option, Some, None, refl, arith}
use Rattle.std.specs.Prelude.{◌==◌, if◌then◌else◌}
use Rattle.c_types.specs.declared.kinds.CType.TheVariants.{Pointer, Array, Flexible, Struct}
use Rattle.c_types.specs.declared.kinds.Member.{Member}
use Rattle.c_types.specs.Table.{Types, basic_kinds, kind_of, shape_of, members}
use Rattle.c_tree.specs.declared.program.Variable.{Variable}
use Rattle.whole_numbers.specs.Types as w
use Rattle.well_typed.specs.Kinds.{is_scalar, target, element, promoted, wrapped, has_size, is_aggregate, sized_target}
use Rattle.well_typed.specs.Surroundings.{Surroundings, HasMember}
use Rattle.well_typed.specs.declared.signatures.Signature.{Signature}

-- 10 `int *`, 11 `void *`, 12 `struct S { int a; long b; }`, 13 `struct S *`, 14 `int[3]`, 15 `int[]`, 16 `char[4]`
unfoldable pub types : Types
types = record {
  kinds = basic_kinds ++ Pointer 6 ∷ Pointer 1 ∷ Struct 0 ∷ Pointer 12 ∷ Array 6 3 ∷ Flexible 6 ∷ Array 2 4 ∷ [];
  tags = record {
    union_tag = false;
    name = 83 ∷ [];
    fields = record { name = 97 ∷ []; kind = 6 } ∷ record { name = 98 ∷ []; kind = 8 } ∷ [];
  } ∷ [];
}

-- a variable of a type whose address is taken nowhere, and one whose address is
abbrev pub unaddressed : ℕ → Variable
unaddressed kind = record { kind = kind; line = 1; addressed = false }

abbrev pub addressed : ℕ → Variable
addressed kind = record { kind = kind; line = 1; addressed = true }

-- `long f(long)` is function 0, and global 0 is of type `int[3]`
abbrev pub long_of_long : Signature
long_of_long = record { result = 8; parameters = 8 ∷ [] }

abbrev pub one_global : ℕ → Option ℕ
one_global n = if n == 0 then Some 14 else None

abbrev pub around : List Variable → List ℕ → Surroundings
around variables scope = record {
  types = types;
  functions = long_of_long ∷ [];
  variables = variables;
  scope = scope;
  globals = one_global;
  literals = 16 ∷ [];
}

pub int_is_scalar : is_scalar types 6 ≡ true
unfolding is_scalar
int_is_scalar = refl

pub char_is_scalar : is_scalar types 2 ≡ true
unfolding is_scalar
char_is_scalar = refl

pub int_pointer_is_scalar : is_scalar types 10 ≡ true
unfolding is_scalar target types
int_pointer_is_scalar = refl

pub struct_pointer_is_scalar : is_scalar types 13 ≡ true
unfolding is_scalar target types
struct_pointer_is_scalar = refl

pub int_is_promoted : promoted 6 ≡ 6
unfolding promoted
int_is_promoted = refl

pub int_pointer : target types 10 ≡ Some 6
unfolding target types
int_pointer = refl

pub void_pointer : target types 11 ≡ Some 1
unfolding target types
void_pointer = refl

pub int_pointer_sized : sized_target types 10 ≡ Some 6
unfolding sized_target target has_size types shape_of
int_pointer_sized = refl

pub struct_pointer_sized : sized_target types 13 ≡ Some 12
unfolding sized_target target has_size types shape_of
struct_pointer_sized = refl

pub void_pointer_unsized : sized_target types 11 ≡ None
unfolding sized_target target has_size types shape_of
void_pointer_unsized = refl

pub struct_is_aggregate : is_aggregate types 12 ≡ true
unfolding is_aggregate types
struct_is_aggregate = refl

pub struct_has_size : has_size types 12 ≡ true
unfolding has_size types shape_of
struct_has_size = refl

pub int_has_size : has_size types 6 ≡ true
unfolding has_size types shape_of
int_has_size = refl

pub array_has_size : has_size types 14 ≡ true
unfolding has_size types shape_of
array_has_size = refl

pub array_of_int : kind_of types 14 ≡ Some (Array 6 3)
unfolding types
array_of_int = refl

pub open_array_of_int : kind_of types 15 ≡ Some (Flexible 6)
unfolding types
open_array_of_int = refl

pub array_of_char : kind_of types 16 ≡ Some (Array 2 4)
unfolding types
array_of_char = refl

pub element_of_open : element types 15 ≡ Some 6
unfolding element types
element_of_open = refl

member_b : Member
member_b = record { name = 98 ∷ []; kind = 8; offset = 8 }

pub has_member_b : (variables : List Variable) (scope : List ℕ) → HasMember (around variables scope) 12 8 8
unfolding types members shape_of member_b
has_member_b variables scope = record {
  found = member_b;
  here = (1, omega arith, refl);
  at_offset = refl;
  kind_is = refl;
}

pub wrapped_zero : wrapped 6 (pos 0) ≡ pos 0
unfolding wrapped w.wrapped
wrapped_zero = refl

pub wrapped_one : wrapped 6 (pos 1) ≡ pos 1
unfolding wrapped w.wrapped
wrapped_one = refl

pub wrapped_four : wrapped 6 (pos 4) ≡ pos 4
unfolding wrapped w.wrapped
wrapped_four = refl
