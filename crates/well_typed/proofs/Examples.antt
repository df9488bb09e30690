-- Expressions and statements that are well typed, and some that are not.
use Rattle.std.proofs.Common.{◌≡◌, ℕ, ℤ, pos, true, false, [], ◌∷◌, Some, refl, ◌∙◌, inl, arith}
use Rattle.std.specs.Prelude.{Ok, Err}
use Rattle.c_print.specs.Formats.{end as no_part, converted as converted_part, whole, none as no_modifier}
use Rattle.c_print.specs.declared.parts.Part.TheVariants as part
use Rattle.c_print.specs.declared.parts.Letter.TheVariants as letter
use Rattle.c_print.specs.declared.parts.Flag.TheVariants as flag
use Rattle.whole_numbers.specs.declared.trap.Trap.TheVariants as trap
use Rattle.whole_numbers.specs.Operators.{outcome}
use Rattle.c_tree.specs.declared.operators.LogicalOperator.TheVariants as logical
use Rattle.c_tree.specs.declared.operators.Operator.TheVariants as operator
use Rattle.c_tree.specs.declared.operators.Comparison.TheVariants as comparison
use Rattle.c_tree.specs.declared.operators.Written.TheVariants as written
use Rattle.c_tree.specs.declared.program.Variable.{Variable}
use Rattle.c_tree.specs.declared.values.At.{At}
use Rattle.c_tree.specs.declared.values.Place.{Place}
use Rattle.c_tree.specs.declared.values.Place.TheVariants as p
use Rattle.c_tree.specs.declared.values.Value.{Value}
use Rattle.c_tree.specs.declared.values.Value.TheVariants as v
use Rattle.c_tree.specs.declared.statements.Initial.TheVariants as i
use Rattle.well_typed.specs.Kinds.{is_scalar, wrapped}
use Rattle.well_typed.specs.Constants.{constant, zero, named}
use Rattle.well_typed.specs.Surroundings.{at, Surroundings, as_declared, without_size, IsVariable}
use Rattle.well_typed.specs.Expressions.{IsPlace, IsValue, variable, global, index, arrow, number, null, load, decay, address, convert, null_pointer, binary, equal_pointers, copy, call, allocate, print, no_value, one_more, at_end, converted}
use Rattle.well_typed.specs.Initialisers.{Variables, IsInitial, IsPart, variable as own_variable, scalar, bytes}
use Rattle.well_typed.proofs.Layers.{make_place, make_value, make_part}
use Rattle.well_typed.proofs.Steps.{constant_is}
use Rattle.well_typed.proofs.ExampleTypes.{types, unaddressed, addressed, around, int_is_scalar, char_is_scalar, int_pointer_is_scalar, struct_pointer_is_scalar, int_is_promoted, int_pointer, void_pointer, int_pointer_sized, struct_pointer_sized, struct_is_aggregate, struct_has_size, open_array_of_int, array_of_int, array_of_char, element_of_open, has_member_b, wrapped_zero, wrapped_one, wrapped_four}

-- ---- parts of the examples

-- variable n of a type, and its value
abbrev pub named_place : ℕ → ℕ → Place
named_place kind n = p.Variable (at 1 kind) n

abbrev pub name : ℕ → ℕ → Value
name kind n = v.Load (at 1 kind) (named_place kind n)

abbrev pub int : ℤ → Value
int n = v.Number (at 1 6) n

-- one variable of the function, which is in scope
abbrev pub alone : Variable → Surroundings
alone x = around (x ∷ []) (0 ∷ [])

pub is_alone : (x : Variable) → IsVariable (alone x) 0 x.kind
is_alone x = record { found = x; here = refl; kind = refl; in_scope = (0, omega arith, refl) }

pub place_alone : (x : Variable) → IsPlace (alone x) (named_place x.kind 0) x.kind
place_alone x = make_place (p.outs-Variable _ _) (variable (is_alone x) as_declared)

pub name_alone : (x : Variable) → is_scalar types x.kind ≡ true → IsValue (alone x) (name x.kind 0) x.kind
name_alone x is = make_value (v.outs-Load _ _) (load (place_alone x) is)

pub a_number : (e : Surroundings) (n : ℤ) → wrapped 6 n ≡ n → IsValue e (int n) 6
a_number e n is = make_value (v.outs-Number _ _) (number refl is)

part_alone : (x : Variable) → IsPart (alone x) (Variables (0 ∷ [])) (named_place x.kind 0) x.kind
part_alone x =
    make_part (p.outs-Variable _ _) (own_variable refl (0, omega arith, refl) (is_alone x))

-- ---- what is well typed

-- `char c; c + 1`: c is promoted
sum_of_char_and_int :
    IsValue (alone (unaddressed 2))
    (v.Binary (at 1 6) operator.Add (v.Convert (at 1 6) written.Implicit (name 2 0)) (int (pos 1))) 6
sum_of_char_and_int = make_value (v.outs-Binary _ _ _ _) (
    binary refl
    (make_value (v.outs-Convert _ _ _) (convert (name_alone (unaddressed 2) char_is_scalar) refl refl))
    (a_number _ (pos 1) wrapped_one)
    (refl, int_is_promoted))

-- `int *p; p[1]`
element_of_pointer : IsPlace (alone (unaddressed 10)) (p.Index (at 1 6) (name 10 0) (int (pos 1))) 6
element_of_pointer = make_place (p.outs-Index _ _ _)
    (index (name_alone (unaddressed 10) int_pointer_is_scalar) int_pointer_sized (a_number _ (pos 1) wrapped_one) refl)

-- `extern int a[]; .. a[1]`, where `int a[3];` follows
element_of_unsized :
    IsPlace (around [] []) (p.Index (at 1 6) (v.Decay (at 1 10) (p.Global (at 1 15) 0)) (int (pos 1))) 6
element_of_unsized = make_place (p.outs-Index _ _ _) (
    index
    (make_value (v.outs-Decay _ _) (
    decay
    (make_place (p.outs-Global _ _) (global refl (without_size array_of_int open_array_of_int)))
    element_of_open int_pointer))
    int_pointer_sized
    (a_number _ (pos 1) wrapped_one)
    refl)

-- `struct S *q; q->b`
member_of_pointed : IsPlace (alone (unaddressed 13)) (p.Arrow (at 1 8) (name 13 0) 8) 8
member_of_pointed = make_place (p.outs-Arrow _ _ _)
    (arrow (name_alone (unaddressed 13) struct_pointer_is_scalar) struct_pointer_sized (has_member_b _ _))

-- `long f(long); f(1)`
call_with_conversion :
    IsValue (around [] []) (v.Call (at 1 8) 0 (v.Convert (at 1 8) written.Implicit (int (pos 1)) ∷ [])) 8
call_with_conversion = make_value (v.outs-Call _ _ _) (
    call refl (
    one_more (make_value (v.outs-Convert _ _ _) (convert (a_number _ (pos 1) wrapped_one) refl refl)) no_value))

-- `struct S s, t; s = t`
copy_of_struct :
    IsValue (around (unaddressed 12 ∷ unaddressed 12 ∷ []) (0 ∷ 1 ∷ []))
    (v.Copy (at 1 12) (named_place 12 0) (named_place 12 1)) 12
copy_of_struct = make_value (v.outs-Copy _ _ _) (
    copy
    (make_place (p.outs-Variable _ _) (
    variable
    (record { found = unaddressed 12; here = refl; kind = refl; in_scope = (0, omega arith, refl) })
    as_declared))
    (make_place (p.outs-Variable _ _) (
    variable
    (record { found = unaddressed 12; here = refl; kind = refl; in_scope = (1, omega arith, refl) })
    as_declared))
    struct_is_aggregate struct_has_size)

-- `int x; &x`
address_of_object : IsValue (alone (addressed 6)) (v.Address (at 1 10) (named_place 6 0)) 10
address_of_object = make_value (v.outs-Address _ _) (
    address (place_alone (addressed 6))
    (rw p.outs-Variable (record { found = addressed 6; here = refl; addressed = refl }))
    int_pointer)

-- `int *p; p == NULL`
null_test : IsValue (alone (unaddressed 10))
    (v.ComparePointers (at 1 6) comparison.Equal (name 10 0)
    (v.NullPointer (at 1 10) written.Implicit (v.Null (at 1 11)))) 6
null_test = make_value (v.outs-ComparePointers _ _ _ _) (
    equal_pointers refl (name_alone (unaddressed 10) int_pointer_is_scalar)
    (make_value (v.outs-NullPointer _ _ _) (
    null_pointer (make_value (v.outs-Null _) (null void_pointer)) (named (v.outs-Null _)) (6, int_pointer)))
    (6, int_pointer))

-- `int *p = 0;`
constant_number : (a : At) (n : ℤ) → constant (v.Number a n) ≡ Some (Ok n)
constant_number a n = constant_is _ (v.outs-Number a n)

null_initialiser : IsInitial (alone (unaddressed 10)) (Variables (0 ∷ []))
    (i.Value (named_place 10 0) (v.NullPointer (at 1 10) written.Implicit (int (pos 0))))
null_initialiser = scalar
    (part_alone (unaddressed 10))
    int_pointer_is_scalar
    (make_value (v.outs-NullPointer _ _ _) (
    null_pointer (a_number _ (pos 0) wrapped_zero) (zero (constant_number _ _)) (6, int_pointer)))

-- `int *p = malloc(4);`, which is converted at once, so its elements are of type int
allocated_ints : IsInitial (alone (unaddressed 10)) (Variables (0 ∷ []))
    (i.Value (named_place 10 0) (v.Allocate (at 1 10) 6 (v.Convert (at 1 9) written.Implicit (int (pos 4)))))
allocated_ints = scalar
    (part_alone (unaddressed 10))
    int_pointer_is_scalar
    (make_value (v.outs-Allocate _ _ _) (
    allocate (inl int_pointer_sized)
    (make_value (v.outs-Convert _ _ _) (convert (a_number _ (pos 4) wrapped_four) refl refl))))

-- `char a[4] = "abc";`
string_in_array : IsInitial (alone (unaddressed 16)) (Variables (0 ∷ []))
    (i.Bytes (named_place 16 0) (97 ∷ 98 ∷ 99 ∷ 0 ∷ []))
string_in_array = bytes
    (part_alone (unaddressed 16))
    array_of_char (inl refl) (omega arith)

-- `printf("%d", x)`
printed_int : IsValue (alone (unaddressed 6))
    (v.Print (at 1 6) (part.Number letter.D flag.Bare 0 false ∷ []) (name 6 0 ∷ [])) 6
printed_int = make_value (v.outs-Print _ _ _) (
    print (
      _,
      converted_part _ (
          whole (λ same. cc) (record { short = omega arith; written = λ differs. absurd (differs refl) }) no_modifier)
          no_part,
    )
    (converted (name_alone (unaddressed 6) int_is_scalar) (inl refl) at_end))

-- `1 / 0` has no value, and `1 || 1 / 0` has
no_quotient : constant (v.Binary (at 1 6) operator.Divide (int (pos 1)) (int (pos 0))) ≡ Some (Err trap.ZeroDivide)
unfolding outcome
no_quotient = constant_is _ (v.outs-Binary _ _ _ _) ∙ simp constant_number

decided_by_left :
    constant (
    v.Logical (at 1 6) logical.Or (int (pos 1)) (v.Binary (at 1 6) operator.Divide (int (pos 1)) (int (pos 0))))
    ≡ Some (Ok (pos 1))
decided_by_left = constant_is _ (v.outs-Logical _ _ _ _) ∙ simp (constant_number, no_quotient)
