-- A whole program that is well typed:
-- `typedef int *T; int g[3] = { 1 };`
-- `int f(int x) { int y; switch (x) { case 0: break; case 1: return x; } return y; }`,
-- with the string literal "abc".
use Rattle.std.proofs.Common.{◌≡◌, ℕ, zero, suc, ℤ, pos, true, false, List, [], ◌∷◌, Option, Some, refl, sym, ap, ◌∙◌, subst, inr, arith}
use Rattle.std.specs.Prelude.{◌==◌, slice_get, Contains, map, sum, ◌+◌}
use Rattle.std.specs.List.{IsDistinct}
use Rattle.std.specs.Ordering.{int_eq}
use Rattle.std.proofs.lemmas.List.Elements.{All-nil, All-cons}
use Rattle.c_tree.specs.declared.program.Variable.{Variable}
use Rattle.c_tree.specs.declared.program.Function.{Function}
use Rattle.c_tree.specs.declared.program.GlobalVariable.{GlobalVariable}
use Rattle.c_tree.specs.declared.program.Literal.{Literal}
use Rattle.c_tree.specs.declared.program.Meaning.TheVariants as meaning
use Rattle.c_tree.specs.declared.program.Named.{Named}
use Rattle.c_tree.specs.declared.program.Program.{Program}
use Rattle.c_tree.specs.declared.values.At.{At}
use Rattle.c_tree.specs.declared.values.Place.{Place, out-Place, map-Place, fold_out-Place}
use Rattle.c_tree.specs.declared.values.Place.TheVariants as p
use Rattle.c_tree.specs.declared.values.Value.{Value, out-Value, map-Value, fold_out-Value}
use Rattle.c_tree.specs.declared.values.Value.TheVariants as v
use Rattle.c_tree.specs.declared.statements.Initial.{Initial}
use Rattle.c_tree.specs.declared.statements.Initial.TheVariants as i
use Rattle.c_tree.specs.declared.statements.Statement.{Statement, out-Statement, map-Statement, fold_out-Statement}
use Rattle.c_tree.specs.declared.statements.Statement.TheVariants as s
use Rattle.c_tree.specs.declared.statements.Block.{Block, fold_out-Block}
use Rattle.c_types.specs.Shapes.{size}
use Rattle.c_types.specs.Table.{shape_of}
use Rattle.c_tree.specs.Counts.{place_step, value_step, statement_step, block_step, count_of_place, count_of_value, count_of_statement, count_of_block}
use Rattle.c_tree.specs.Limits.{IsWithinLimits, HasFewParameters, nodes_of_program}
use Rattle.well_typed.specs.Kinds.{is_scalar}
use Rattle.well_typed.specs.Effects.{acts_in_place, acts_in_value}
use Rattle.well_typed.specs.Surroundings.{PlaceLayer, ValueLayer, at, Surroundings, as_declared}
use Rattle.well_typed.specs.Expressions.{IsValue, variable, number, load}
use Rattle.well_typed.specs.Initialisers.{Global, IsInitial, scalar, element_of, global as own_global}
use Rattle.well_typed.specs.Statements.{StatementLayer, IsBlock, block, no_statement, one_more, declaration, switch, case, break, return_value, AreLabels, cases_of, defaults_of, variables_in_block, variables_in_statement}
use Rattle.well_typed.specs.Programs.{WellTyped, IsFunction, IsGlobal, IsLiteral, IsNamed, around_globals, position_of_body, how_often, count_if, is_own, IsScalarVariable, IsSizedVariable, DoesNotAct}
use Rattle.well_typed.proofs.Layers.{make_place, make_value, make_part, make_statement}
use Rattle.well_typed.proofs.Steps.{place_acts_is, value_acts_is, variables_is, block_lists}
use Rattle.well_typed.proofs.ExampleTypes.{types, unaddressed, int_is_scalar, int_has_size, array_has_size, int_is_promoted, array_of_int, array_of_char, wrapped_zero, wrapped_one}
use Rattle.well_typed.proofs.Examples.{int, name}

-- ---- the program

abbrev case_block : Block
case_block = record {
  line = 2;
  variables = [];
  items = s.Case 2 (pos 0) ∷ s.Break 2 ∷ s.Case 2 (pos 1) ∷ s.Return 2 (Some (name 6 0)) ∷ [];
}

abbrev body : Block
body = record {
  line = 2;
  variables = 1 ∷ [];
  items = s.Declaration 2 [] ∷ s.Switch 2 (name 6 0) case_block ∷ s.Return 2 (Some (name 6 1)) ∷ [];
}

abbrev function : Function
function = record {
  name = 102 ∷ [];
  line = 2;
  result = 6;
  parameters = 1;
  variables = unaddressed 6 ∷ unaddressed 6 ∷ [];
  body = body;
}

abbrev store : Initial
store = i.Value (p.Element (at 1 6) (p.Global (at 1 14) 0) 0) (int (pos 1))

abbrev object : GlobalVariable
object = record { number = 0; name = 103 ∷ []; visible = true; kind = 14; line = 1; initial = store ∷ [] }

abbrev text : Literal
text = record { kind = 16; line = 1; bytes = 97 ∷ 98 ∷ 99 ∷ 0 ∷ [] }

abbrev typedef : Named
typedef = record { name = 84 ∷ []; meaning = meaning.Typedef 10 }

abbrev program : Program
program = record {
  types = types;
  functions = function ∷ [];
  globals = object ∷ [];
  literals = text ∷ [];
  names = typedef ∷ [];
}

-- ---- the function

name_is : (e : Surroundings) (n : ℕ) (x : Variable) → slice_get e.variables n ≡ Some x → Contains e.scope n →
    is_scalar e.types x.kind ≡ true → IsValue e (name x.kind n) x.kind
name_is e n x here in_scope is = make_value (v.outs-Load _ _) (
    load
    (make_place (p.outs-Variable _ _) (
    variable (record { found = x; here = here; kind = refl; in_scope = in_scope }) as_declared))
    is)

case_numbers : cases_of case_block.items ≡ pos 0 ∷ pos 1 ∷ []
case_numbers = simp (s.outs-Case, s.outs-Break, s.outs-Return)

no_defaults : defaults_of case_block.items ≡ 0
no_defaults = simp (s.outs-Case, s.outs-Break, s.outs-Return)

apart : IsDistinct int_eq (pos 0 ∷ pos 1 ∷ [])
unfolding IsDistinct
apart = ((refl, tt), (tt, tt))

case_labels : AreLabels case_block.items
case_labels = record {
  cases = subst (IsDistinct int_eq) (sym case_numbers) apart;
  defaults = rw no_defaults (omega arith);
}

function_body : IsBlock (position_of_body program function) body
function_body = block (
    one_more (make_statement (s.outs-Declaration _ _) (declaration (All-nil _))) (
    one_more (
    make_statement (s.outs-Switch _ _ _) (
    switch (name_is _ 0 (unaddressed 6) refl (0, omega arith, refl) int_is_scalar) (refl, int_is_promoted)
    (block (
    one_more (make_statement (s.outs-Case _ _) (case refl wrapped_zero)) (
    one_more (make_statement (s.outs-Break _) (break refl)) (
    one_more (make_statement (s.outs-Case _ _) (case refl wrapped_one)) (
    one_more (make_statement (s.outs-Return _ _) (
    return_value int_is_scalar (name_is _ 0 (unaddressed 6) refl (0, omega arith, refl) int_is_scalar)))
    no_statement)))))
    case_labels))
    (one_more (make_statement (s.outs-Return _ _) (
    return_value int_is_scalar (name_is _ 1 (unaddressed 6) refl (1, omega arith, refl) int_is_scalar)))
    no_statement)))

-- ---- its variables: the block lists variable 1, and nothing else is listed

declaration_lists : (line : ℕ) (stores : List Initial) → variables_in_statement (s.Declaration line stores) ≡ []
declaration_lists line stores = variables_is _ (s.outs-Declaration line stores)

switch_lists : (line : ℕ) (x : Value) (b : Block) → variables_in_statement (s.Switch line x b) ≡ variables_in_block b
switch_lists line x b = variables_is _ (s.outs-Switch line x b)

case_lists : (line : ℕ) (n : ℤ) → variables_in_statement (s.Case line n) ≡ []
case_lists line n = variables_is _ (s.outs-Case line n)

break_lists : (line : ℕ) → variables_in_statement (s.Break line) ≡ []
break_lists line = variables_is _ (s.outs-Break line)

return_lists : (line : ℕ) (x : Option Value) → variables_in_statement (s.Return line x) ≡ []
return_lists line x = variables_is _ (s.outs-Return line x)

lists : variables_in_block body ≡ 1 ∷ []
lists = simp (block_lists, declaration_lists, switch_lists, case_lists, break_lists, return_lists)

once : (n : ℕ) → how_often n (variables_in_block body) ≡ count_if (is_own function n)
once n = rw lists (go n)
  where
    go : (n : ℕ) → how_often n (1 ∷ []) ≡ count_if (is_own function n)
    go zero = refl
    go (suc zero) = refl
    go (suc (suc n)) = first_of (omega arith, grind arith)

function_is : IsFunction program function
function_is = record {
  parameters = omega arith;
  scalars = All-cons (IsScalarVariable types) (unaddressed 6) [] int_is_scalar (All-nil (IsScalarVariable types));
  sizes = All-cons (IsSizedVariable types) (unaddressed 6) (unaddressed 6 ∷ []) int_has_size (
      All-cons (IsSizedVariable types) (unaddressed 6) [] int_has_size (All-nil (IsSizedVariable types)));
  result = inr int_is_scalar;
  once = once;
  body = function_body;
}

-- ---- the global, the literal and the name

store_is : IsInitial (around_globals program) (Global 0) store
store_is = scalar
    (make_part (p.outs-Element _ _ _) (
    element_of
    (make_part (p.outs-Global _ _) (own_global refl refl))
    array_of_int (omega arith)))
    int_is_scalar
    (make_value (v.outs-Number _ _) (number refl wrapped_one))

global_does_nothing : (a : At) (n : ℕ) → acts_in_place (p.Global a n) ≡ false
global_does_nothing a n = place_acts_is _ (p.outs-Global a n)

element_does : (a : At) (q : Place) (n : ℕ) → acts_in_place (p.Element a q n) ≡ acts_in_place q
element_does a q n = place_acts_is _ (p.outs-Element a q n)

number_does_nothing : (a : At) (n : ℤ) → acts_in_value (v.Number a n) ≡ false
number_does_nothing a n = value_acts_is _ (v.outs-Number a n)

quiet : DoesNotAct store
quiet = simp (element_does, global_does_nothing, number_does_nothing)

global_is : IsGlobal program object
global_is = record {
  number = omega arith;
  size = array_has_size;
  initial = All-cons (IsInitial (around_globals program) (Global 0)) store [] store_is (All-nil _);
  quiet = All-cons DoesNotAct store [] quiet (All-nil DoesNotAct);
}

literal_is : IsLiteral types text
literal_is = record { array = array_of_char; before = 97 ∷ 98 ∷ 99 ∷ []; ends = refl }

name_is_typed : IsNamed types typedef
unfolding types
name_is_typed = (omega arith, omega arith)

one_number : IsDistinct ◌==◌ (0 ∷ [])
unfolding IsDistinct
one_number = (tt, tt)

-- ---- its size

count_block : (b : Block) → count_of_block 1 b ≡ 1 + sum (map (count_of_statement 1) b.items)
unfolding count_of_block count_of_statement
count_block b = fold_out-Block ℕ ℕ (statement_step 1) (block_step 1) b

count_statement : (one : Statement) {layer : StatementLayer} → out-Statement one ≡ layer →
    count_of_statement 1 one
    ≡ statement_step 1 (map-Statement Statement Block ℕ ℕ (count_of_statement 1) (count_of_block 1) layer)
unfolding count_of_block count_of_statement
count_statement one opens =
    fold_out-Statement ℕ ℕ (statement_step 1) (block_step 1) one
    ∙ ap
    (λ layer. statement_step 1 (map-Statement Statement Block ℕ ℕ (count_of_statement 1) (count_of_block 1) layer))
    opens

count_value : (x : Value) {layer : ValueLayer} → out-Value x ≡ layer →
    count_of_value 1 x ≡ value_step 1 (map-Value Place Value ℕ ℕ (count_of_place 1) (count_of_value 1) layer)
unfolding count_of_place count_of_value
count_value x opens =
    fold_out-Value ℕ ℕ (place_step 1) (value_step 1) x
    ∙ ap (λ layer. value_step 1 (map-Value Place Value ℕ ℕ (count_of_place 1) (count_of_value 1) layer)) opens

count_place : (q : Place) {layer : PlaceLayer} → out-Place q ≡ layer →
    count_of_place 1 q ≡ place_step 1 (map-Place Place Value ℕ ℕ (count_of_place 1) (count_of_value 1) layer)
unfolding count_of_place count_of_value
count_place q opens =
    fold_out-Place ℕ ℕ (place_step 1) (value_step 1) q
    ∙ ap (λ layer. place_step 1 (map-Place Place Value ℕ ℕ (count_of_place 1) (count_of_value 1) layer)) opens

variable_nodes : (a : At) (n : ℕ) → count_of_place 1 (p.Variable a n) ≡ 1
variable_nodes a n = count_place _ (p.outs-Variable a n)

global_nodes : (a : At) (n : ℕ) → count_of_place 1 (p.Global a n) ≡ 1
global_nodes a n = count_place _ (p.outs-Global a n)

element_nodes : (a b : At) (m n : ℕ) → count_of_place 1 (p.Element a (p.Global b m) n) ≡ 2
element_nodes a b m n = count_place _ (p.outs-Element _ _ _) ∙ simp global_nodes

name_nodes : (kind n : ℕ) → count_of_value 1 (name kind n) ≡ 2
name_nodes kind n = count_value _ (v.outs-Load _ _) ∙ simp variable_nodes

int_nodes : (n : ℤ) → count_of_value 1 (int n) ≡ 1
int_nodes n = count_value _ (v.outs-Number _ _)

return_nodes : (line kind n : ℕ) → count_of_statement 1 (s.Return line (Some (name kind n))) ≡ 3
return_nodes line kind n = count_statement _ (s.outs-Return _ _) ∙ simp name_nodes

case_nodes : (line : ℕ) (n : ℤ) → count_of_statement 1 (s.Case line n) ≡ 1
case_nodes line n = count_statement _ (s.outs-Case _ _)

break_nodes : (line : ℕ) → count_of_statement 1 (s.Break line) ≡ 1
break_nodes line = count_statement _ (s.outs-Break _)

declaration_nodes : (line : ℕ) → count_of_statement 1 (s.Declaration line []) ≡ 1
declaration_nodes line = count_statement _ (s.outs-Declaration _ _)

case_block_nodes : count_of_block 1 case_block ≡ 7
case_block_nodes = count_block case_block ∙ simp (case_nodes, break_nodes, return_nodes)

switch_nodes : count_of_statement 1 (s.Switch 2 (name 6 0) case_block) ≡ 10
switch_nodes = count_statement _ (s.outs-Switch _ _ _) ∙ simp (name_nodes, case_block_nodes)

body_nodes : count_of_block 1 body ≡ 15
body_nodes = count_block body ∙ simp (declaration_nodes, switch_nodes, return_nodes)

nodes : nodes_of_program program ≡ 25
nodes = simp (body_nodes, element_nodes, int_nodes)

array_bytes : size (shape_of types 14) ≡ 12
unfolding types shape_of
array_bytes = refl

within : IsWithinLimits program
within = record {
  nodes = rw nodes (omega arith);
  parameters = All-cons HasFewParameters function [] (omega arith) (All-nil HasFewParameters);
  bytes = rw array_bytes (omega arith);
}

-- ---- all of it

well_typed : WellTyped program
well_typed = record {
  functions = All-cons (IsFunction program) function [] function_is (All-nil (IsFunction program));
  globals = All-cons (IsGlobal program) object [] global_is (All-nil (IsGlobal program));
  numbers = one_number;
  literals = All-cons (IsLiteral types) text [] literal_is (All-nil (IsLiteral types));
  names = All-cons (IsNamed types) typedef [] name_is_typed (All-nil (IsNamed types));
  limits = within;
}
