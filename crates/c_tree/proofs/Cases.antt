-- Functions whose expression nodes and variables were counted by hand.
use Rattle.std.proofs.Common.{◌≡◌, ℕ, pos, false, [], ◌∷◌, Some}
use Rattle.c_tree.specs.declared.operators.Operator.TheVariants as op
use Rattle.c_tree.specs.declared.operators.Step.TheVariants as step
use Rattle.c_tree.specs.declared.operators.Fixity.TheVariants as fixity
use Rattle.c_tree.specs.declared.operators.Comparison.TheVariants as comparison
use Rattle.c_tree.specs.declared.operators.Written.TheVariants as written
use Rattle.c_tree.specs.declared.values.At.{At}
use Rattle.c_tree.specs.declared.values.Place.TheVariants as p
use Rattle.c_tree.specs.declared.values.Value.{Value}
use Rattle.c_tree.specs.declared.values.Value.TheVariants as v
use Rattle.c_tree.specs.declared.statements.Initial.TheVariants as i
use Rattle.c_tree.specs.declared.statements.ForStart.TheVariants as begin
use Rattle.c_tree.specs.declared.statements.Statement.TheVariants as s
use Rattle.c_tree.specs.declared.statements.Block.{Block}
use Rattle.c_tree.specs.declared.program.Variable.{Variable}
use Rattle.c_tree.specs.declared.program.Function.{Function}
use Rattle.c_tree.specs.Counts.{size_of_function}
use Rattle.c_tree.proofs.ValueEquations.{place_variable, place_index, value_number, value_load, value_decay, value_convert, value_binary, value_compare, value_single_step, value_print}
use Rattle.c_tree.proofs.StatementEquations.{block_nodes, statement_declaration, statement_value, statement_for, statement_return}

abbrev at : ℕ → At
at kind = record { kind = kind; line = 1 }

abbrev variable : ℕ → Variable
variable kind = record { kind = kind; line = 1; addressed = false }

-- the value of variable n of type `int`
abbrev int : ℕ → Value
int n = v.Load (at 6) (p.Variable (at 6) n)

-- `int f(int x) { long y = x + 1; return y; }`
abbrev sum_body : Block
sum_body = record {
  line = 1;
  variables = 1 ∷ [];
  items =
      s.Declaration 1 (i.Value (p.Variable (at 8) 1)
      (v.Convert (at 8) written.Implicit (v.Binary (at 6) op.Add (int 0) (v.Number (at 6) (pos 1)))) ∷ [])
      ∷ s.Return 1 (Some (v.Convert (at 6) written.Implicit (v.Load (at 8) (p.Variable (at 8) 1))))
      ∷ [];
}

abbrev sum_function : Function
sum_function = record {
  name = 102 ∷ [];
  line = 1;
  result = 6;
  parameters = 1;
  variables = variable 6 ∷ variable 8 ∷ [];
  body = sum_body;
}

-- x, y; `x + 1`, `x`, `1`; `y`
six : size_of_function sum_function ≡ 6
six =
    simp (
      block_nodes,
      statement_declaration,
      statement_return,
      value_convert,
      value_binary,
      value_load,
      value_number,
      place_variable,
    )

-- `void g(void) { int a[3]; for (int i = 0; i < 3; i++) printf("%d\n", a[i]); }`, where the type 10 is `int[3]` and 11 is
-- the pointer to `int`
abbrev element : Value
element = v.Load (at 6) (p.Index (at 6) (v.Decay (at 11) (p.Variable (at 10) 0)) (int 1))

abbrev loop_body : Block
loop_body = record {
  line = 1;
  variables = 0 ∷ [];
  items =
      s.Declaration 1 []
      ∷ s.For 1 (begin.Declaration (1 ∷ []) 1 (i.Value (p.Variable (at 6) 1) (v.Number (at 6) (pos 0)) ∷ []))
      (Some (v.Compare (at 6) comparison.Less (int 1) (v.Number (at 6) (pos 3))))
      (Some (v.Step (at 6) step.Increment fixity.Postfix 6 (p.Variable (at 6) 1)))
      (s.Value 1 (v.Print (at 6) [] (element ∷ [])))
      ∷ [];
}

abbrev loop_function : Function
loop_function = record {
  name = 103 ∷ [];
  line = 1;
  result = 1;
  parameters = 0;
  variables = variable 10 ∷ variable 6 ∷ [];
  body = loop_body;
}

-- a, i; `0`; `i < 3`, `i`, `3`; `i++`, `i`; the call, its format, `a[i]`, `a`, `i`
thirteen : size_of_function loop_function ≡ 13
thirteen =
    simp (
      block_nodes,
      statement_declaration,
      statement_for,
      statement_value,
      value_compare,
      value_single_step,
      value_print,
      value_decay,
      value_load,
      value_number,
      place_variable,
      place_index,
    )
