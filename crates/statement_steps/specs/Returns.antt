-- `return` (C11 6.8.6.4), once its value was read and converted to the type of the function's result, where it can be.
use Rattle.std.specs.Prelude.{ℕ, ◌==◌, not, Option, Some, None, Ok}
use Rattle.c_tree.specs.declared.statements.Statement.{Statement}
use Rattle.c_tree.specs.declared.statements.Statement.TheVariants as t
use Rattle.static_rules.specs.Answers.{Answer, ◌>>=◌, fault_if, or_mismatch}
use Rattle.static_rules.specs.declared.faults.CheckKind.TheVariants as why
use Rattle.static_rules.specs.declared.judged.Operand.{Operand}
use Rattle.static_rules.specs.declared.states.State.{State}

-- with a value, where the function gives one
abbrev pub returned : ℕ → ℕ → Option Operand → State → Answer (Statement × State)
returned line kind converted s =
    fault_if (kind == 1) why.TypeMismatch line >>= λ gives. or_mismatch line converted >>= λ y.
    Ok (t.Return line (Some y.value), s)

-- without one, where it gives none
abbrev pub returned_nothing : ℕ → ℕ → State → Answer (Statement × State)
returned_nothing line kind s =
    fault_if (not (kind == 1)) why.TypeMismatch line >>= λ fine. Ok (t.Return line None, s)
