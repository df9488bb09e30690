-- What the rules of a call answer once its arguments are read.
use Rattle.std.specs.Prelude.{ℕ, false, List, Option, Some, None, Ok, if◌then◌else◌}
use Rattle.c_tree.specs.declared.values.Value.TheVariants as v
use Rattle.static_rules.specs.Answers.{Answer, ◌>>=◌, fault}
use Rattle.static_rules.specs.Calls.{answered, no_more, given_node, result_type}
use Rattle.static_rules.specs.Operands.{unknown}
use Rattle.static_rules.specs.declared.faults.CheckKind.TheVariants as why
use Rattle.static_rules.specs.declared.judged.Arguments.{Arguments}
use Rattle.static_rules.specs.declared.judged.Operand.{Operand}
use Rattle.static_rules.specs.declared.states.DeclaredFunction.{DeclaredFunction}
use Rattle.static_rules.specs.declared.states.State.{State}
use Rattle.static_rules.specs.declared.states.Where.{Where}
use Rattle.static_rules.specs.declared.symbols.BuiltIn.{BuiltIn}
use Rattle.well_typed.specs.Surroundings.{at}
use Rattle.call_steps.specs.declared.callees.Callee.{Callee}

-- ---- functions of the text

abbrev pub defined : DeclaredFunction → ℕ → Callee
defined f n = record { number = n; result = f.signature.result; parameters = f.signature.parameters }

abbrev pub callee_by : ℕ → DeclaredFunction → Option ℕ → Answer Callee
callee_by named_at f (Some n) = Ok (defined f n)
callee_by named_at f None = fault why.Unknown named_at

-- the function that is called: where the text never defines it, its name is unknown
abbrev pub callee_of : ℕ → Option DeclaredFunction → Answer Callee
callee_of named_at (Some f) = callee_by named_at f f.number
callee_of named_at None = fault why.Unknown named_at

abbrev pub call_of_text : Where → (here kind number : ℕ) → State → Arguments → Answer (Operand × State)
call_of_text w here kind number s arguments =
    answered w here s arguments >>= λ xs. Ok (unknown (v.Call (at w.line kind) number xs) kind, s)

-- ---- functions that each text has

abbrev pub given_call : Where → ℕ → BuiltIn → State → Arguments → Answer (Operand × State)
given_call w here which s arguments =
    answered w here s arguments >>= λ xs. given_node w here which xs (result_type s which)

-- ---- what is no call

-- where no function is called (C11 6.5.2.2p1)
abbrev pub call_of_other : Where → ℕ → Answer (Operand × State)
call_of_other w here = if w.constant then fault why.TypeMismatch here else fault why.BadCall here

-- `printf` without a format
abbrev pub print_of_none : Where → ℕ → State → Answer (Operand × State)
print_of_none w here s = answered w here s (no_more false) >>= λ xs. fault why.BadCall here
