-- The end of a declaration.
use Rattle.std.specs.Prelude.{ℕ, Bool}
use Rattle.static_rules.specs.Answers.{Answer, ◌>>=◌, fault_if}
use Rattle.static_rules.specs.declared.faults.CheckKind.TheVariants as why
use Rattle.static_rules.specs.declared.states.State.{State}
use Rattle.declaration_rules.specs.Declarations.{with_bytes}

-- behind its last declarator: what does not fit outside braces is told, and its objects are counted
abbrev pub closed_by : ℕ → Bool → ℕ → State → Answer State
closed_by here mismatch bytes s = fault_if mismatch why.TypeMismatch here >>= λ fine. with_bytes here s bytes
