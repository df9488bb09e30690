-- The value of a `switch` (C11 6.8.4.2p1 and p5), once it was read and converted to its promoted type, where it can be.
use Rattle.std.specs.Prelude.{ℕ, not, Option}
use Rattle.static_rules.specs.Answers.{Answer, ◌>>=◌, fault_if, or_mismatch}
use Rattle.static_rules.specs.declared.faults.CheckKind.TheVariants as why
use Rattle.static_rules.specs.declared.judged.Operand.{Operand}
use Rattle.well_typed.specs.Kinds.{is_whole}

abbrev pub switched : ℕ → ℕ → Option Operand → Answer Operand
switched here kind converted =
    fault_if (not (is_whole kind)) why.TypeMismatch here >>= λ whole. or_mismatch here converted
