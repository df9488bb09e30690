-- The types that declarations of functions and objects have, and declarations that do not agree with an earlier one.
use Rattle.std.specs.Prelude.{ℕ, true, List, if◌then◌else◌}
use Rattle.static_rules.specs.Answers.{Answer, ◌>>=◌, fault}
use Rattle.static_rules.specs.Source.{Source}
use Rattle.static_rules.specs.declared.faults.CheckError.{CheckError}
use Rattle.static_rules.specs.declared.faults.CheckKind.{CheckKind}
use Rattle.static_rules.specs.declared.faults.CheckKind.TheVariants as why
use Rattle.static_rules.specs.declared.states.Made.{Made}
use Rattle.static_rules.specs.declared.states.State.{State}
use Rattle.declaration_rules.specs.Agreement.{signature_of, agreeing, repeated_function}
use Rattle.declaration_rules.specs.declared.declarations.Introduced.{Introduced}
use Rattle.declaration_rules.specs.Parts.{declares_function, made}
use Rattle.declaration_rules.specs.declared.parts.Part.{Part}
use Rattle.rule_answers.specs.Faults.{want_of_memory}
use Rattle.well_typed.specs.declared.signatures.Signature.{Signature}

-- the type of a function that the parts of a declarator declare (C11 6.9.1p2)
abbrev pub own_type : ℕ → List Part → Made → State → Answer (Signature × State)
own_type here parts base s =
    if declares_function parts base then made s parts base >>= signature_of here else fault why.TypeMismatch here

-- A fault of the type of a name that was declared before is a declaration that does not agree.
abbrev pub disagreement_by : ℕ → CheckKind → CheckError
disagreement_by here (why.Memory error) = want_of_memory
disagreement_by here why.Unknown = record { kind = why.Redefined; line = here }
disagreement_by here why.Redefined = record { kind = why.Redefined; line = here }
disagreement_by here why.TypeMismatch = record { kind = why.Redefined; line = here }
disagreement_by here why.NotAPlace = record { kind = why.Redefined; line = here }
disagreement_by here why.BadCall = record { kind = why.Redefined; line = here }
disagreement_by here (why.LeftOut feature) = record { kind = why.Redefined; line = here }
disagreement_by here why.Limit = record { kind = why.Redefined; line = here }
disagreement_by here (why.BadType reason) = record { kind = why.Redefined; line = here }

abbrev pub disagreement : ℕ → CheckError → CheckError
disagreement here error = disagreement_by here error.kind

-- a function that was declared before as one of a type
abbrev pub again : Source → List ℕ → Introduced → ℕ → Signature → Answer (Signature × State) → Answer (ℕ × State)
again source defined d number earlier type = agreeing true d.here type >>= repeated_function source defined d number earlier
