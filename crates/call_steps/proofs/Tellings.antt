-- Faults that are told.
use Rattle.std.proofs.Common.{◌≡◌, ap, Err}
use Rattle.static_rules.specs.Answers.{Answer, ◌>>=◌}
use Rattle.static_rules.specs.declared.faults.CheckError.{CheckError}
use Rattle.static_rules.specs.declared.faults.CheckKind.{CheckKind}
use Rattle.static_rules.specs.declared.faults.CheckKind.TheVariants as why
use Rattle.rule_answers.specs.Gives.{Tells, TellsBy}

told-by : {A : Type 0} (answer : Answer A) (error : CheckError) (kind : CheckKind) → answer ≡ Err error →
    TellsBy answer error kind
told-by answer error (why.Memory m) is = tt
told-by answer error why.Unknown is = is
told-by answer error why.Redefined is = is
told-by answer error why.TypeMismatch is = is
told-by answer error why.NotAPlace is = is
told-by answer error why.BadCall is = is
told-by answer error (why.LeftOut feature) is = is
told-by answer error why.Limit is = is
told-by answer error (why.BadType reason) is = is

-- a fault of the first of two steps is the fault of both
pub told_behind : {A B : Type 0} (answer : Answer A) (next : A → Answer B) (error : CheckError) → answer ≡ Err error →
    Tells (answer >>= next) error
told_behind answer next error is = told-by (answer >>= next) error error.kind (ap (λ a. a >>= next) is)
