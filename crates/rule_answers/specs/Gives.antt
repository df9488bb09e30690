-- What a function answers, over what the rules answer: the same, with the state behind it, or the same fault. Nothing is said where
-- memory runs out.
use Rattle.std.specs.Prelude.{◌≡◌, Ok, Err, Result, MatchResult}
use Rattle.static_rules.specs.Answers.{Answer}
use Rattle.static_rules.specs.declared.faults.CheckError.{CheckError}
use Rattle.static_rules.specs.declared.faults.CheckKind.{CheckKind}
use Rattle.static_rules.specs.declared.faults.CheckKind.TheVariants as why
use Rattle.rule_answers.specs.Faults.{want_of_memory}

abbrev pub TellsBy : {A : Type 0} → Answer A → CheckError → CheckKind → Type 0
TellsBy answer e (why.Memory error) = Unit {0}
TellsBy answer e why.Unknown = answer ≡ Err e
TellsBy answer e why.Redefined = answer ≡ Err e
TellsBy answer e why.TypeMismatch = answer ≡ Err e
TellsBy answer e why.NotAPlace = answer ≡ Err e
TellsBy answer e why.BadCall = answer ≡ Err e
TellsBy answer e (why.LeftOut feature) = answer ≡ Err e
TellsBy answer e why.Limit = answer ≡ Err e
TellsBy answer e (why.BadType reason) = answer ≡ Err e

-- a fault that the rules answer, or want of memory
abbrev pub Tells : {A : Type 0} → Answer A → CheckError → Type 0
Tells answer e = TellsBy answer e e.kind

-- what the rules answer without a state
abbrev pub GivesValue : {A : Type 0} → Answer A → Result A CheckError → Type 0
GivesValue answer result = MatchResult result (λ x. answer ≡ Ok x) (λ e. Tells answer e)

-- what they answer with the state behind it
abbrev pub Gives : {A S : Type 0} → Answer (A × S) → Result A CheckError → S → Type 0
Gives answer result new = MatchResult result (λ x. answer ≡ Ok (x, new)) (λ e. Tells answer e)

-- where the state is all that they answer
abbrev pub GivesState : {B S : Type 0} → Answer S → Result B CheckError → S → Type 0
GivesState answer result new = MatchResult result (λ x. answer ≡ Ok new) (λ e. Tells answer e)

-- where the rules answer no fault, but memory may run out
abbrev pub Makes : {A S : Type 0} → A × S → Result A CheckError → S → Type 0
Makes made result new = MatchResult result (λ x. made ≡ (x, new)) (λ e. e ≡ want_of_memory)
