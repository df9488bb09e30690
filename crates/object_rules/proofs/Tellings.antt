-- Faults that are told.
use Rattle.std.proofs.Common.{◌≡◌, refl, ap, ℕ, Bool, true, Option, Some, None}
use Rattle.c_types.specs.declared.kinds.TypeError.{TypeError}
use Rattle.c_types.specs.declared.kinds.TypeError.TheVariants as e
use Rattle.c_types.specs.Adding.{with_array, array_fault}
use Rattle.c_types.specs.Calls.{IsTold}
use Rattle.c_types.specs.Table.{Types, shape_of}
use Rattle.declaration_rules.specs.Agreement.{agreeing}
use Rattle.object_rules.specs.Types.{disagreement, disagreement_by}
use Rattle.rule_answers.specs.Faults.{refused}
use Rattle.rule_answers.specs.Gives.{Tells, TellsBy}
use Rattle.static_rules.specs.Answers.{Answer, ◌>>=◌, or_bad_type}
use Rattle.static_rules.specs.declared.faults.CheckError.{CheckError}
use Rattle.static_rules.specs.declared.faults.CheckKind.{CheckKind}
use Rattle.static_rules.specs.declared.faults.CheckKind.TheVariants as why

-- a fault of the first of two steps is the fault of both
bound-by : {A B : Type 0} (answer : Answer A) (next : A → Answer B) (error : CheckError) (kind : CheckKind) →
    TellsBy answer error kind → TellsBy (answer >>= next) error kind
bound-by answer next error (why.Memory m) told = tt
bound-by answer next error why.Unknown told = ap (λ a. a >>= next) told
bound-by answer next error why.Redefined told = ap (λ a. a >>= next) told
bound-by answer next error why.TypeMismatch told = ap (λ a. a >>= next) told
bound-by answer next error why.NotAPlace told = ap (λ a. a >>= next) told
bound-by answer next error why.BadCall told = ap (λ a. a >>= next) told
bound-by answer next error (why.LeftOut feature) told = ap (λ a. a >>= next) told
bound-by answer next error why.Limit told = ap (λ a. a >>= next) told
bound-by answer next error (why.BadType reason) told = ap (λ a. a >>= next) told

pub bound_tells : {A B : Type 0} (answer : Answer A) (next : A → Answer B) (error : CheckError) →
    Tells answer error → Tells (answer >>= next) error
bound_tells answer next error told = bound-by answer next error error.kind told

-- a fault of the type of a name that was declared before is another one
disagreement-by : {A B : Type 0} (here : ℕ) (answer : Answer A) (next : A → Answer B) (error : CheckError) (kind : CheckKind) →
    TellsBy answer error kind → Tells (agreeing true here answer >>= next) (disagreement_by here kind)
disagreement-by here answer next error (why.Memory m) told = tt
disagreement-by here answer next error why.Unknown told = ap (λ a. agreeing true here a >>= next) told
disagreement-by here answer next error why.Redefined told = ap (λ a. agreeing true here a >>= next) told
disagreement-by here answer next error why.TypeMismatch told = ap (λ a. agreeing true here a >>= next) told
disagreement-by here answer next error why.NotAPlace told = ap (λ a. agreeing true here a >>= next) told
disagreement-by here answer next error why.BadCall told = ap (λ a. agreeing true here a >>= next) told
disagreement-by here answer next error (why.LeftOut feature) told = ap (λ a. agreeing true here a >>= next) told
disagreement-by here answer next error why.Limit told = ap (λ a. agreeing true here a >>= next) told
disagreement-by here answer next error (why.BadType reason) told = ap (λ a. agreeing true here a >>= next) told

pub disagreement_tells : {A B : Type 0} (here : ℕ) (answer : Answer A) (next : A → Answer B) (error : CheckError) →
    Tells answer error → Tells (agreeing true here answer >>= next) (disagreement here error)
disagreement_tells here answer next error told = disagreement-by here answer next error error.kind told

-- an array that is refused
pub array_tells : (here : ℕ) (types : Types) (of count : ℕ) (reason : TypeError) → IsTold (array_fault (shape_of types of) count) reason →
    Tells (or_bad_type here (with_array types of count)) (refused here reason)
unfolding with_array
array_tells here types of count (e.Memory error) told = tt
array_tells here types of count e.Incomplete told = rw told refl
array_tells here types of count e.Empty told = rw told refl
array_tells here types of count e.BadFlexible told = rw told refl
array_tells here types of count e.TooLarge told = rw told refl
array_tells here types of count e.Duplicate told = rw told refl
