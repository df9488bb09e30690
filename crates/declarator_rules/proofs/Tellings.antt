-- Faults that are told.
use Rattle.std.proofs.Common.{refl, ap, ℕ, Bool, List, Some}
use Rattle.c_types.specs.declared.kinds.Field.{Field}
use Rattle.c_types.specs.declared.kinds.TypeError.{TypeError}
use Rattle.c_types.specs.declared.kinds.TypeError.TheVariants as e
use Rattle.c_types.specs.Adding.{completed, fault_beside, members_fault, tag_of}
use Rattle.c_types.specs.Calls.{IsTold}
use Rattle.c_types.specs.Table.{Types, fields_of, shape_of}
use Rattle.static_rules.specs.Answers.{Answer, ◌>>=◌, or_bad_type, unless_bad}
use Rattle.static_rules.specs.declared.faults.CheckError.{CheckError}
use Rattle.static_rules.specs.declared.faults.CheckKind.{CheckKind}
use Rattle.static_rules.specs.declared.faults.CheckKind.TheVariants as why
use Rattle.rule_answers.specs.Faults.{refused}
use Rattle.rule_answers.specs.Gives.{Tells, TellsBy}

-- a type that is refused
pub refused_tells : {A : Type 0} (here : ℕ) (reason : TypeError) (x : A) →
    Tells (unless_bad here (Some reason) x) (refused here reason)
refused_tells here (e.Memory error) x = tt
refused_tells here e.Incomplete x = refl
refused_tells here e.Empty x = refl
refused_tells here e.BadFlexible x = refl
refused_tells here e.TooLarge x = refl
refused_tells here e.Duplicate x = refl

-- a fault of the first of two steps is the fault of both
bound-by : {A B : Type 0} (answer : Answer A) (next : A → Answer B) (error : CheckError) (kind : CheckKind) →
    TellsBy answer error kind → TellsBy (answer >>= next) error kind
bound-by answer next error (why.Memory m) told = tt
bound-by answer next error why.Unknown told = ap (λ a. a >>= next) told
bound-by answer next error why.Redefined told = ap (λ a. a >>= next) told
bound-by answer next error why.TypeMismatch told = ap (λ a. a >>= next) told
bound-by answer next error why.NotAPlace told = ap (λ a. a >>= next) told
bound-by answer next error why.BadCall told = ap (λ a. a >>= next) told
bound-by answer next error (why.LeftOut feature) told = ap (λ a. a >>= next) told
bound-by answer next error why.Limit told = ap (λ a. a >>= next) told
bound-by answer next error (why.BadType reason) told = ap (λ a. a >>= next) told

pub bound_tells : {A B : Type 0} (answer : Answer A) (next : A → Answer B) (error : CheckError) →
    Tells answer error → Tells (answer >>= next) error
bound_tells answer next error told = bound-by answer next error error.kind told

-- a tag that is not completed
pub completed_tells : (here : ℕ) (types : Types) (union_tag : Bool) (n : ℕ) (fields : List Field) (reason : TypeError) →
    IsTold (fault_beside (fields_of types.tags (tag_of types n)) (members_fault (shape_of types) union_tag n fields)) reason →
    Tells (or_bad_type here (completed types union_tag n fields)) (refused here reason)
unfolding completed
completed_tells here types union_tag n fields (e.Memory error) told = tt
completed_tells here types union_tag n fields e.Incomplete told = rw told refl
completed_tells here types union_tag n fields e.Empty told = rw told refl
completed_tells here types union_tag n fields e.BadFlexible told = rw told refl
completed_tells here types union_tag n fields e.TooLarge told = rw told refl
completed_tells here types union_tag n fields e.Duplicate told = rw told refl
