-- The values of the cases of a `switch`, as one more comes.
use Rattle.std.proofs.Common.{◌≡◌, ◌∙◌, refl, sym, ap, subst, ℕ, ℤ, Bool, true, false, cond, List, [], ◌∷◌, ◌++◌}
use Rattle.std.proofs.Common.{Option, Some, None, BTreeSet}
use Rattle.std.specs.Prelude.{◌||◌, reverse, if◌then◌else◌, Result, Ok, Err}
use Rattle.std.specs.BTreeSet.{Updates}
use Rattle.std.specs.Ordering.{int_cmp, int_eq}
use Rattle.std.proofs.lemmas.List.{reverse-append}
use Rattle.c_tree.specs.declared.statements.Statement.{Statement}
use Rattle.declaration_rules.specs.Statements.{Labels, is_case, case_of, case_by, default_by, misplaced_label}
use Rattle.declaration_rules.specs.declared.statements.Inside.{Inside}
use Rattle.rule_answers.specs.Gives.{Gives, TellsBy}
use Rattle.statement_steps.specs.Cases.{HasCases, GivesLabelled}
use Rattle.static_rules.specs.Answers.{Answer, fault}
use Rattle.static_rules.specs.declared.faults.CheckError.{CheckError}
use Rattle.static_rules.specs.declared.faults.CheckKind.{CheckKind}
use Rattle.static_rules.specs.declared.faults.CheckKind.TheVariants as why
use Rattle.static_rules.specs.declared.faults.Feature.TheVariants as feature
use Rattle.static_rules.specs.declared.states.State.{State}
use Rattle.well_typed.specs.Kinds.{wrapped}

-- the last first
pub reverse_push : (cases : List ℤ) (n : ℤ) → reverse (cases ++ n ∷ []) ≡ n ∷ reverse cases
reverse_push cases n = reverse-append cases (n ∷ [])

cond-or : (a b : Bool) → cond a true b ≡ a || b
cond-or true b = refl
cond-or false b = refl

pub cases_push : (old new : BTreeSet ℤ) (cases : List ℤ) (n : ℤ) → HasCases old cases →
    Updates int_cmp old new n true → HasCases new (n ∷ cases)
cases_push old new cases n has updates = λ other.
    updates.0 other ∙ ap (λ b. cond (int_eq n other) true b) (has other)
    ∙ cond-or (int_eq n other) (is_case other cases)

-- ---- a label that is misplaced, whatever else would be answered

abbrev error-of : {A : Type 0} → CheckError → Answer A → CheckError
error-of other (Ok x) = other
error-of other (Err e) = e

fault-moved : (A B : Type 0) (kind : CheckKind) (here : ℕ) (e : CheckError) →
    fault {A = A} kind here ≡ Err e → fault {A = B} kind here ≡ Err e
fault-moved A B kind here e is = ap (λ (x : CheckError). Err x) (ap (λ (a : Answer A). error-of e a) is)

module _ (A B : Type 0) (here : ℕ) (around : Inside) where
  moved-by : (inside : Bool) (e : CheckError) →
      (if inside then fault {A = A} (why.LeftOut feature.CaseInside) here else fault why.TypeMismatch here) ≡ Err e →
      (if inside then fault {A = B} (why.LeftOut feature.CaseInside) here else fault why.TypeMismatch here) ≡ Err e
  moved-by true e is = fault-moved A B (why.LeftOut feature.CaseInside) here e is
  moved-by false e is = fault-moved A B why.TypeMismatch here e is

  moved : (e : CheckError) → misplaced_label {A = A} here around ≡ Err e → misplaced_label {A = B} here around ≡ Err e
  moved e is = moved-by around.in_switch e is

  tells-by : (e : CheckError) (kind : CheckKind) → TellsBy (misplaced_label {A = A} here around) e kind →
      TellsBy (misplaced_label {A = B} here around) e kind
  tells-by e (why.Memory m) told = tt
  tells-by e why.Unknown told = moved e told
  tells-by e why.Redefined told = moved e told
  tells-by e why.TypeMismatch told = moved e told
  tells-by e why.NotAPlace told = moved e told
  tells-by e why.BadCall told = moved e told
  tells-by e (why.LeftOut left) told = moved e told
  tells-by e why.Limit told = moved e told
  tells-by e (why.BadType reason) told = moved e told

never-by : {A : Type 0} (inside : Bool) (here : ℕ) (x : A) →
    (if inside then fault {A = A} (why.LeftOut feature.CaseInside) here else fault why.TypeMismatch here) ≡ Ok x → ⊥
never-by true here x is = cc
never-by false here x is = cc

pub misplaced_gives : (here : ℕ) (around : Inside) (labels : Labels) (s : State)
    (result : Result Statement CheckError) → Gives (misplaced_label here around) result s →
    GivesLabelled (misplaced_label here around) result labels s
misplaced_gives here around labels s (Ok x) is = absurd (never-by around.in_switch here (x, s) is)
misplaced_gives here around labels s (Err e) told =
    tells-by (Statement × State) ((Statement × Labels) × State) here around e e.kind told

-- a label by where it stands
module _ (here : ℕ) (around : Inside) (labels new : Labels) (s : State) (result : Result Statement CheckError)
    (place : Option ℕ)
  where
    pub default_in_place : (kind : ℕ) → place ≡ Some kind →
        GivesLabelled (default_by here around labels s (Some kind)) result new s →
        GivesLabelled (default_by here around labels s place) result new s
    default_in_place kind is given =
        subst (λ (d : Option ℕ). GivesLabelled (default_by here around labels s d) result new s) (sym is) given

    pub case_in_place : (kind : ℕ) (n value : ℤ) → place ≡ Some kind → value ≡ wrapped kind n →
        GivesLabelled (case_of here labels value s) result new s →
        GivesLabelled (case_by here around labels place (n, s)) result new s
    case_in_place kind n value is converted given =
        subst (λ (d : Option ℕ). GivesLabelled (case_by here around labels d (n, s)) result new s) (sym is)
        (subst (λ (v : ℤ). GivesLabelled (case_of here labels v s) result new s) converted given)

-- one that is misplaced leaves the labels
module _ (here : ℕ) (around : Inside) (labels : Labels) (s : State) (result : Result Statement CheckError)
    (place : Option ℕ)
  where
    pub default_misplaced : place ≡ None → Gives (misplaced_label here around) result s →
        GivesLabelled (default_by here around labels s place) result labels s
    default_misplaced is given =
        subst (λ (d : Option ℕ). GivesLabelled (default_by here around labels s d) result labels s) (sym is)
        (misplaced_gives here around labels s result given)

    pub case_misplaced : (n : ℤ) → place ≡ None → Gives (misplaced_label here around) result s →
        GivesLabelled (case_by here around labels place (n, s)) result labels s
    case_misplaced n is given =
        subst (λ (d : Option ℕ). GivesLabelled (case_by here around labels d (n, s)) result labels s) (sym is)
        (misplaced_gives here around labels s result given)
