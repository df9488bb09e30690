-- What a function of the code gives.
use Rattle.std.specs.Prelude.{◌≡◌, ℕ, List, Option, Some, None, Result, Ok, Err}
use Rattle.plain_meaning.specs.declared.tree.Function.{Function}
use Rattle.program_form.specs.declared.error.Unfit.{Unfit}
use Rattle.program_form.specs.declared.error.Unfit.TheVariants.{Outside}
use Rattle.program_form.specs.declared.error.FormError.{FormError}
use Rattle.program_form.specs.declared.error.FormError.TheVariants as refusal
use Rattle.form_parts.specs.Variables.{Variable}

-- the answer, unless memory runs out
abbrev pub Gives : {A : Type 0} → Result A Unfit → Option A → Type 0
Gives (Ok x) answer = answer ≡ Some x
Gives (Err e) answer = e ≡ Outside → answer ≡ None

-- the answer, and what is in scope after it, unless memory runs out
abbrev pub GivesIn : {A : Type 0} → Result A Unfit → List Variable → Option (A × List Variable) → Type 0
GivesIn (Ok x) after answer = answer ≡ Some (x, after)
GivesIn (Err e) after answer = e ≡ Outside → answer ≡ None

-- all functions, or the line of the first that is none, unless memory runs out
abbrev pub GivesAll : Result (List Function) FormError → Result (List Function) ℕ → Type 0
GivesAll (Ok all) answer = answer ≡ Ok all
GivesAll (Err (refusal.NotYet line)) answer = answer ≡ Err line
GivesAll (Err (refusal.Memory e)) answer = Unit {0}
