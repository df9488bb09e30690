-- What is found, as one more thing comes.
use Rattle.std.proofs.Common.{◌≡◌, ◌∙◌, refl, sym, ap, ap₂, subst, ℕ, List, [], ◌∷◌, ◌++◌, append-nil}
use Rattle.std.proofs.Common.{Option, Some, None, Ok}
use Rattle.declaration_rules.specs.Initialisers.{in_braces, in_braces_by, kind_of_unfit}
use Rattle.declaration_rules.specs.Stores.{Found, Store, Stored, then_found, unfit, stored, first_told, told_of}
use Rattle.declaration_rules.specs.declared.stores.Step.{Step}
use Rattle.declaration_rules.specs.declared.stores.Unfit.{Unfit}
use Rattle.declaration_rules.specs.declared.stores.Unfit.TheVariants as unfits
use Rattle.initialiser_steps.specs.Braces.{IsWithin}
use Rattle.rule_answers.specs.Gives.{Tells}
use Rattle.static_rules.specs.declared.faults.CheckError.{CheckError}
use Rattle.static_rules.specs.declared.states.State.{State}

-- one cause is told as it is
told_alone : (one : Option Unfit) → first_told one None ≡ one
told_alone None = refl
told_alone (Some unfits.Mismatch) = refl
told_alone (Some unfits.Elided) = refl

pub with_unfit : (found : Found) (reason : Unfit) →
    record found { unfit = first_told found.unfit (Some reason) } ≡ then_found found (unfit reason)
with_unfit found reason =
    ap (λ (stores : List Store). record { stores = stores; unfit = first_told found.unfit (Some reason) })
    (sym (append-nil found.stores))

pub with_store : (found : Found) (path : List Step) (what : Stored) →
    record found { stores = found.stores ++ record { path = path; what = what } ∷ [] }
    ≡ then_found found (stored path what)
with_store found path what =
    let stores : List Store = found.stores ++ record { path = path; what = what } ∷ [] in
    ap (λ (told : Option Unfit). record { stores = stores; unfit = told })
    (sym (told_alone found.unfit))

-- where nothing in braces is wrong, what waited before them is told behind them
pub after_braces : (so_far before within : Found) (outer : Option Unfit) → before.unfit ≡ outer →
    IsWithin so_far before within → so_far.unfit ≡ None → record so_far { unfit = outer } ≡ then_found before within
after_braces so_far before within outer waits is fine =
    let none : within.unfit ≡ None = sym (ap (λ (f : Found). f.unfit) is) ∙ fine in
    ap₂ (λ (stores : List Store) (told : Option Unfit). record { stores = stores; unfit = told })
    (ap (λ (f : Found). f.stores) is)
    (sym waits ∙ sym (told_alone before.unfit) ∙ ap (λ (o : Option Unfit). first_told before.unfit o) (sym none))

-- what does not fit in braces is told behind them
tells_unfit : (here : ℕ) (reason : Unfit) (r : Found × State) →
    Tells (in_braces_by here (Some reason) r) (record { kind = kind_of_unfit reason; line = here })
tells_unfit here unfits.Mismatch r = refl
tells_unfit here unfits.Elided r = refl

pub braces_tell : (here : ℕ) (so_far before within : Found) (s : State) (reason : Unfit) →
    IsWithin so_far before within → so_far.unfit ≡ Some reason →
    Tells (in_braces here (within, s)) (record { kind = kind_of_unfit reason; line = here })
braces_tell here so_far before within s reason is wrong =
    let told : within.unfit ≡ Some reason = sym (ap (λ (f : Found). f.unfit) is) ∙ wrong in
    let fault : CheckError = record { kind = kind_of_unfit reason; line = here } in
    subst (λ (o : Option Unfit). Tells (in_braces_by here o (within, s)) fault) (sym told)
    (tells_unfit here reason (within, s))

-- nothing is, where all fits
pub braces_pass : (here : ℕ) (so_far before within : Found) (s : State) → IsWithin so_far before within →
    so_far.unfit ≡ None → in_braces here (within, s) ≡ Ok (within, s)
braces_pass here so_far before within s is fine =
    let none : within.unfit ≡ None = sym (ap (λ (f : Found). f.unfit) is) ∙ fine in
    ap (λ (o : Option Unfit). in_braces_by here o (within, s)) none
