-- What a function finds behind what was found.
use Rattle.std.specs.Prelude.{◌≡◌, Result, MatchResult}
use Rattle.declaration_rules.specs.Stores.{Found, then_found}
use Rattle.rule_answers.specs.Faults.{want_of_memory}
use Rattle.static_rules.specs.declared.faults.CheckError.{CheckError}

-- more stands behind what was found, or memory runs out
abbrev pub Adds : {A : Type 0} → Found → Result A CheckError → Found → Found → Type 0
Adds more result old new = MatchResult result (λ x. new ≡ then_found old more) (λ e. e ≡ want_of_memory)
