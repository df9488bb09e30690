-- The labels of a `switch` as they are kept, and what the rules of labels answer.
use Rattle.std.specs.Prelude.{◌≡◌, ℤ, List, Result, Ok, MatchResult}
use Rattle.std.specs.BTreeSet.{BTreeSet, contains}
use Rattle.std.specs.Ordering.{int_cmp}
use Rattle.declaration_rules.specs.Statements.{Labels, is_case}
use Rattle.rule_answers.specs.Gives.{Tells}
use Rattle.static_rules.specs.Answers.{Answer}
use Rattle.static_rules.specs.declared.faults.CheckError.{CheckError}

-- the set has the values of these cases
abbrev pub HasCases : BTreeSet ℤ → List ℤ → Type 0
HasCases values cases = (n : ℤ) → contains int_cmp values n ≡ is_case n cases

-- what the rules answer with the labels and the state behind it
abbrev pub GivesLabelled : {A S : Type 0} → Answer ((A × Labels) × S) → Result A CheckError → Labels → S → Type 0
GivesLabelled answer result labels new = MatchResult result (λ x. answer ≡ Ok ((x, labels), new)) (λ e. Tells answer e)
