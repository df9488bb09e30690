use Rattle.std.proofs.Common.{ℤ, Bool, sym, ap, ◌∙◌, rules}
use Rattle.std.specs.Int.{w32}
use Rattle.std.proofs.lemmas.Int.{to_z-of_z}
use Rattle.std.proofs.lemmas.Result.{err_from_is_err_and}
use Rattle.plain_meaning.specs.Values.{is_true}
use Rattle.plain_meaning.specs.Meaning.{expression}
use Rattle.tree_walk.specs.Steps.{Events, itself, test_of}
use Rattle.tree_walk.proofs.Passing.{nothing, to_words, stops}
use Rattle.tree_walk.proofs.walk.Walk.holds.Goals as goal

abbrev after : (Bool → Events) → ℤ → Events
after next v = next (is_true v)

pub returns-in_err-value-clause-leads : goal.returns-in_err-value-clause-leads
returns-in_err-value-clause-leads c =
    let p = err_from_is_err_and c.from_residual.result c.from_residual.ensures.1 in
    let walk = c.args.self.now in
    let line = c.args.line in
    rw (p.1, p.2)
    (stops {A = Bool} {B = Bool} {C = ℤ} {D = ℤ} walk walk c.value.new.self (test_of line c.args.test.now walk.variables.items) itself
    (expression line c.args.test.now walk.variables.items) itself c.in_err-value.field-0.0
    (λ next. (after next, nothing walk (expression line c.args.test.now walk.variables.items (after next)))) (c.in_err-value.ensures {u = tt}).leads)

pub returns-clause-leads : goal.returns-clause-leads
returns-clause-leads c = λ next.
    let v = c.in_ok-value.value in
    to_words (next c.is_true.result) (ap next (ap is_true (sym (to_z-of_z w32 v (search rules))) ∙ sym c.is_true.ensures))
    ((c.in_ok-value.ensures {u = tt}).leads (after next))
