use Rattle.std.proofs.Common.{ℕ, ℤ, sym, ap, ◌∙◌, rules}
use Rattle.std.specs.Prelude.{slice_set}
use Rattle.std.specs.Int.{w32}
use Rattle.std.proofs.lemmas.Int.{to_z-of_z}
use Rattle.std.proofs.lemmas.Result.{err_from_is_err_and}
use Rattle.plain_meaning.specs.declared.scalar.Scalar.TheVariants.{Number}
use Rattle.plain_meaning.specs.declared.scalar.CheckedPointer.{CheckedPointer}
use Rattle.plain_meaning.specs.declared.tree.Statement.TheVariants as s
use Rattle.plain_meaning.specs.Values.{Variables}
use Rattle.plain_meaning.specs.Meaning.{expression, statement}
use Rattle.plain_meaning.proofs.Equations as equation
use Rattle.tree_walk.specs.Steps.{Events, itself}
use Rattle.tree_walk.proofs.Passing.{passes_on, stops, begin, settles}
use Rattle.tree_walk.proofs.walk.Walk.assign.Goals as goal

abbrev after : ℕ → Variables CheckedPointer → (Variables CheckedPointer → Events) → ℤ → Events
after x variables next v = next (slice_set variables x (Number v))

pub returns-in_err-value-clause-walks : goal.returns-in_err-value-clause-walks
returns-in_err-value-clause-walks c =
    let p = err_from_is_err_and c.from_residual.result c.from_residual.ensures.1 in
    let walk = c.args.self.now in
    let line = c.args.line in
    rw (p.1, p.2) (λ n le.
    stops {A = Unit {0}} {B = Variables CheckedPointer} walk walk c.value.new.self (statement n (s.Assignment line c.args.variable c.args.value.now) walk.variables.items) (λ done. c.value.new.self.variables.items)
    (expression line c.args.value.now walk.variables.items) itself c.in_err-value.field-0.0
    (λ next. (after c.args.variable walk.variables.items next, begin walk (equation.statement_assignment n line c.args.variable c.args.value.now walk.variables.items next)))
    (c.in_err-value.ensures {u = tt}).leads)

pub returns-clause-walks : goal.returns-clause-walks
returns-clause-walks c = λ n le next.
    let walk = c.args.self.now in
    let here = c.value.new.self in
    let line = c.args.line in
    let x = c.args.variable in
    let v = c.in_ok-value.value in
    let kept = (c.in_ok-value.ensures {u = tt}).kept in
    passes_on (begin walk (equation.statement_assignment n line x c.args.value.now walk.variables.items next))
    (passes_on ((c.in_ok-value.ensures {u = tt}).leads (after x walk.variables.items next))
    (settles here c.set.new.self next (slice_set walk.variables.items x (Number v)) c.set.ensures.others
    (ap (λ u. slice_set u.items x (Number v)) (sym kept.variables)
    ∙ ap (λ m. slice_set here.variables.items x (Number m)) (sym (to_z-of_z w32 v (search rules))) ∙ sym c.set.ensures.variables)))
