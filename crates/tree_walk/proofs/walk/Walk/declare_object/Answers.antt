use Rattle.std.proofs.Common.{[], ◌∷◌, ◌++◌, sym, ap, ◌∙◌}
use Rattle.std.proofs.lemmas.Result.{err_from_is_err_and}
use Rattle.plain_meaning.specs.declared.scalar.Scalar.{Scalar}
use Rattle.plain_meaning.specs.declared.scalar.Scalar.TheVariants.{Pointer}
use Rattle.plain_meaning.specs.declared.scalar.CheckedPointer.{CheckedPointer}
use Rattle.plain_meaning.specs.declared.tree.Statement.TheVariants as s
use Rattle.plain_meaning.specs.Values.{Variables}
use Rattle.plain_meaning.specs.Meaning.{allocation, statement}
use Rattle.plain_meaning.proofs.Equations as equation
use Rattle.tree_walk.specs.Steps.{Events}
use Rattle.tree_walk.proofs.Passing.{passes_on, stops, begin, settles}
use Rattle.tree_walk.proofs.walk.Walk.declare_object.Goals as goal

abbrev after : Variables CheckedPointer → (Variables CheckedPointer → Events) → Scalar CheckedPointer → Events
after variables next p = next (variables ++ p ∷ [])

pub returns-in_err-pointer-clause-walks : goal.returns-in_err-pointer-clause-walks
returns-in_err-pointer-clause-walks c =
    let p = err_from_is_err_and c.from_residual.result c.from_residual.ensures.1 in
    let walk = c.args.self.now in
    let line = c.args.line in
    rw (p.1, p.2) (λ n le.
    stops {A = Unit {0}} {B = Variables CheckedPointer} walk walk c.allocate.new.self (statement n (s.Allocation line c.args.target c.args.size) walk.variables.items) (λ done. c.allocate.new.self.variables.items)
    (allocation line c.args.target c.args.size) Pointer c.in_err-pointer.field-0.0
    (λ next. (after walk.variables.items next, begin walk (equation.statement_allocation n line c.args.target c.args.size walk.variables.items next)))
    (c.in_err-pointer.ensures {u = tt}).leads)

pub returns-clause-walks : goal.returns-clause-walks
returns-clause-walks c = λ n le next.
    let walk = c.args.self.now in
    let here = c.allocate.new.self in
    let q = c.in_ok-pointer.pointer in
    let kept = (c.in_ok-pointer.ensures {u = tt}).kept in
    passes_on (begin walk (equation.statement_allocation n c.args.line c.args.target c.args.size walk.variables.items next))
    (passes_on ((c.in_ok-pointer.ensures {u = tt}).leads (after walk.variables.items next))
    (settles here c.push.new.self next (walk.variables.items ++ Pointer q ∷ []) (c.in_ok-push.ensures {u = tt}).others
    (ap (λ u. u.items ++ Pointer q ∷ []) (sym kept.variables) ∙ sym (c.in_ok-push.ensures {u = tt}).variables)))
