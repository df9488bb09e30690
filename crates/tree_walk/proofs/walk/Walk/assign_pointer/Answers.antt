use Rattle.std.proofs.Common.{ℕ, sym, ap, ◌∙◌}
use Rattle.std.specs.Prelude.{slice_set}
use Rattle.std.proofs.lemmas.Result.{err_from_is_err_and}
use Rattle.plain_meaning.specs.declared.scalar.Scalar.{Scalar}
use Rattle.plain_meaning.specs.declared.scalar.Scalar.TheVariants.{Pointer}
use Rattle.plain_meaning.specs.declared.scalar.CheckedPointer.{CheckedPointer}
use Rattle.plain_meaning.specs.declared.tree.Statement.TheVariants as s
use Rattle.plain_meaning.specs.Tree.{Convert, Turn, Point}
use Rattle.plain_meaning.specs.Values.{Variables, zero_of, type_of}
use Rattle.plain_meaning.specs.Meaning.{statement}
use Rattle.plain_meaning.proofs.Equations as equation
use Rattle.tree_walk.specs.Steps.{Events}
use Rattle.tree_walk.proofs.Passing.{passes_on, stops, begin, settles}
use Rattle.tree_walk.proofs.Declared.{cast_begins}
use Rattle.tree_walk.proofs.walk.Walk.assign_pointer.Goals as goal

abbrev after : ℕ → Variables CheckedPointer → (Variables CheckedPointer → Events) → Scalar CheckedPointer → Events
after x variables next p = next (slice_set variables x p)

pub returns-in_err-converted-clause-walks : goal.returns-in_err-converted-clause-walks
returns-in_err-converted-clause-walks c =
    let p = err_from_is_err_and c.from_residual.result c.from_residual.ensures.1 in
    let walk = c.args.self.now in
    let line = c.args.line in
    let to = c.args.pointer in
    let q = c.pointer.result in
    rw (p.1, p.2) (λ n le.
    stops {A = Unit {0}} {B = Variables CheckedPointer} walk walk c.cast.new.self (statement n (s.PointerAssignment line to c.args.source) walk.variables.items) (λ done. c.cast.new.self.variables.items)
    (λ next. Turn line (Point line (Convert (type_of to.target)) (Pointer q) zero_of next)) Pointer c.in_err-converted.field-0.0
    (λ next. (
      after to.variable walk.variables.items next,
      passes_on (begin walk (equation.statement_pointer_assignment n line to c.args.source walk.variables.items next))
          (cast_begins walk line to.target c.args.source q c.pointer.ensures (after to.variable walk.variables.items next)),
    ))
    (c.in_err-converted.ensures {u = tt}).leads)

pub returns-clause-walks : goal.returns-clause-walks
returns-clause-walks c = λ n le next.
    let walk = c.args.self.now in
    let here = c.cast.new.self in
    let line = c.args.line in
    let to = c.args.pointer in
    let q = c.in_ok-converted.converted in
    let kept = (c.in_ok-converted.ensures {u = tt}).kept in
    passes_on (begin walk (equation.statement_pointer_assignment n line to c.args.source walk.variables.items next))
    (passes_on (cast_begins walk line to.target c.args.source c.pointer.result c.pointer.ensures (after to.variable walk.variables.items next))
    (passes_on ((c.in_ok-converted.ensures {u = tt}).leads (after to.variable walk.variables.items next))
    (settles here c.set.new.self next (slice_set walk.variables.items to.variable (Pointer q)) c.set.ensures.others
    (ap (λ u. slice_set u.items to.variable (Pointer q)) (sym kept.variables) ∙ sym c.set.ensures.variables))))
