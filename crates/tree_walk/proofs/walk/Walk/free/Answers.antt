use Rattle.std.proofs.Common.{◌≡◌, ℕ, sym, ap}
use Rattle.std.specs.Prelude.{slice_index_or}
use Rattle.std.proofs.lemmas.Result.{err_from_is_err_and}
use Rattle.plain_meaning.specs.declared.scalar.Scalar.TheVariants.{Pointer}
use Rattle.plain_meaning.specs.declared.scalar.CheckedPointer.{CheckedPointer}
use Rattle.plain_meaning.specs.declared.tree.Pointer.{Pointer as PointerVariable}
use Rattle.plain_meaning.specs.declared.tree.Statement.TheVariants as s
use Rattle.plain_meaning.specs.Points.{pointer_of}
use Rattle.plain_meaning.specs.Values.{Variables, zero_of}
use Rattle.plain_meaning.specs.Meaning.{release, statement}
use Rattle.plain_meaning.proofs.Equations as equation
use Rattle.tree_walk.specs.declared.walk.Walk.{Walk}
use Rattle.tree_walk.specs.Steps.{Events, Passes, no_value}
use Rattle.tree_walk.proofs.Passing.{passes_on, to_words, stops, begin, goes_on_with}
use Rattle.tree_walk.proofs.PointerActions.{pointer_passes}
use Rattle.tree_walk.proofs.walk.Walk.free.Goals as goal

abbrev begins : (walk : Walk) (n line : ℕ) (p : PointerVariable) (q : CheckedPointer) → q ≡ pointer_of (slice_index_or walk.variables.items p.variable zero_of) →
    (next : Variables CheckedPointer → Events) →
    Passes walk (statement n (s.Free line p) walk.variables.items next) walk (release line (Pointer q) (next walk.variables.items))
begins walk n line p q read next =
    passes_on (begin walk (equation.statement_free n line p walk.variables.items next))
    (to_words (release line (Pointer q) (next walk.variables.items)) (ap (λ x. release line (Pointer x) (next walk.variables.items)) (sym read))
    (pointer_passes walk line walk.variables.items p.variable (λ x. release line x (next walk.variables.items))))

pub returns-in_err-release-clause-walks : goal.returns-in_err-release-clause-walks
returns-in_err-release-clause-walks c =
    let p = err_from_is_err_and c.from_residual.result c.from_residual.ensures.1 in
    let walk = c.args.self.now in
    let line = c.args.line in
    let q = c.pointer.result in
    rw (p.1, p.2) (λ n le.
    stops {A = Unit {0}} {B = Variables CheckedPointer} {C = Unit {0}} {D = Unit {0}} walk walk c.release.new.self (statement n (s.Free line c.args.pointer) walk.variables.items) (λ done. c.release.new.self.variables.items)
    (λ next. release line (Pointer q) (next tt)) no_value c.in_err-release.field-0.0
    (λ next. ((λ done. next walk.variables.items), begins walk n line c.args.pointer q c.pointer.ensures next))
    (c.in_err-release.ensures {u = tt}).leads)

pub returns-clause-walks : goal.returns-clause-walks
returns-clause-walks c = λ n le next.
    let walk = c.args.self.now in
    let here = c.release.new.self in
    passes_on (begins walk n c.args.line c.args.pointer c.pointer.result c.pointer.ensures next)
    (passes_on ((c.in_ok-release.ensures {u = tt}).leads (λ done. next walk.variables.items))
    (goes_on_with here next walk (c.in_ok-release.ensures {u = tt}).kept.variables))
