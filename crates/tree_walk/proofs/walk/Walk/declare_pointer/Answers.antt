use Rattle.std.proofs.Common.{◌≡◌, ℕ, [], ◌∷◌, ◌++◌, length, sym, ap, ◌∙◌, arith}
use Rattle.std.specs.Prelude.{slice_index_or}
use Rattle.std.proofs.lemmas.Result.{err_from_is_err_and}
use Rattle.plain_meaning.specs.declared.scalar.Scalar.{Scalar}
use Rattle.plain_meaning.specs.declared.scalar.Scalar.TheVariants.{Pointer}
use Rattle.plain_meaning.specs.declared.scalar.CheckedPointer.{CheckedPointer}
use Rattle.plain_meaning.specs.declared.tree.Target.{Target}
use Rattle.plain_meaning.specs.declared.tree.Pointer.{Pointer as PointerVariable}
use Rattle.plain_meaning.specs.declared.tree.Statement.TheVariants as s
use Rattle.plain_meaning.specs.Tree.{Convert, Turn, Point}
use Rattle.plain_meaning.specs.Points.{pointer_of, null}
use Rattle.plain_meaning.specs.Values.{Variables, zero_of, type_of}
use Rattle.plain_meaning.specs.Meaning.{cast, statement}
use Rattle.plain_meaning.proofs.Equations as equation
use Rattle.tree_walk.specs.declared.walk.Walk.{Walk}
use Rattle.tree_walk.specs.Steps.{Events, Passes}
use Rattle.tree_walk.proofs.Passing.{passes_on, stops, begin, settles}
use Rattle.tree_walk.proofs.PointerActions.{null_passes}
use Rattle.tree_walk.proofs.Declared.{last_set, cast_begins}
use Rattle.tree_walk.proofs.walk.Walk.declare_pointer.Goals as goal

abbrev after : Variables CheckedPointer → (Variables CheckedPointer → Events) → Scalar CheckedPointer → Events
after variables next p = next (variables ++ p ∷ [])

abbrev begins : (walk pushed : Walk) (n line : ℕ) (target : Target) (source : PointerVariable) (q : CheckedPointer) → pushed ≡ record walk { variables = pushed.variables } →
    walk.variables.items ++ Pointer null ∷ [] ≡ pushed.variables.items → q ≡ pointer_of (slice_index_or pushed.variables.items source.variable zero_of) →
    (next : Variables CheckedPointer → Events) →
    Passes walk (statement n (s.PointerDeclaration line target source) walk.variables.items next) pushed
    (Turn line (Point line (Convert (type_of target)) (Pointer q) zero_of (after walk.variables.items next)))
begins walk pushed n line target source q others is read next =
    passes_on (begin walk (equation.statement_pointer_declaration n line target source walk.variables.items next))
    (passes_on (null_passes walk line (λ x. cast line target source (walk.variables.items ++ x ∷ []) (after walk.variables.items next)))
    (passes_on (settles walk pushed (λ v. cast line target source v (after walk.variables.items next)) (walk.variables.items ++ Pointer null ∷ []) others is)
    (cast_begins pushed line target source q read (after walk.variables.items next))))

pub returns-in_err-pointer-clause-walks : goal.returns-in_err-pointer-clause-walks
returns-in_err-pointer-clause-walks c =
    let p = err_from_is_err_and c.from_residual-in_err-pointer.result c.from_residual-in_err-pointer.ensures.1 in
    let walk = c.args.self.now in
    let line = c.args.line in
    let pushed = c.push.new.self in
    let q = c.pointer.result in
    rw (p.1, p.2) (λ n le.
    stops {A = Unit {0}} {B = Variables CheckedPointer} walk pushed c.cast.new.self (statement n (s.PointerDeclaration line c.args.target c.args.source) walk.variables.items) (λ done. c.cast.new.self.variables.items)
    (λ next. Turn line (Point line (Convert (type_of c.args.target)) (Pointer q) zero_of next)) Pointer c.in_err-pointer.field-0.0
    (λ next. (
      after walk.variables.items next,
      begins walk pushed n line c.args.target c.args.source q (c.in_ok-push.ensures {u = tt}).others (sym (c.in_ok-push.ensures {u = tt}).variables) c.pointer.ensures next,
    ))
    (c.in_err-pointer.ensures {u = tt}).leads)

pub returns-clause-walks : goal.returns-clause-walks
returns-clause-walks c = λ n le next.
    let walk = c.args.self.now in
    let pushed = c.push.new.self in
    let here = c.cast.new.self in
    let q = c.in_ok-pointer.pointer in
    let kept = (c.in_ok-pointer.ensures {u = tt}).kept in
    let at : c.len-variable.result ≡ length walk.variables.items = omega (arith, walk.variables.ok.0) in
    passes_on (begins walk pushed n c.args.line c.args.target c.args.source c.pointer.result (c.in_ok-push.ensures {u = tt}).others
    (sym (c.in_ok-push.ensures {u = tt}).variables) c.pointer.ensures next)
    (passes_on ((c.in_ok-pointer.ensures {u = tt}).leads (after walk.variables.items next))
    (settles here c.set.new.self next (walk.variables.items ++ Pointer q ∷ []) c.set.ensures.others
    (last_set walk.variables.items here.variables.items c.set.new.self.variables.items (Pointer null) (Pointer q) c.len-variable.result
    (ap (λ u. u.items) kept.variables ∙ (c.in_ok-push.ensures {u = tt}).variables) at c.set.ensures.variables)))
