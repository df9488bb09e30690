use Rattle.std.proofs.Common.{◌≡◌, ℕ, ℤ, [], ◌∷◌, ◌++◌, length, sym, ap, ◌∙◌, arith, rules}
use Rattle.std.specs.Prelude.{slice_set}
use Rattle.std.specs.Int.{w32}
use Rattle.std.proofs.lemmas.Int.{to_z-of_z}
use Rattle.std.proofs.lemmas.Result.{err_from_is_err_and}
use Rattle.plain_meaning.specs.declared.scalar.Scalar.TheVariants.{Number}
use Rattle.plain_meaning.specs.declared.scalar.CheckedPointer.{CheckedPointer}
use Rattle.plain_meaning.specs.declared.tree.Expression.{Expression}
use Rattle.plain_meaning.specs.declared.tree.Statement.TheVariants as s
use Rattle.plain_meaning.specs.Values.{Variables, zero_of}
use Rattle.plain_meaning.specs.Meaning.{expression, statement}
use Rattle.plain_meaning.proofs.Equations as equation
use Rattle.tree_walk.specs.declared.walk.Walk.{Walk}
use Rattle.tree_walk.specs.Steps.{Events, Passes, itself}
use Rattle.tree_walk.proofs.Passing.{passes_on, stops, begin, settles}
use Rattle.tree_walk.proofs.Declared.{last_set}
use Rattle.tree_walk.proofs.walk.Walk.declare.Goals as goal

abbrev after : Variables CheckedPointer → (Variables CheckedPointer → Events) → ℤ → Events
after variables next v = next (variables ++ Number v ∷ [])

abbrev begins : (walk pushed : Walk) (n line : ℕ) (value : Expression) → pushed ≡ record walk { variables = pushed.variables } →
    walk.variables.items ++ zero_of ∷ [] ≡ pushed.variables.items → (next : Variables CheckedPointer → Events) →
    Passes walk (statement n (s.Declaration line value) walk.variables.items next) pushed (expression line value pushed.variables.items (after walk.variables.items next))
begins walk pushed n line value others is next =
    passes_on (begin walk (equation.statement_declaration n line value walk.variables.items next))
    (settles walk pushed (λ v. expression line value v (after walk.variables.items next)) (walk.variables.items ++ zero_of ∷ []) others is)

pub returns-in_err-value-clause-walks : goal.returns-in_err-value-clause-walks
returns-in_err-value-clause-walks c =
    let p = err_from_is_err_and c.from_residual-in_err-value.result c.from_residual-in_err-value.ensures.1 in
    let walk = c.args.self.now in
    let line = c.args.line in
    let pushed = c.push.new.self in
    rw (p.1, p.2) (λ n le.
    stops {A = Unit {0}} {B = Variables CheckedPointer} walk pushed c.value.new.self (statement n (s.Declaration line c.args.value.now) walk.variables.items) (λ done. c.value.new.self.variables.items)
    (expression line c.args.value.now pushed.variables.items) itself c.in_err-value.field-0.0
    (λ next. (
      after walk.variables.items next,
      begins walk pushed n line c.args.value.now (c.in_ok-push.ensures {u = tt}).others (sym (c.in_ok-push.ensures {u = tt}).variables) next,
    ))
    (c.in_err-value.ensures {u = tt}).leads)

pub returns-clause-walks : goal.returns-clause-walks
returns-clause-walks c = λ n le next.
    let walk = c.args.self.now in
    let pushed = c.push.new.self in
    let here = c.value.new.self in
    let line = c.args.line in
    let v = c.in_ok-value.value in
    let kept = (c.in_ok-value.ensures {u = tt}).kept in
    let at : c.len-variable.result ≡ length walk.variables.items = omega (arith, walk.variables.ok.0) in
    passes_on (begins walk pushed n line c.args.value.now (c.in_ok-push.ensures {u = tt}).others (sym (c.in_ok-push.ensures {u = tt}).variables) next)
    (passes_on ((c.in_ok-value.ensures {u = tt}).leads (after walk.variables.items next))
    (settles here c.set.new.self next (walk.variables.items ++ Number v ∷ []) c.set.ensures.others
    (last_set walk.variables.items here.variables.items c.set.new.self.variables.items zero_of (Number v) c.len-variable.result
    (ap (λ u. u.items) kept.variables ∙ (c.in_ok-push.ensures {u = tt}).variables) at
    (c.set.ensures.variables ∙ ap (λ m. slice_set here.variables.items c.len-variable.result (Number m)) (to_z-of_z w32 v (search rules))))))
