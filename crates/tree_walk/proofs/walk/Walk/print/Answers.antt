use Rattle.std.proofs.Common.{◌≡◌, ℤ, ◌++◌, sym, ap, ◌∙◌, subst, rules}
use Rattle.std.specs.Int.{w32}
use Rattle.std.proofs.lemmas.Int.{to_z-of_z}
use Rattle.std.proofs.lemmas.Result.{err_from_is_err_and}
use Rattle.plain_meaning.specs.declared.scalar.CheckedPointer.{CheckedPointer}
use Rattle.plain_meaning.specs.declared.tree.Statement.TheVariants as s
use Rattle.plain_meaning.specs.Tree.{Print}
use Rattle.plain_meaning.specs.Values.{Variables}
use Rattle.plain_meaning.specs.Meaning.{expression, number_line, statement}
use Rattle.plain_meaning.proofs.Equations as equation
use Rattle.tree_walk.specs.declared.walk.Walk.{Walk}
use Rattle.tree_walk.specs.Steps.{Events, Passes, itself}
use Rattle.tree_walk.proofs.Passing.{passes_on, stops, begin, goes_on_with, printed}
use Rattle.tree_walk.proofs.walk.Walk.print.Goals as goal

abbrev after : Variables CheckedPointer → (Variables CheckedPointer → Events) → ℤ → Events
after variables next v = Print (number_line v) (next variables)

pub returns-in_err-value-clause-walks : goal.returns-in_err-value-clause-walks
returns-in_err-value-clause-walks c =
    let p = err_from_is_err_and c.from_residual.result c.from_residual.ensures.1 in
    let walk = c.args.self.now in
    let line = c.args.line in
    rw (p.1, p.2) (λ n le.
    stops {A = Unit {0}} {B = Variables CheckedPointer} walk walk c.value.new.self (statement n (s.Print line c.args.value.now) walk.variables.items) (λ done. c.value.new.self.variables.items)
    (expression line c.args.value.now walk.variables.items) itself c.in_err-value.field-0.0
    (λ next. (after walk.variables.items next, begin walk (equation.statement_print n line c.args.value.now walk.variables.items next)))
    (c.in_err-value.ensures {u = tt}).leads)

pub returns-clause-walks : goal.returns-clause-walks
returns-clause-walks c = λ n le next.
    let walk = c.args.self.now in
    let here = c.value.new.self in
    let v = c.in_ok-value.value in
    let kept = (c.in_ok-value.ensures {u = tt}).kept in
    let same : c.print_line.new.self ≡ record here { text = here.text ++ number_line v } =
    c.in_ok-print_line.ensures {u = tt} ∙ ap (λ m. let w : Walk = record here { text = here.text ++ number_line m } in w) (to_z-of_z w32 v (search rules)) in
    passes_on (begin walk (equation.statement_print n c.args.line c.args.value.now walk.variables.items next))
    (passes_on ((c.in_ok-value.ensures {u = tt}).leads (after walk.variables.items next))
    (subst (λ w. Passes here (Print (number_line v) (next walk.variables.items)) w (next w.variables.items)) (sym same)
    (passes_on (printed here (number_line v) (next walk.variables.items))
    (goes_on_with (record here { text = here.text ++ number_line v }) next walk kept.variables))))
