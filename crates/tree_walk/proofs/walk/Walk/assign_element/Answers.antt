use Rattle.std.proofs.Common.{◌≡◌, ℕ, ℤ, sym, ap, ◌∙◌, rules}
use Rattle.std.specs.Int.{w32, cast_signed, cast_unsigned}
use Rattle.std.proofs.lemmas.Int.{to_z-of_z}
use Rattle.std.proofs.lemmas.Result.{err_from_is_err_and}
use Rattle.plain_meaning.specs.declared.scalar.Scalar.{Scalar}
use Rattle.plain_meaning.specs.declared.scalar.Scalar.TheVariants.{Number, Pointer}
use Rattle.plain_meaning.specs.declared.scalar.CheckedPointer.{CheckedPointer}
use Rattle.plain_meaning.specs.declared.tree.Pointer.{Pointer as PointerVariable}
use Rattle.plain_meaning.specs.declared.tree.Expression.{Expression}
use Rattle.plain_meaning.specs.declared.tree.Statement.TheVariants as s
use Rattle.plain_meaning.specs.Tree.{Store}
use Rattle.plain_meaning.specs.Values.{Variables, kind_of, width_of, conversion}
use Rattle.plain_meaning.specs.Meaning.{heap_call, element, expression, statement}
use Rattle.plain_meaning.proofs.Equations as equation
use Rattle.tree_walk.specs.declared.walk.Walk.{Walk}
use Rattle.tree_walk.specs.Steps.{Events, Passes, no_value, itself}
use Rattle.tree_walk.proofs.Passing.{passes_on, to_words, stops, begin, goes_on_with}
use Rattle.tree_walk.proofs.walk.Walk.assign_element.Goals as goal

abbrev after_value : ℕ → PointerVariable → Scalar CheckedPointer → Variables CheckedPointer → (Variables CheckedPointer → Events) → ℤ → Events
after_value line p lvalue variables next v = heap_call line (Store (kind_of p.target)) lvalue (Number (conversion (width_of p.target) v)) (λ done. next variables)

abbrev after_lvalue : ℕ → PointerVariable → Expression → Variables CheckedPointer → (Variables CheckedPointer → Events) → Scalar CheckedPointer → Events
after_lvalue line p value variables next lvalue = expression line value variables (after_value line p lvalue variables next)

pub returns-in_err-lvalue-clause-walks : goal.returns-in_err-lvalue-clause-walks
returns-in_err-lvalue-clause-walks c =
    let p = err_from_is_err_and c.from_residual.result c.from_residual.ensures.1 in
    let walk = c.args.self.now in
    let line = c.args.line in
    rw (p.1, p.2) (λ n le.
    stops {A = Unit {0}} {B = Variables CheckedPointer} walk walk c.element.new.self (statement n (s.ElementAssignment line c.args.pointer c.args.index.now c.args.value.now) walk.variables.items) (λ done. c.element.new.self.variables.items)
    (element line c.args.pointer (expression line c.args.index.now) walk.variables.items) Pointer c.in_err-lvalue.field-0.0
    (λ next. (
      after_lvalue line c.args.pointer c.args.value.now walk.variables.items next,
      begin walk (equation.statement_element_assignment n line c.args.pointer c.args.index.now c.args.value.now walk.variables.items next),
    ))
    (c.in_err-lvalue.ensures {u = tt}).leads)

abbrev with_lvalue : (walk here : Walk) (n line : ℕ) (p : PointerVariable) (index value : Expression) (lvalue : CheckedPointer) (next : Variables CheckedPointer → Events) →
    here.variables ≡ walk.variables →
    Passes walk (element line p (expression line index) walk.variables.items (after_lvalue line p value walk.variables.items next)) here
    (after_lvalue line p value walk.variables.items next (Pointer lvalue)) →
    Passes walk (statement n (s.ElementAssignment line p index value) walk.variables.items next) here
    (expression line value here.variables.items (after_value line p (Pointer lvalue) walk.variables.items next))
with_lvalue walk here n line p index value lvalue next kept led =
    passes_on (begin walk (equation.statement_element_assignment n line p index value walk.variables.items next))
    (to_words (expression line value here.variables.items (after_value line p (Pointer lvalue) walk.variables.items next))
    (ap (λ u. expression line value u.items (after_value line p (Pointer lvalue) walk.variables.items next)) (sym kept)) led)

pub returns-in_err-value-clause-walks : goal.returns-in_err-value-clause-walks
returns-in_err-value-clause-walks c =
    let p = err_from_is_err_and c.from_residual-in_err-value.result c.from_residual-in_err-value.ensures.1 in
    let walk = c.args.self.now in
    let line = c.args.line in
    let here = c.element.new.self in
    let first = c.in_ok-lvalue.ensures {u = tt} in
    rw (p.1, p.2) (λ n le.
    stops {A = Unit {0}} {B = Variables CheckedPointer} walk here c.value.new.self (statement n (s.ElementAssignment line c.args.pointer c.args.index.now c.args.value.now) walk.variables.items) (λ done. c.value.new.self.variables.items)
    (expression line c.args.value.now here.variables.items) itself c.in_err-value.field-0.0
    (λ next. (
      after_value line c.args.pointer (Pointer c.in_ok-lvalue.lvalue) walk.variables.items next,
      with_lvalue walk here n line c.args.pointer c.args.index.now c.args.value.now c.in_ok-lvalue.lvalue next first.kept.variables
          (first.leads (after_lvalue line c.args.pointer c.args.value.now walk.variables.items next)),
    ))
    (c.in_err-value.ensures {u = tt}).leads)

pub returns-in_err-store-clause-walks : goal.returns-in_err-store-clause-walks
returns-in_err-store-clause-walks c =
    let p = err_from_is_err_and c.from_residual-in_err-store.result c.from_residual-in_err-store.ensures.1 in
    let walk = c.args.self.now in
    let line = c.args.line in
    let here = c.element.new.self in
    let first = c.in_ok-lvalue.ensures {u = tt} in
    let v = c.in_ok-value.value in
    let to = c.args.pointer in
    rw (p.1, p.2) (λ n le.
    stops {A = Unit {0}} {B = Variables CheckedPointer} {C = Unit {0}} {D = Unit {0}} walk c.value.new.self c.store.new.self
    (statement n (s.ElementAssignment line to c.args.index.now c.args.value.now) walk.variables.items) (λ done. c.store.new.self.variables.items)
    (λ next. heap_call line (Store (kind_of to.target)) (Pointer c.in_ok-lvalue.lvalue) (Number (conversion (width_of to.target) (cast_signed w32 (cast_unsigned w32 v)))) (λ done. next tt))
    no_value c.in_err-store.field-0.0
    (λ next. (
      (λ done. next walk.variables.items),
      to_words (after_value line to (Pointer c.in_ok-lvalue.lvalue) walk.variables.items next (cast_signed w32 (cast_unsigned w32 v)))
          (ap (after_value line to (Pointer c.in_ok-lvalue.lvalue) walk.variables.items next) (sym (to_z-of_z w32 v (search rules))))
          (passes_on (with_lvalue walk here n line to c.args.index.now c.args.value.now c.in_ok-lvalue.lvalue next first.kept.variables
          (first.leads (after_lvalue line to c.args.value.now walk.variables.items next)))
          ((c.in_ok-value.ensures {u = tt}).leads (after_value line to (Pointer c.in_ok-lvalue.lvalue) walk.variables.items next))),
    ))
    (c.in_err-store.ensures {u = tt}).leads)

pub returns-clause-walks : goal.returns-clause-walks
returns-clause-walks c = λ n le next.
    let walk = c.args.self.now in
    let line = c.args.line in
    let here = c.element.new.self in
    let first = c.in_ok-lvalue.ensures {u = tt} in
    let second = c.in_ok-value.ensures {u = tt} in
    let third = c.in_ok-store.ensures {u = tt} in
    let v = c.in_ok-value.value in
    let to = c.args.pointer in
    passes_on (with_lvalue walk here n line to c.args.index.now c.args.value.now c.in_ok-lvalue.lvalue next first.kept.variables
    (first.leads (after_lvalue line to c.args.value.now walk.variables.items next)))
    (passes_on (second.leads (after_value line to (Pointer c.in_ok-lvalue.lvalue) walk.variables.items next))
    (passes_on (begin c.value.new.self (ap (after_value line to (Pointer c.in_ok-lvalue.lvalue) walk.variables.items next) (sym (to_z-of_z w32 v (search rules)))))
    (passes_on (third.leads (λ done. next walk.variables.items))
    (goes_on_with c.store.new.self next walk (third.kept.variables ∙ second.kept.variables ∙ first.kept.variables)))))
