use Rattle.std.proofs.Common.{◌≡◌, ℤ, sym, ap, ◌∙◌, rules}
use Rattle.std.specs.Int.{w32, cast_signed, cast_unsigned}
use Rattle.std.proofs.lemmas.Int.{to_z-of_z}
use Rattle.std.proofs.lemmas.Result.{err_from_is_err_and}
use Rattle.plain_meaning.specs.declared.scalar.Scalar.TheVariants.{Pointer}
use Rattle.plain_meaning.specs.declared.scalar.CheckedPointer.{CheckedPointer}
use Rattle.plain_meaning.specs.declared.tree.Expression.TheVariants as e
use Rattle.plain_meaning.specs.Points.{shift}
use Rattle.plain_meaning.specs.Values.{operate, size_of}
use Rattle.plain_meaning.specs.Meaning.{element, expression}
use Rattle.tree_walk.specs.Steps.{itself}
use Rattle.tree_walk.proofs.Passing.{passes_on, in_words, to_words, stops}
use Rattle.tree_walk.proofs.Operands.{after_right, after_left, binary_begins, after_lvalue, element_begins, after_index, base_of, base_passes, move_passes}
use Rattle.tree_walk.proofs.walk.Walk.+values.Goals as goal

pub element-returns-in_err-count-clause-leads : goal.element-returns-in_err-count-clause-leads
element-returns-in_err-count-clause-leads t c =
    let p = err_from_is_err_and c.from_residual.result c.from_residual.ensures.1 in
    let walk = c.args.self.now in
    let line = c.args.line in
    rw (p.1, p.2)
    (stops {A = CheckedPointer} walk walk c.value.new.self (element line c.args.pointer (expression line c.args.index.now) walk.variables.items) Pointer
    (expression line c.args.index.now walk.variables.items) itself c.in_err-count.field-0.0
    (λ next. (after_index line c.args.pointer (base_of walk c.args.pointer) next, base_passes walk line c.args.pointer c.args.index.now next))
    (c.in_err-count.ensures {u = tt}).leads)

pub element-returns-clause-leads : goal.element-returns-clause-leads
element-returns-clause-leads t c = λ next.
    let walk = c.args.self.now in
    let line = c.args.line in
    let pointer = c.args.pointer in
    let base = base_of walk pointer in
    let i = c.in_ok-count.count in
    let same : c.shift.result ≡ shift base i (size_of pointer.target) =
    c.shift.ensures ∙ ap (λ b. shift b (cast_signed w32 (cast_unsigned w32 i)) c.size_of.result) c.pointer-base.ensures
    ∙ ap (λ n. shift base n c.size_of.result) (to_z-of_z w32 i (search rules)) ∙ ap (λ s. shift base i s) c.size_of.ensures.value in
    passes_on (base_passes walk line pointer c.args.index.now next)
    (passes_on ((c.in_ok-count.ensures {u = tt}).leads (after_index line pointer base next))
    (to_words (next (Pointer c.shift.result)) (ap (λ q. next (Pointer q)) (sym same)) (move_passes c.value.new.self line pointer base i next)))

pub value-returns-in_err-a-in-Binary-clause-leads : goal.value-returns-in_err-a-in-Binary-clause-leads
value-returns-in_err-a-in-Binary-clause-leads t c =
    let p = err_from_is_err_and c.from_residual.result c.from_residual.ensures.1 in
    let walk = c.args.self.now in
    let line = c.args.line in
    let operator = c.in-Binary.operator in
    let left = c.get.result.now in
    let is = c.in-Binary.is ∙ ap (λ l. e.Binary operator l c.in-Binary.right) (sym c.get.ensures) in
    rw (p.1, p.2)
    (stops {A = ℤ} walk walk c.value.new.self (expression line c.args.expression.now walk.variables.items) itself (expression line left walk.variables.items) itself
    c.in_err-a-in-Binary.field-0.0
    (λ next. (
      after_left line operator c.in-Binary.right walk.variables.items next,
      binary_begins walk line c.args.expression.now operator left c.in-Binary.right is next,
    )) (c.in_err-a-in-Binary.ensures {u = tt}).leads)

pub value-returns-in_err-b-in-Binary-clause-leads : goal.value-returns-in_err-b-in-Binary-clause-leads
value-returns-in_err-b-in-Binary-clause-leads t c =
    let p = err_from_is_err_and c.from_residual-in_err-b-in-Binary.result c.from_residual-in_err-b-in-Binary.ensures.1 in
    let walk = c.args.self.now in
    let here = c.value.new.self in
    let line = c.args.line in
    let operator = c.in-Binary.operator in
    let left = c.get.result.now in
    let right = c.get-in-Binary.result.now in
    let a = c.in_ok-a-in-Binary.a in
    let is = c.in-Binary.is ∙ ap (λ l. e.Binary operator l c.in-Binary.right) (sym c.get.ensures) ∙ ap (λ r. e.Binary operator left r) (sym c.get-in-Binary.ensures) in
    let first = c.in_ok-a-in-Binary.ensures {u = tt} in
    rw (p.1, p.2)
    (stops {A = ℤ} walk here c.value-in-Binary.new.self (expression line c.args.expression.now walk.variables.items) itself (expression line right here.variables.items) itself
    c.in_err-b-in-Binary.field-0.0
    (λ next. (
      after_right operator a next,
      passes_on (binary_begins walk line c.args.expression.now operator left right is next)
          (to_words (expression line right here.variables.items (after_right operator a next))
          (ap (λ v. expression line right v.items (after_right operator a next)) (sym first.kept.variables))
          (first.leads (after_left line operator right walk.variables.items next))),
    )) (c.in_err-b-in-Binary.ensures {u = tt}).leads)

pub value-returns-in_ok-b-in-Binary-clause-leads : goal.value-returns-in_ok-b-in-Binary-clause-leads
value-returns-in_ok-b-in-Binary-clause-leads t c = λ next.
    let walk = c.args.self.now in
    let here = c.value.new.self in
    let line = c.args.line in
    let operator = c.in-Binary.operator in
    let left = c.get.result.now in
    let right = c.get-in-Binary.result.now in
    let a = c.in_ok-a-in-Binary.a in
    let b = c.in_ok-b-in-Binary.b in
    let r = c.operate.result in
    let is = c.in-Binary.is ∙ ap (λ l. e.Binary operator l c.in-Binary.right) (sym c.get.ensures) ∙ ap (λ r. e.Binary operator left r) (sym c.get-in-Binary.ensures) in
    let first = c.in_ok-a-in-Binary.ensures {u = tt} in
    let same : r ≡ operate w32 operator a b =
    c.operate.ensures ∙ ap (λ x. operate w32 operator x (cast_signed w32 (cast_unsigned w32 b))) (to_z-of_z w32 a (search rules))
    ∙ ap (λ x. operate w32 operator a x) (to_z-of_z w32 b (search rules)) in
    passes_on (binary_begins walk line c.args.expression.now operator left right is next)
    (passes_on (first.leads (after_left line operator right walk.variables.items next))
    (in_words (expression line right walk.variables.items (after_right operator a next))
    (ap (λ v. expression line right v.items (after_right operator a next)) (sym first.kept.variables))
    (to_words (next (cast_signed w32 (cast_unsigned w32 r))) (ap next (sym same ∙ sym (to_z-of_z w32 r (search rules))))
    ((c.in_ok-b-in-Binary.ensures {u = tt}).leads (after_right operator a next)))))

pub value-returns-in_err-lvalue-in-Element-clause-leads : goal.value-returns-in_err-lvalue-in-Element-clause-leads
value-returns-in_err-lvalue-in-Element-clause-leads t c =
    let p = err_from_is_err_and c.from_residual-in_err-lvalue-in-Element.result c.from_residual-in_err-lvalue-in-Element.ensures.1 in
    let walk = c.args.self.now in
    let line = c.args.line in
    let pointer = c.in-Element.pointer in
    let index = c.get-in-Element.result.now in
    let is = c.in-Element.is ∙ ap (e.Element pointer) (sym c.get-in-Element.ensures) in
    rw (p.1, p.2)
    (stops {A = ℤ} walk walk c.element.new.self (expression line c.args.expression.now walk.variables.items) itself
    (element line pointer (expression line index) walk.variables.items) Pointer c.in_err-lvalue-in-Element.field-0.0
    (λ next. (after_lvalue line pointer next, element_begins walk line c.args.expression.now pointer index is next)) (c.in_err-lvalue-in-Element.ensures {u = tt}).leads)

pub value-returns-in_err-value-in-Element-clause-leads : goal.value-returns-in_err-value-in-Element-clause-leads
value-returns-in_err-value-in-Element-clause-leads t c =
    let p = err_from_is_err_and c.from_residual-in_err-value-in-Element.result c.from_residual-in_err-value-in-Element.ensures.1 in
    let walk = c.args.self.now in
    let line = c.args.line in
    let pointer = c.in-Element.pointer in
    let index = c.get-in-Element.result.now in
    let is = c.in-Element.is ∙ ap (e.Element pointer) (sym c.get-in-Element.ensures) in
    let lvalue = c.in_ok-lvalue-in-Element.lvalue in
    rw (p.1, p.2)
    (stops {A = ℤ} walk c.element.new.self c.load.new.self (expression line c.args.expression.now walk.variables.items) itself
    (λ next. after_lvalue line pointer next (Pointer lvalue)) itself c.in_err-value-in-Element.field-0.0
    (λ next. (
      next,
      passes_on (element_begins walk line c.args.expression.now pointer index is next)
          ((c.in_ok-lvalue-in-Element.ensures {u = tt}).leads (after_lvalue line pointer next)),
    )) (c.in_err-value-in-Element.ensures {u = tt}).leads)

pub value-returns-in_ok-value-in-Element-clause-leads : goal.value-returns-in_ok-value-in-Element-clause-leads
value-returns-in_ok-value-in-Element-clause-leads t c = λ next.
    let walk = c.args.self.now in
    let line = c.args.line in
    let pointer = c.in-Element.pointer in
    let index = c.get-in-Element.result.now in
    let is = c.in-Element.is ∙ ap (e.Element pointer) (sym c.get-in-Element.ensures) in
    let v = c.in_ok-value-in-Element.value in
    passes_on (element_begins walk line c.args.expression.now pointer index is next)
    (passes_on ((c.in_ok-lvalue-in-Element.ensures {u = tt}).leads (after_lvalue line pointer next))
    (to_words (next (cast_signed w32 (cast_unsigned w32 v))) (ap next (sym (to_z-of_z w32 v (search rules))))
    ((c.in_ok-value-in-Element.ensures {u = tt}).leads next)))
