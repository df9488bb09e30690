use Rattle.std.proofs.Common.{◌≡◌, ◌++◌, ◌∷◌, ◌+◌, [], length, take, drop, sym, ap, ◌∙◌, subst, rules, arith}
use Rattle.std.proofs.lemmas.Grind.{common_steps}
use Rattle.std.proofs.lemmas.Result.{err_from_is_err_and}
use Rattle.std.proofs.lemmas.List.{drop_more, drop_all, take-take}
use Rattle.program_form.specs.Answers.{Gives}
use Rattle.program_form.specs.Statements.{statement}
use Rattle.program_form.proofs.StepLemmas.{statement-zero, statement-suc, items-end, items-more, items-fail, grows}
use Rattle.program_form.proofs.statements.+statement.Goals as goal

pub statement-returns-then-depth-eq0-clause-value : goal.statement-returns-then-depth-eq0-clause-value
statement-returns-then-depth-eq0-clause-value t c = λ _. statement-zero c.args.texts.now c.args.depth c.args.scope.now c.args.syntax.now c.if-depth-eq0.true

pub statement-returns-clause-value : goal.statement-returns-clause-value
statement-returns-clause-value t c =
    subst (λ answer. Gives c.statement_by.result answer) (sym (statement-suc c.args.texts.now c.args.depth c.args.scope.now c.args.syntax.now (omega arith))) c.statement_by.ensures.value

pub items-returns-in_err-next-clause-value : goal.items-returns-in_err-next-clause-value
items-returns-in_err-next-clause-value t c =
    let p = err_from_is_err_and c.from_residual.result c.from_residual.ensures.1 in
    let rest = drop (c.loop-one.one-index + 1) c.args.all.now in
    let here : drop c.loop-one.one-index c.args.all.now ≡ c.one-item.result ∷ rest =
    drop_more c.args.all.now c.loop-one.one-index c.one-item.result c.loop-one-test.true ∙ ap (λ x. x ∷ rest) (sym c.one-item.is) in
    rw (p.1, p.2)
    (λ is.
    c.loop-one.invariant.same
    ∙ items-fail c.args.texts.now (statement c.args.texts.now c.args.depth) c.len-start.result c.loop-one.scope c.loop-one.found c.one-item.result _ rest here (c.in_err-next.ensures.value is))

pub items-loop-one-preserved : goal.items-loop-one-preserved
items-loop-one-preserved t c =
    let rest = drop (c.loop-one.one-index + 1) c.args.all.now in
    let here : drop c.loop-one.one-index c.args.all.now ≡ c.one-item.result ∷ rest =
    drop_more c.args.all.now c.loop-one.one-index c.one-item.result c.loop-one-test.true ∙ ap (λ x. x ∷ rest) (sym c.one-item.is) in
    let pushed : c.push.new.self ≡ c.loop-one.found ++ c.in_ok-next.next ∷ [] = first_of (search rules, grind (arith, common_steps)) in
    let step =
    items-more c.args.texts.now (statement c.args.texts.now c.args.depth) c.len-start.result c.loop-one.scope c.item.new.scope c.loop-one.found c.one-item.result _ rest
    c.in_ok-next.next here c.in_ok-next.ensures.value in
    let more = grows c.loop-one.scope c.item.new.scope c.in_ok-next.ensures.outside in
    record {
      same = rw pushed (c.loop-one.invariant.same ∙ step);
      grew = omega (arith, more, c.loop-one.invariant.grew);
      outside =
          sym (take-take c.len-start.result (length c.loop-one.scope) c.item.new.scope c.loop-one.invariant.grew)
          ∙ ap (λ l. take c.len-start.result l) c.in_ok-next.ensures.outside
          ∙ c.loop-one.invariant.outside;
    }

pub items-returns-clause-value : goal.items-returns-clause-value
items-returns-clause-value t c =
    c.loop-one.invariant.same
    ∙ items-end c.args.texts.now (statement c.args.texts.now c.args.depth) c.len-start.result c.loop-one.scope c.loop-one.found _
    (drop_all c.loop-one.one-index c.args.all.now c.loop-one-test.false)
