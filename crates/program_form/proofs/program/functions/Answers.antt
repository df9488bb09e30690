use Rattle.std.proofs.Common.{◌≡◌, ◌++◌, ◌∷◌, ◌+◌, [], drop, sym, ap, ◌∙◌, Err, rules, arith}
use Rattle.std.proofs.lemmas.Grind.{common_steps}
use Rattle.std.proofs.lemmas.List.{drop_more, drop_all, length-append}
use Rattle.program_form.proofs.StepLemmas.{functions-end, functions-more, functions-fail}
use Rattle.program_form.proofs.program.functions.Goals as goal

pub returns-in-Err-Outside-clause-value : goal.returns-in-Err-Outside-clause-value
returns-in-Err-Outside-clause-value c =
    let rest = drop (c.loop-one.one-index + 1) c.args.all.now in
    let here : drop c.loop-one.one-index c.args.all.now ≡ c.one-item.result ∷ rest =
    drop_more c.args.all.now c.loop-one.one-index c.one-item.result c.loop-one-test.true ∙ ap (λ x. x ∷ rest) (sym c.one-item.is) in
    c.loop-one.invariant.same
    ∙ functions-fail c.args.texts.now c.loop-one.names c.loop-one.found c.one-item.result _ rest here (c.in-Err-Outside.ensures c.in-Err-Outside.field-0-is)
    ∙ ap (λ n. Err n) (sym c.line_of.ensures)

pub loop-one-preserved : goal.loop-one-preserved
loop-one-preserved c =
    let rest = drop (c.loop-one.one-index + 1) c.args.all.now in
    let here : drop c.loop-one.one-index c.args.all.now ≡ c.one-item.result ∷ rest =
    drop_more c.args.all.now c.loop-one.one-index c.one-item.result c.loop-one-test.true ∙ ap (λ x. x ∷ rest) (sym c.one-item.is) in
    let named : c.declare.new.self ≡ c.loop-one.names ++ c.in-Ok.next.number ∷ [] = first_of (search rules, grind (arith, common_steps)) in
    let pushed : c.push.new.self ≡ c.loop-one.found ++ c.in-Ok.next.function ∷ [] = first_of (search rules, grind (arith, common_steps)) in
    let step = functions-more c.args.texts.now c.loop-one.names c.loop-one.found c.one-item.result _ rest c.in-Ok.next here c.in-Ok.ensures in
    let few = c.loop-one.invariant.few in
    let more = length-append c.loop-one.found (c.in-Ok.next.function ∷ []) in
    record {
      same = rw (named, pushed) (c.loop-one.invariant.same ∙ step);
      few = rw (pushed, more) (omega (arith, few));
    }

pub returns-clause-value : goal.returns-clause-value
returns-clause-value c =
    c.loop-one.invariant.same
    ∙ functions-end c.args.texts.now c.loop-one.names c.loop-one.found _ (drop_all c.loop-one.one-index c.args.all.now c.loop-one-test.false)
