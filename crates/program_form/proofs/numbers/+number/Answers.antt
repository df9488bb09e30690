use Rattle.std.proofs.Common.{sym, subst, arith}
use Rattle.program_form.specs.Answers.{Gives}
use Rattle.program_form.proofs.StepLemmas.{number-zero, number-suc}
use Rattle.program_form.proofs.numbers.+number.Goals as goal

pub number-returns-then-depth-eq0 : goal.number-returns-then-depth-eq0
number-returns-then-depth-eq0 t c = λ _. number-zero c.args.texts.now c.args.depth c.args.scope.now c.args.syntax.now c.if-depth-eq0.true

pub number-returns : goal.number-returns
number-returns t c = subst (λ answer. Gives c.number_by.result answer) (sym (number-suc c.args.texts.now c.args.depth c.args.scope.now c.args.syntax.now (omega arith))) c.number_by.ensures
