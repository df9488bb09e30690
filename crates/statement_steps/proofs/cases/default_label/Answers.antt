use Rattle.std.proofs.Common.{◌≡◌, Some, None, rules, arith}
use Rattle.std.proofs.lemmas.Grind.{common_steps}
use Rattle.statement_steps.proofs.CaseLemmas.{default_in_place, default_misplaced}
use Rattle.statement_steps.proofs.cases.default_label.Goals as goal

pub returns-in-Some : goal.returns-in-Some
returns-in-Some c = λ s.
    let kind = c.in-Some.field-0 in
    let is : c.args.around.directly ≡ Some kind = first_of (search rules, grind (arith, common_steps)) in
    default_in_place c.args.here c.args.around c.args.labels.now c.first_default.new.labels s c.first_default.result
    c.args.around.directly kind is (c.first_default.ensures s c.args.around kind)

pub returns-in-None : goal.returns-in-None
returns-in-None c = λ s.
    let is : c.args.around.directly ≡ None = first_of (search rules, grind (arith, common_steps)) in
    default_misplaced c.args.here c.args.around c.args.labels.now s c.misplaced_label.result c.args.around.directly is
    (c.misplaced_label.ensures s)
