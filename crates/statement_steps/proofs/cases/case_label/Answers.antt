use Rattle.std.proofs.Common.{◌≡◌, ◌∙◌, ap, ℤ, Some, None, SFits, rules, arith}
use Rattle.std.specs.Int.{w128}
use Rattle.std.proofs.lemmas.Grind.{common_steps}
use Rattle.std.proofs.lemmas.Int.{to_z-of_z}
use Rattle.statement_steps.proofs.CaseLemmas.{case_in_place, case_misplaced}
use Rattle.statement_steps.proofs.cases.case_label.Goals as goal
use Rattle.well_typed.specs.Kinds.{wrapped}

-- both values are read from their bits
pub returns-in-Some : goal.returns-in-Some
returns-in-Some c = λ s.
    let kind = c.in-Some.kind in
    let is : c.args.around.directly ≡ Some kind = first_of (search rules, grind (arith, common_steps)) in
    let read = to_z-of_z _ c.args.value c.ranges.value in
    let made : c.wrapped.result ≡ wrapped kind c.args.value =
    c.wrapped.ensures.value ∙ ap (λ (n : ℤ). wrapped kind n) read in
    let fits : SFits w128 c.wrapped.result = search rules in
    let passed = to_z-of_z _ c.wrapped.result fits in
    case_in_place c.args.here c.args.around c.args.labels.now c.converted_case.new.labels s c.converted_case.result
    c.args.around.directly kind c.args.value _ is (passed ∙ made) (c.converted_case.ensures s)

pub returns-in-None : goal.returns-in-None
returns-in-None c = λ s.
    let is : c.args.around.directly ≡ None = first_of (search rules, grind (arith, common_steps)) in
    case_misplaced c.args.here c.args.around c.args.labels.now s c.misplaced_label.result c.args.around.directly
    c.args.value is (c.misplaced_label.ensures s)
